use Rattle.std.proofs.Common.{◌≡◌, true, map, take}
use Rattle.std.specs.List.{list_all}
use Rattle.file_model.specs.Rules.{is_body}
use Rattle.std.specs.Arc.{arc_value}
use Rattle.file_convert.specs.Held.{lists_of, with_all_patches}
use Rattle.file_convert.proofs.converting.add_patches.Given as goal

abbrev pub invariant-loop-patch : goal.invariant-loop-patch
invariant-loop-patch l = record {
  parts : l.parts ≡ with_all_patches l.fn.parts (take l.patch l.fields) (take l.patch (lists_of (map arc_value l.bodies)));
  rules : list_all (is_body l.version) (take l.patch (lists_of (map arc_value l.bodies))) ≡ true;
}
