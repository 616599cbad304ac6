use Rattle.std.proofs.Common.{◌≡◌, ◌++◌, drop, map}
use Rattle.std.specs.List.{flat_map}
use Rattle.file_model.specs.Lists.{corners_of}
use Rattle.file_model.specs.Spelling.{corners_text}
use Rattle.patch_body.proofs.spelling.push_all_corners.Given as goal

-- what is there and what is still appended make the whole
abbrev pub invariant-loop-triangle : goal.invariant-loop-triangle
invariant-loop-triangle l = l.out.items ++ flat_map corners_text (map corners_of (drop l.triangle-index l.corners)) ≡ l.fn.out.items ++ flat_map corners_text (map corners_of l.corners)
