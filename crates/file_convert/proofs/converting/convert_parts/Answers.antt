use Rattle.std.proofs.Common.{◌≡◌, length, map, sym, ap, subst, ◌∙◌, arith}
use Rattle.std.specs.Arc.{arc_value}
use Rattle.file_model.specs.Lists.{FileLists}
use Rattle.file_model.specs.Spelling.{file_text}
use Rattle.file_model.specs.Rules.{IsPatchFile}
use Rattle.file_laws.specs.Indexes.{between_most}
use Rattle.file_convert.specs.Converted.{with_version}
use Rattle.file_convert.specs.Held.{lists_of, held_file, with_all_nodes, with_all_patches}
use Rattle.std.proofs.lemmas.List.{length-map}
use Rattle.file_convert.proofs.Fitting.{converted_is_file}
use Rattle.file_convert.proofs.converting.convert_parts.Goals as goal

pub check_spans-requires-clause-few : goal.check_spans-requires-clause-few
check_spans-requires-clause-few c =
    omega (arith, length-map c.args.bodies.now arc_value, c.requires.bodies.as_many, between_most 1 65536 (length c.args.index.now.fields) c.version-rules.ensures.rules.patch_count)

pub add_patches-requires-clause-as_many : goal.add_patches-requires-clause-as_many
add_patches-requires-clause-as_many c = sym (length-map c.args.bodies.now arc_value) ∙ c.requires.bodies.as_many ∙ ap length (sym c.fields.ensures)

pub returns-clause-file : goal.returns-clause-file
returns-clause-file c =
    let seen = map arc_value c.args.bodies.now in
    let none = c.with_version-parts.ensures in
    let nodes = c.in_ok-add_nodes.ensures ∙ (λ i. with_all_nodes (none i) (c.nodes.ensures i)) in
    let all : c.add_patches.new.parts ≡ with_version c.args.version (held_file c.args.index.now seen) = c.in_ok-add_patches.ensures.parts ∙ (λ i. with_all_patches (nodes i) (c.fields.ensures i) (lists_of seen)) in
    subst (λ (p : FileLists). IsPatchFile p (file_text p)) (sym all) (converted_is_file c.args.version c.args.index.now seen c.requires.version c.version-rules.ensures.rules c.requires.bodies c.in_ok-add_patches.ensures.rules)
