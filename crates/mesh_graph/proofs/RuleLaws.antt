-- What the rules of a patch file say of each patch.
use Rattle.std.proofs.Common.{◌≡◌, ℕ, ◌<◌, true, List}
use Rattle.std.specs.Prelude.{IsTrue, nat_lt}
use Rattle.std.specs.List.{list_all}
use Rattle.std.proofs.lemmas.Bool.{and_parts, ltb-true}
use Rattle.file_model.specs.declared.fields.PatchField.{PatchField}
use Rattle.file_model.specs.Rules.{is_field, has_ends, has_counts}
use Rattle.mesh_model.specs.declared.sides.NodeSide.TheVariants.{Incoming, Outgoing}
use Rattle.mesh_graph.specs.Chains.{HaveNodes}
use Rattle.mesh_graph.specs.NearGrid.{each_passes}

ends_are : (nodes : ℕ) (f : PatchField) → is_field nodes f ≡ true → (f.tail < nodes) × (f.head < nodes)
ends_are nodes f h =
    let ends = and_parts (nat_lt f.tail nodes) (nat_lt f.head nodes) (and_parts (has_ends nodes f) (has_counts f) h).0 in
    (ltb-true f.tail nodes ends.0, ltb-true f.head nodes ends.1)

pub tails_in : (nodes : ℕ) (fields : List PatchField) → IsTrue (list_all (is_field nodes) fields) → HaveNodes Outgoing nodes fields
tails_in nodes fields all p f there = (ends_are nodes f (each_passes (is_field nodes) fields p f all there)).0

pub heads_in : (nodes : ℕ) (fields : List PatchField) → IsTrue (list_all (is_field nodes) fields) → HaveNodes Incoming nodes fields
heads_in nodes fields all p f there = (ends_are nodes f (each_passes (is_field nodes) fields p f all there)).1
