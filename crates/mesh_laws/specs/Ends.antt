-- The ends of patches are nodes.
use Rattle.std.proofs.Common.{◌≡◌, ℕ, ◌<◌, true, ltb, length}
use Rattle.std.specs.List.{AllByRecursion}
use Rattle.std.proofs.lemmas.Bool.{and_parts, ltb-true}
use Rattle.file_model.specs.declared.fields.PatchField.{PatchField}
use Rattle.file_model.specs.Lists.{IndexLists}
use Rattle.file_model.specs.Rules.{IsIndex, has_ends, has_counts, is_field}
use Rattle.mesh_laws.specs.Each.{each_passes, each_then}

-- the patch leads from a node to a node
pub record HasEnds (nodes : ℕ) (f : PatchField) : Type 0 where
  pub tail : f.tail < nodes
  pub head : f.head < nodes

ends_of_field : (nodes : ℕ) (f : PatchField) → is_field nodes f ≡ true → HasEnds nodes f
ends_of_field nodes f h =
    let ends = and_parts (ltb f.tail nodes) (ltb f.head nodes) (and_parts (has_ends nodes f) (has_counts f) h).0 in
    record { tail = ltb-true f.tail nodes ends.0; head = ltb-true f.head nodes ends.1 }

pub each_has_ends : (index : IndexLists) → IsIndex index → AllByRecursion (HasEnds (length index.nodes)) index.fields
each_has_ends index rules =
    let nodes = length index.nodes in
    each_then (λ f. is_field nodes f ≡ true) (HasEnds nodes) index.fields (ends_of_field nodes) (each_passes (is_field nodes) index.fields rules.fields)
