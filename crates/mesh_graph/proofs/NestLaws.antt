-- What is nested along patches.
use Rattle.std.proofs.Common.{◌≡◌, ℕ, ◌<◌, Bool, List, Option, Some, length, get_or, sym, ◌∙◌, ap, ◌||◌}
use Rattle.std.specs.Prelude.{IsTrue}
use Rattle.std.specs.List.{slice_get}
use Rattle.std.proofs.lemmas.Option.{slice_get-get_or}
use Rattle.file_model.specs.declared.fields.Node.{Node}
use Rattle.file_model.specs.declared.fields.PatchField.{PatchField}
use Rattle.mesh_model.specs.Accepted.{nested_by}
use Rattle.mesh_model.specs.declared.sides.NodeSide.TheVariants.{Outgoing}
use Rattle.mesh_graph.specs.Adjacency.{IsAdjacency, is_bare_at}
use Rattle.mesh_graph.proofs.RootLaws.{bare_is}

-- the test at the nodes of a list, where both ends are there
pub nested_is : (test : Node → Node → Bool) (fields : List PatchField) (nodes : List Node) (lists : List (List ℕ)) (f : PatchField) (d : Node) → IsAdjacency Outgoing fields (length nodes) lists → f.tail < length nodes → f.head < length nodes
    → nested_by test fields (slice_get nodes f.tail) (slice_get nodes f.head) f.head ≡ (is_bare_at lists f.head || test (get_or nodes f.tail d) (get_or nodes f.head d))
nested_is test fields nodes lists f d arcs tail head =
    ap (λ (o : Option Node). nested_by test fields o (slice_get nodes f.head) f.head) (slice_get-get_or nodes f.tail d tail)
    ∙ ap (λ (o : Option Node). nested_by test fields (Some (get_or nodes f.tail d)) o f.head) (slice_get-get_or nodes f.head d head)
    ∙ ap (λ (b : Bool). b || test (get_or nodes f.tail d) (get_or nodes f.head d)) (sym (bare_is Outgoing fields (length nodes) lists f.head arcs head))

-- the patches before a number keep the rule
abbrev pub AreNestedBelow : (Node → Node → Bool) → List Node → List PatchField → ℕ → Type 0
AreNestedBelow test nodes fields n = (p : ℕ) (f : PatchField) → p < n → slice_get fields p ≡ Some f → IsTrue (nested_by test fields (slice_get nodes f.tail) (slice_get nodes f.head) f.head)
