-- What the parts of a verdict say together.
use Rattle.std.proofs.Common.{◌≡◌, ℕ, ◌<◌, List, [], ◌∷◌, Option, Some, None, Ok, Err, length, arith, sym, ◌∙◌, ap, subst, refl}
use Rattle.std.specs.List.{slice_get}
use Rattle.file_model.specs.declared.fields.Node.{Node}
use Rattle.file_model.specs.declared.fields.PatchField.{PatchField}
use Rattle.mesh_model.specs.declared.refusals.DagFault.{DagFault}
use Rattle.mesh_model.specs.declared.refusals.DagFault.TheVariants.{NoRoot, TwoRoots}
use Rattle.mesh_model.specs.Graph.{nodes_where, roots, only_root, is_root, is_sink}
use Rattle.file_model.specs.Lists.{IndexLists}
use Rattle.mesh_model.specs.Walks.{IsGrounded, IsLevel}
use Rattle.mesh_model.specs.Accepted.{AllGrounded, IsLeastUngrounded, IsGraphFault}
use Rattle.mesh_model.specs.declared.sides.NodeSide.TheVariants.{Incoming, Outgoing}
use Rattle.mesh_graph.specs.Adjacency.{IsAdjacency, is_bare_at}
use Rattle.mesh_graph.specs.Levels.{AreAllLevels, IsLeastWithout, level_grounds}
use Rattle.mesh_graph.specs.Graphs.{index_of, GraphSeen, IsGraphOf}
use Rattle.mesh_graph.specs.ListReads.{slice_get-there}
use Rattle.std.proofs.lemmas.Option.{slice_get_within}
use Rattle.mesh_graph.proofs.RootLaws.{roots_are, bare_is}

one_root_by : (list : List ℕ) (root : ℕ) → Ok root ≡ only_root list → list ≡ root ∷ []
one_root_by [] root e = absurd cc
one_root_by (a ∷ []) root e = let s : root ≡ a = cc in ap (λ r. r ∷ []) (sym s)
one_root_by (a ∷ b ∷ others) root e = absurd cc

module _ (version : ℕ) (nodes : List Node) (fields : List PatchField) (lists : List (List ℕ)) (arcs : IsAdjacency Incoming fields (length nodes) lists) where
  roots_is : only_root (nodes_where (length lists) (is_bare_at lists)) ≡ only_root (roots (length nodes) fields)
  roots_is = ap only_root (ap (λ n. nodes_where n (is_bare_at lists)) arcs.as_many ∙ roots_are fields (length nodes) lists arcs)

  pub one_root : (root : ℕ) → Ok root ≡ only_root (nodes_where (length lists) (is_bare_at lists)) → roots (length nodes) fields ≡ root ∷ []
  one_root root e = one_root_by (roots (length nodes) fields) root (e ∙ roots_is)

  fault_by : (list : List ℕ) → roots (length nodes) fields ≡ list → (fault : DagFault) → Err fault ≡ only_root list → IsGraphFault (index_of version nodes fields) fault
  fault_by [] is fault e = let s : fault ≡ NoRoot = cc in subst (IsGraphFault (index_of version nodes fields)) (sym s) is
  fault_by (a ∷ []) is fault e = absurd cc
  fault_by (a ∷ b ∷ others) is fault e = let s : fault ≡ TwoRoots a b = cc in subst (IsGraphFault (index_of version nodes fields)) (sym s) (others, is)

  pub root_fault : (fault : DagFault) → Err fault ≡ only_root (nodes_where (length lists) (is_bare_at lists)) → IsGraphFault (index_of version nodes fields) fault
  root_fault fault e = fault_by (roots (length nodes) fields) refl fault (e ∙ roots_is)

grounded_by : (fields : List PatchField) (levels : List (Option ℕ)) (v : ℕ) (o : Option ℕ) → slice_get levels v ≡ Some o → ((level : ℕ) → slice_get levels v ≡ Some (Some level) → IsLevel fields v level) → (slice_get levels v ≡ Some None → ⊥) → IsGrounded fields v
grounded_by fields levels v None is found none = absurd (none is)
grounded_by fields levels v (Some level) is found none = level_grounds fields v level (found level is)

module _ (version : ℕ) (nodes : List Node) (fields : List PatchField) (levels : List (Option ℕ)) (are : AreAllLevels fields (length nodes) levels) where
  grounded_at : (v : ℕ) → v < length nodes → (slice_get levels v ≡ Some None → ⊥) → IsGrounded fields v
  grounded_at v v_in none =
      let (o, is) = slice_get-there levels v (omega (arith, are.as_many)) in
      grounded_by fields levels v o is (are.found v) none

  pub all_grounded : ((v : ℕ) → slice_get levels v ≡ Some None → ⊥) → AllGrounded (index_of version nodes fields)
  all_grounded none v v_in = grounded_at v v_in (none v)

  pub least_ungrounded : (v : ℕ) → IsLeastWithout levels v → IsLeastUngrounded (index_of version nodes fields) v
  least_ungrounded v is =
      let v_in : v < length nodes = omega (arith, are.as_many, slice_get_within levels v None is.empty) in
      record {
        node = v_in;
        ungrounded = are.ungrounded v is.empty;
        least = λ u less. grounded_at u (omega (arith, less, v_in)) (is.least u less);
      }

-- what is seen of a node without patches on a side
pub seen_root : (index : IndexLists) (seen : GraphSeen) (v : ℕ) → IsGraphOf index seen → v < length seen.incoming → is_bare_at seen.incoming v ≡ is_root index.fields v
seen_root index seen v is v_in = bare_is Incoming index.fields (length index.nodes) seen.incoming v (record { as_many = is.incoming_count; each = is.incoming_is }) (omega (arith, v_in, is.incoming_count))

pub seen_sink : (index : IndexLists) (seen : GraphSeen) (v : ℕ) → IsGraphOf index seen → v < length seen.outgoing → is_bare_at seen.outgoing v ≡ is_sink index.fields v
seen_sink index seen v is v_in = bare_is Outgoing index.fields (length index.nodes) seen.outgoing v (record { as_many = is.outgoing_count; each = is.outgoing_is }) (omega (arith, v_in, is.outgoing_count))
