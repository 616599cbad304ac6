-- A node's sums keep the nets of the bodies that were added.
use Rattle.std.specs.Prelude.{◌≡◌, ℕ, ◌<◌, Bool, true, false, List, ◌++◌, slice_get, Some, MatchOption, Option}
use Rattle.std.proofs.Common.{sym, ap, ◌∙◌, subst, arith, append-nil, add-one}
use Rattle.grid_vertex.specs.declared.triangles.Triangle.{Triangle}
use Rattle.file_model.specs.declared.fields.PatchField.{PatchField}
use Rattle.file_model.specs.Lists.{BodyLists, IndexLists}
use Rattle.mesh_model.specs.Nets.{HaveOneNet}
use Rattle.mesh_model.specs.Accepted.{triangles_to, triangles_out_of}
use Rattle.edge_chain.specs.declared.differences.Difference.{Difference}
use Rattle.edge_chain.specs.Chains.{Chain, IsNetOf, IsFirstNetDifference}
use Rattle.mesh_model.specs.declared.sides.NodeSide.{NodeSide}
use Rattle.mesh_model.specs.declared.sides.NodeSide.TheVariants.{Incoming, Outgoing}
use Rattle.dag_check.specs.declared.node_sums.NodeSums.{NodeSums}
use Rattle.dag_check.specs.Added.{first_triangles, only_if, file_with}
use Rattle.mesh_model.specs.Sides.{is_on}
use Rattle.dag_check.specs.NodeSums.{other, Taken, taken_on, one_more, to_come, chain_on, IsGrown, Compares, Takes, outer, more, last, AreNodeSums, NodeSumsFollow}
use Rattle.dag_check.proofs.AddedLaws.{first_triangles-suc, along}
use Rattle.dag_check.proofs.CountLaws.{all_taken}
use Rattle.dag_check.proofs.NodeSumLaws.{by_side, taken_same, taken_other, left-le-total}

-- the triangles that were added on a side of a node
abbrev pub added_on : NodeSide → List PatchField → Taken → List BodyLists → ℕ → List Triangle
added_on side fields taken bodies v = first_triangles (taken_on side taken) (is_on side v) fields bodies

-- one body more, that of a patch
pub record IsNext (side : NodeSide) (fields : List PatchField) (taken : Taken) (bodies : List BodyLists) (f : PatchField) (body : BodyLists) : Type 0 where
  pub field : slice_get fields (taken_on side taken) ≡ Some f
  pub lists : slice_get bodies (taken_on side taken) ≡ Some body

added_here : (side : NodeSide) (fields : List PatchField) (taken : Taken) (bodies : List BodyLists) (f : PatchField) (body : BodyLists) (v : ℕ) → IsNext side fields taken bodies f body → added_on side fields (one_more side taken) bodies v ≡ added_on side fields taken bodies v ++ only_if (is_on side v f) body
added_here side fields taken bodies f body v next =
    ap (λ (n : ℕ). first_triangles n (is_on side v) fields bodies) (taken_same side taken)
    ∙ rw add-one (first_triangles-suc (taken_on side taken) (is_on side v) fields bodies f body next.field next.lists)

added_there : (side : NodeSide) (fields : List PatchField) (taken : Taken) (bodies : List BodyLists) (v : ℕ) → added_on (other side) fields (one_more side taken) bodies v ≡ added_on (other side) fields taken bodies v
added_there side fields taken bodies v = ap (λ (n : ℕ). first_triangles n (is_on (other side) v) fields bodies) (taken_other side taken)

-- the sums have the nets of what was added
abbrev pub HoldNets : List PatchField → Taken → List BodyLists → ℕ → NodeSums → Type 0
HoldNets fields taken bodies v t = (side : NodeSide) → IsNetOf (added_on side fields taken bodies v) (chain_on side t)

-- a node on whose side the patch isn't
pub other_follows : (side : NodeSide) (fields : List PatchField) (taken : Taken) (bodies : List BodyLists) (f : PatchField) (body : BodyLists) (v : ℕ) (t : NodeSums) → IsNext side fields taken bodies f body → is_on side v f ≡ false → NodeSumsFollow fields taken bodies v t → NodeSumsFollow fields (one_more side taken) bodies v t
other_follows side fields taken bodies f body v t next apart h low =
    by_side (λ s. IsNetOf (added_on s fields (one_more side taken) bodies v) (chain_on s t)) side
    (along (sym (append-nil (added_on side fields taken bodies v)) ∙ ap (λ (b : Bool). added_on side fields taken bodies v ++ only_if b body) (sym apart) ∙ sym (added_here side fields taken bodies f body v next)) (h low side))
    (along (sym (added_there side fields taken bodies v)) (h low (other side)))

-- the node on whose side the patch is, once its sum has grown
pub grown_follows : (side : NodeSide) (fields : List PatchField) (taken : Taken) (bodies : List BodyLists) (f : PatchField) (body : BodyLists) (v : ℕ) (before after : NodeSums) → IsNext side fields taken bodies f body → is_on side v f ≡ true → IsGrown side body before after → NodeSumsFollow fields taken bodies v before → HoldNets fields (one_more side taken) bodies v after
grown_follows side fields taken bodies f body v before after next here g h =
    let low : 0 < before.left = omega (arith, g.left) in
    by_side (λ s. IsNetOf (added_on s fields (one_more side taken) bodies v) (chain_on s after)) side
    (along (ap (λ (b : Bool). added_on side fields taken bodies v ++ only_if b body) (sym here) ∙ sym (added_here side fields taken bodies f body v next)) (g.grows.nets _ (h low side)))
    (along (sym (added_there side fields taken bodies v)) (subst (λ (c : Chain). IsNetOf (added_on (other side) fields taken bodies v) c) (sym g.other_side) (h low (other side))))

pub own_follows : (side : NodeSide) (fields : List PatchField) (taken : Taken) (bodies : List BodyLists) (f : PatchField) (body : BodyLists) (v : ℕ) (before after : NodeSums) (difference : Option Difference) → IsNext side fields taken bodies f body → is_on side v f ≡ true → AreNodeSums fields taken v before → Takes side body before after difference → NodeSumsFollow fields taken bodies v before → NodeSumsFollow fields (one_more side taken) bodies v after
own_follows side fields taken bodies f body v before after difference next here is (outer e same _) h low =
    absurd (omega (arith, left-le-total fields taken v before is, ap (λ (t : NodeSums). t.left) same))
own_follows side fields taken bodies f body v before after difference next here is (more some g later _) h low = grown_follows side fields taken bodies f body v before after next here g h
own_follows side fields taken bodies f body v before after difference next here is (last some grown g e same _) h low = absurd (omega (arith, ap (λ (t : NodeSums). t.left) same))

-- what the comparison at a node's last body says of the file, where nothing is to come to the node
pub compared_nets : (index : IndexLists) (taken : Taken) (bodies : List BodyLists) (v : ℕ) (t : NodeSums) (difference : Option Difference) → to_come index.fields taken v ≡ 0 → HoldNets index.fields taken bodies v t → Compares t difference → MatchOption difference (HaveOneNet (triangles_to (file_with index bodies) v) (triangles_out_of (file_with index bodies) v)) (IsFirstNetDifference (triangles_to (file_with index bodies) v) (triangles_out_of (file_with index bodies) v))
compared_nets index taken bodies v t difference none_left holds compares =
    compares _ _
    (along (all_taken taken.incoming (is_on Incoming v) index.fields bodies (omega arith)) (holds Incoming))
    (along (all_taken taken.outgoing (is_on Outgoing v) index.fields bodies (omega arith)) (holds Outgoing))
