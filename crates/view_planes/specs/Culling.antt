-- What a culled ball contains is culled, so culled scores don't rise along the arcs of a mesh.
use Rattle.std.proofs.Common.{◌≡◌, ℕ, zero, suc, ◌<◌, ◌≤◌, Bool, true, false, cond, List, [], ◌∷◌, length, map, Option, Some, None, refl, arith, inl, inr}
use Rattle.std.specs.Prelude.{slice_get, slice_index}
use Rattle.std.proofs.lemmas.Bool.{or_cases, or_left, or_right}
use Rattle.std.proofs.lemmas.List.{length-map}
use Rattle.grid_vertex.specs.declared.balls.Ball.{Ball}
use Rattle.grid_vertex.specs.Balls.{is_ball_within}
use Rattle.file_model.specs.declared.fields.Node.{Node}
use Rattle.file_model.specs.declared.fields.PatchField.{PatchField}
use Rattle.mesh_model.specs.Graph.{is_sink}
use Rattle.mesh_model.specs.Accepted.{nested_by, has_ball_within}
use Rattle.mesh_model.specs.Meshes.{MeshLists, IsMesh}
use Rattle.round_model.specs.Scores.{score_of}
use Rattle.round_model.specs.Views.{rules_of}
use Rattle.mesh_laws.specs.Each.{each_at}
use Rattle.mesh_laws.specs.Ends.{HasEnds, each_has_ends}
use Rattle.round_laws.specs.Parents.{FallsAlong, falls_from_eye}
use Rattle.view_planes.specs.HalfSpaces.{HalfSpaceSeen, is_behind}
use Rattle.view_planes.specs.Behind.{behind_within}
use Rattle.view_planes.specs.Planes.{PlanesSeen, is_culled, is_culled_node, culled_score, culled_scores}

pub culled_within : (planes : List HalfSpaceSeen) (outer inner : Ball) → is_ball_within outer inner ≡ true → is_culled planes outer ≡ true → is_culled planes inner ≡ true
culled_within [] outer inner within culled = absurd (cc)
culled_within (p ∷ ps) outer inner within culled =
    elim (or_cases (is_behind p outer) (is_culled ps outer) culled) [
      | inl here ↦ or_left (is_behind p inner) (is_culled ps inner) (behind_within p outer inner within here)
      | inr there ↦ or_right (is_behind p inner) (is_culled ps inner) (culled_within ps outer inner within there)
    ]

pub as_many_culled : (seen : PlanesSeen) (mesh : MeshLists) → length (culled_scores seen mesh) ≡ length mesh.index.nodes
as_many_culled seen mesh = length-map mesh.index.nodes (culled_score seen)

-- the score of a node by its number
pub culled_at : (seen : PlanesSeen) (nodes : List Node) (v : ℕ) → slice_index (map (culled_score seen) nodes) v ≡ cond (is_culled_node seen.planes (slice_get nodes v)) 0 (slice_index (map (score_of seen.view.eye seen.view.focal) nodes) v)
culled_at seen [] v = refl
culled_at seen (n ∷ ns) zero = refl
culled_at seen (n ∷ ns) (suc v) = culled_at seen ns v

node_is_there : (nodes : List Node) (v : ℕ) → v < length nodes → slice_get nodes v ≡ None → ⊥
node_is_there [] v less none = omega arith
node_is_there (n ∷ ns) zero less none = absurd (cc)
node_is_there (n ∷ ns) (suc v) less none = node_is_there ns v (omega arith) none

-- along an arc into a node that isn't a sink
culled_along : (planes : List HalfSpaceSeen) (fields : List PatchField) (tail head : Option Node) (v : ℕ) → (tail ≡ None → ⊥) → nested_by has_ball_within fields tail head v ≡ true → is_sink fields v ≡ false → is_culled_node planes tail ≡ true → is_culled_node planes head ≡ true
culled_along planes fields None head v there nested inner culled = absurd (there refl)
culled_along planes fields (Some u) None v there nested inner culled = refl
culled_along planes fields (Some u) (Some w) v there nested inner culled =
    elim (or_cases (is_sink fields v) (has_ball_within u w) nested) [
      | inl sink ↦ absurd (cc)
      | inr within ↦ culled_within planes u.ball w.ball within culled
    ]

pub culled_falls : (seen : PlanesSeen) (mesh : MeshLists) (limit : ℕ) → IsMesh mesh → FallsAlong (rules_of mesh (culled_scores seen mesh) seen.view.threshold limit)
unfolding rules_of
culled_falls seen mesh limit is p f here inner =
    let nodes = mesh.index.nodes in
    let fields = mesh.index.fields in
    let scores = map (score_of seen.view.eye seen.view.focal) nodes in
    let falls = falls_from_eye seen.view.eye seen.view.focal (rules_of mesh scores seen.view.threshold limit) is (record { scores = refl }) p f here inner in
    let ends = each_at (HasEnds (length nodes)) fields p f here (each_has_ends mesh.index is.rules) in
    plain (is_culled_node seen.planes (slice_get nodes f.tail)) (is_culled_node seen.planes (slice_get nodes f.head)) (slice_index scores f.tail) (slice_index scores f.head) (slice_index (map (culled_score seen) nodes) f.tail) (slice_index (map (culled_score seen) nodes) f.head)
    falls (culled_at seen nodes f.tail) (culled_at seen nodes f.head)
    (culled_along seen.planes fields (slice_get nodes f.tail) (slice_get nodes f.head) f.head (node_is_there nodes f.tail ends.tail) (is.graph.balls p f here) inner)
  where
    plain : (c d : Bool) (s t x y : ℕ) → t ≤ s → x ≡ cond c 0 s → y ≡ cond d 0 t → (c ≡ true → d ≡ true) → y ≤ x
    plain true true s t x y falls is_x is_y goes = omega arith
    plain true false s t x y falls is_x is_y goes = absurd (let never = goes refl in cc)
    plain false true s t x y falls is_x is_y goes = omega arith
    plain false false s t x y falls is_x is_y goes = omega arith
