-- The centres of a patch file's nodes are near the grid.
use Rattle.std.proofs.Common.{◌≡◌, ℕ, zero, suc, Bool, true, List, [], ◌∷◌, Some, arith, subst, ◌&&◌}
use Rattle.std.specs.Prelude.{IsTrue, unsigned_abs, nat_le}
use Rattle.std.specs.List.{slice_get, list_all}
use Rattle.std.proofs.lemmas.Bool.{and_parts, and_from, leb-true, le-leb}
use Rattle.grid_vertex.specs.declared.points.Point.{Point}
use Rattle.grid_vertex.specs.Points.{is_within, is_in_grid, IsNearGrid}
use Rattle.file_model.specs.declared.fields.Node.{Node}
use Rattle.file_model.specs.Rules.{is_node}
use Rattle.mesh_graph.specs.Nesting.{AreNearGrid}

pub each_passes : {X : Type 0} → (test : X → Bool) (xs : List X) (i : ℕ) (x : X) → list_all test xs ≡ true → slice_get xs i ≡ Some x → test x ≡ true
each_passes test [] i x all there = absurd cc
each_passes test (y ∷ ys) zero x all there = let same : y ≡ x = cc in subst (λ z. test z ≡ true) same (and_parts (test y) (list_all test ys) all).0
each_passes test (y ∷ ys) (suc i) x all there = each_passes test ys i x (and_parts (test y) (list_all test ys) all).1 there

wider : (n : ℕ) → nat_le n 1048576 ≡ true → nat_le n 2097152 ≡ true
wider n h = le-leb n 2097152 (omega (arith, leb-true n 1048576 h))

near_is : (p : Point) → is_in_grid p ≡ true → IsNearGrid p
near_is p h =
    let xy = and_parts (is_within 1048576 p.x && is_within 1048576 p.y) (is_within 1048576 p.z) h in
    let x = and_parts (is_within 1048576 p.x) (is_within 1048576 p.y) xy.0 in
    and_from (is_within 2097152 p.x && is_within 2097152 p.y) (is_within 2097152 p.z)
    (and_from (is_within 2097152 p.x) (is_within 2097152 p.y) (wider (unsigned_abs p.x) x.0) (wider (unsigned_abs p.y) x.1))
    (wider (unsigned_abs p.z) xy.1)

pub near_grid : (nodes : List Node) → IsTrue (list_all is_node nodes) → AreNearGrid nodes
near_grid nodes all v n there =
    let node = each_passes is_node nodes v n all there in
    near_is n.ball.centre (and_parts (is_in_grid n.ball.centre) (nat_le n.ball.radius 4194304) (and_parts (is_in_grid n.ball.centre && nat_le n.ball.radius 4194304) (nat_le n.error 1048576) node).0).0
