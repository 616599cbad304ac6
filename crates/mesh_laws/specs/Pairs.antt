-- The order of pairs of points is total.
use Rattle.std.proofs.Common.{◌≡◌, Bool, true, false, ◌&&◌, ◌||◌, ℤ, sym, arith}
use Rattle.std.specs.Prelude.{int_lt}
use Rattle.std.specs.Ordering.{int_eq}
use Rattle.std.proofs.lemmas.Int.{ints}
use Rattle.std.proofs.lemmas.Bool.{and_from, or_parts}
use Rattle.std.proofs.lemmas.Bool.Decides.{Decides-int_eq}
use Rattle.grid_vertex.specs.declared.points.Point.{Point}
use Rattle.grid_vertex.specs.Points.{is_same_point}
use Rattle.mesh_model.specs.Nets.{Pair, is_before, is_pair_before}

int_tied : (x y : ℤ) → int_lt x y ≡ false → int_lt y x ≡ false → x ≡ y
int_tied x y h k = grind (arith, ints)

-- a test by a first part and then by a rest fails, and the first parts are the same: the rest fails
rest_fails : (less same rest : Bool) → (less || (same && rest)) ≡ false → same ≡ true → rest ≡ false
rest_fails true same rest h e = absurd cc
rest_fails false true rest h e = h
rest_fails false false rest h e = absurd cc

first_fails : (less other : Bool) → (less || other) ≡ false → less ≡ false
first_fails less other h = (or_parts less other h).0

int_same : (x y : ℤ) → x ≡ y → int_eq x y ≡ true
int_same x y e = (Decides-int_eq x y).1 e

point_same : (p q : Point) → p ≡ q → is_same_point p q ≡ true
point_same p q e =
    and_from (int_eq p.x q.x && int_eq p.y q.y) (int_eq p.z q.z)
    (and_from (int_eq p.x q.x) (int_eq p.y q.y) (int_same p.x q.x (λ i. (e i).x)) (int_same p.y q.y (λ i. (e i).y)))
    (int_same p.z q.z (λ i. (e i).z))

point_tied : (p q : Point) → is_before p q ≡ false → is_before q p ≡ false → p ≡ q
point_tied p q h k =
    let x : p.x ≡ q.x = int_tied p.x q.x (first_fails (int_lt p.x q.x) _ h) (first_fails (int_lt q.x p.x) _ k) in
    let h_y = rest_fails (int_lt p.x q.x) (int_eq p.x q.x) _ h (int_same p.x q.x x) in
    let k_y = rest_fails (int_lt q.x p.x) (int_eq q.x p.x) _ k (int_same q.x p.x (sym x)) in
    let y : p.y ≡ q.y = int_tied p.y q.y (first_fails (int_lt p.y q.y) _ h_y) (first_fails (int_lt q.y p.y) _ k_y) in
    let h_z = rest_fails (int_lt p.y q.y) (int_eq p.y q.y) _ h_y (int_same p.y q.y y) in
    let k_z = rest_fails (int_lt q.y p.y) (int_eq q.y p.y) _ k_y (int_same q.y p.y (sym y)) in
    let z : p.z ≡ q.z = int_tied p.z q.z h_z k_z in
    λ i. record { x = x i; y = y i; z = z i }

-- of two pairs neither of which comes before the other there is one
pub pair_tied : (p q : Pair) → is_pair_before p q ≡ false → is_pair_before q p ≡ false → p ≡ q
pair_tied p q h k =
    let a : p.a ≡ q.a = point_tied p.a q.a (first_fails (is_before p.a q.a) _ h) (first_fails (is_before q.a p.a) _ k) in
    let h_b = rest_fails (is_before p.a q.a) (is_same_point p.a q.a) _ h (point_same p.a q.a a) in
    let k_b = rest_fails (is_before q.a p.a) (is_same_point q.a p.a) _ k (point_same q.a p.a (sym a)) in
    let b : p.b ≡ q.b = point_tied p.b q.b h_b k_b in
    λ i. record { a = a i; b = b i }
