-- The order of points and of pairs goes one way, and points of the same coordinates are one.
use Rattle.std.proofs.Common.{◌≡◌, Bool, true, ◌&&◌, ◌||◌, ℤ, subst, arith, inl, inr}
use Rattle.std.specs.Prelude.{int_lt}
use Rattle.std.specs.Ordering.{int_eq}
use Rattle.std.proofs.lemmas.Int.{ints}
use Rattle.std.proofs.lemmas.Bool.{and_parts, or_cases}
use Rattle.std.proofs.lemmas.Bool.Decides.{Decides-int_eq}
use Rattle.grid_vertex.specs.declared.points.Point.{Point}
use Rattle.grid_vertex.specs.Points.{is_same_point}
use Rattle.mesh_model.specs.Nets.{Pair, is_before, is_pair_before}

lt_one_way : (x y : ℤ) → int_lt x y ≡ true → int_lt y x ≡ true → ⊥
lt_one_way x y h k = grind (arith, ints)

lt_apart : (x y : ℤ) → int_lt x y ≡ true → int_eq y x ≡ true → ⊥
lt_apart x y h k =
    let same = (Decides-int_eq y x).0 k in
    lt_one_way x x (subst (λ (z : ℤ). int_lt x z ≡ true) same h) (subst (λ (z : ℤ). int_lt x z ≡ true) same h)

-- two tests by a first part and then by a rest: neither part goes both ways
one_way : (less more same same' rest rest' : Bool) → (less ≡ true → more ≡ true → ⊥) → (less ≡ true → same' ≡ true → ⊥) → (more ≡ true → same ≡ true → ⊥) → (rest ≡ true → rest' ≡ true → ⊥)
    → (less || (same && rest)) ≡ true → (more || (same' && rest')) ≡ true → ⊥
one_way less more same same' rest rest' both first second deep h k =
    elim (or_cases less (same && rest) h) [
      | inl l ↦ elim (or_cases more (same' && rest') k) [ inl m ↦ both l m | inr r ↦ first l (and_parts same' rest' r).0 ]
      | inr q ↦ elim (or_cases more (same' && rest') k) [ inl m ↦ second m (and_parts same rest q).0 | inr r ↦ deep (and_parts same rest q).1 (and_parts same' rest' r).1 ]
    ]

pub before_one_way : (p q : Point) → is_before p q ≡ true → is_before q p ≡ true → ⊥
before_one_way p q =
    one_way (int_lt p.x q.x) (int_lt q.x p.x) (int_eq p.x q.x) (int_eq q.x p.x) (int_lt p.y q.y || (int_eq p.y q.y && int_lt p.z q.z)) (int_lt q.y p.y || (int_eq q.y p.y && int_lt q.z p.z))
    (lt_one_way p.x q.x) (lt_apart p.x q.x) (lt_apart q.x p.x)
    (one_way (int_lt p.y q.y) (int_lt q.y p.y) (int_eq p.y q.y) (int_eq q.y p.y) (int_lt p.z q.z) (int_lt q.z p.z) (lt_one_way p.y q.y) (lt_apart p.y q.y) (lt_apart q.y p.y) (lt_one_way p.z q.z))

pub point_exact : (p q : Point) → is_same_point p q ≡ true → p ≡ q
point_exact p q h =
    let xyz = and_parts (int_eq p.x q.x && int_eq p.y q.y) (int_eq p.z q.z) h in
    let xy = and_parts (int_eq p.x q.x) (int_eq p.y q.y) xyz.0 in
    let x = (Decides-int_eq p.x q.x).0 xy.0 in
    let y = (Decides-int_eq p.y q.y).0 xy.1 in
    let z = (Decides-int_eq p.z q.z).0 xyz.1 in
    λ i. record { x = x i; y = y i; z = z i }

before_apart : (p q : Point) → is_before p q ≡ true → is_same_point q p ≡ true → ⊥
before_apart p q h k =
    let itself = subst (λ (r : Point). is_before p r ≡ true) (point_exact q p k) h in
    before_one_way p p itself itself

pub pair_one_way : (p q : Pair) → is_pair_before p q ≡ true → is_pair_before q p ≡ true → ⊥
pair_one_way p q =
    one_way (is_before p.a q.a) (is_before q.a p.a) (is_same_point p.a q.a) (is_same_point q.a p.a) (is_before p.b q.b) (is_before q.b p.b)
    (before_one_way p.a q.a) (before_apart p.a q.a) (before_apart q.a p.a) (before_one_way p.b q.b)
