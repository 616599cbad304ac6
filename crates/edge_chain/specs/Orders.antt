-- The order of points and of pairs as `cmp` answers it.
use Rattle.std.specs.Prelude.{◌≡◌, Bool, true, false, cond, ◌&&◌, ◌||◌, ℤ, int_lt, refl}
use Rattle.std.proofs.Common.{sym, ap, ◌∙◌}
use Rattle.std.specs.declared.cmp.Ordering.{Ordering}
use Rattle.std.specs.declared.cmp.Ordering.TheVariants.{Less, Equal, Greater}
use Rattle.std.specs.Ordering.{is_lt, is_eq, int_cmp, int_eq, ordering_then}
use Rattle.std.specs.Cmp.{IsTotalOrder, int_cmp_total, on_total, then_total}
use Rattle.std.proofs.lemmas.Map.Lookups.{CmpEqualImpliesEq, exact_signed}
use Rattle.grid_vertex.specs.declared.points.Point.{Point}
use Rattle.grid_vertex.specs.Points.{is_same_point}
use Rattle.mesh_model.specs.Nets.{Pair, is_before, is_pair_before}
use Rattle.edge_chain.specs.Chains.{is_same_pair}

abbrev pub point_cmp : Point → Point → Ordering
point_cmp p q = ordering_then (int_cmp p.x q.x) (ordering_then (int_cmp p.y q.y) (int_cmp p.z q.z))

abbrev pub pair_cmp : Pair → Pair → Ordering
pair_cmp p q = ordering_then (point_cmp p.a q.a) (point_cmp p.b q.b)

pub point_cmp_total : IsTotalOrder point_cmp
point_cmp_total =
    then_total (on_total (λ (p : Point). p.x) int_cmp_total)
    (then_total (on_total (λ (p : Point). p.y) int_cmp_total) (on_total (λ (p : Point). p.z) int_cmp_total))

pub pair_cmp_total : IsTotalOrder pair_cmp
pair_cmp_total = then_total (on_total (λ (p : Pair). p.a) point_cmp_total) (on_total (λ (p : Pair). p.b) point_cmp_total)

both_equal : (o p : Ordering) → ordering_then o p ≡ Equal → (o ≡ Equal) × (p ≡ Equal)
both_equal Less p e = absurd cc
both_equal Equal p e = (refl, e)
both_equal Greater p e = absurd cc

pub point_cmp_exact : CmpEqualImpliesEq point_cmp
point_cmp_exact p q e =
    let first = both_equal (int_cmp p.x q.x) (ordering_then (int_cmp p.y q.y) (int_cmp p.z q.z)) e in
    let rest = both_equal (int_cmp p.y q.y) (int_cmp p.z q.z) first.1 in
    let x = exact_signed p.x q.x first.0 in
    let y = exact_signed p.y q.y rest.0 in
    let z = exact_signed p.z q.z rest.1 in
    λ i. record { x = x i; y = y i; z = z i }

pub pair_cmp_exact : CmpEqualImpliesEq pair_cmp
pair_cmp_exact p q e =
    let both = both_equal (point_cmp p.a q.a) (point_cmp p.b q.b) e in
    let a = point_cmp_exact p.a q.a both.0 in
    let b = point_cmp_exact p.b q.b both.1 in
    λ i. record { a = a i; b = b i }

less_then : (o p : Ordering) → is_lt (ordering_then o p) ≡ (is_lt o || (is_eq o && is_lt p))
less_then Less p = refl
less_then Equal p = refl
less_then Greater p = refl

equal_then : (o p : Ordering) → is_eq (ordering_then o p) ≡ (is_eq o && is_eq p)
equal_then Less p = refl
equal_then Equal p = refl
equal_then Greater p = refl

less_if : (b c : Bool) → is_lt (cond b Less (cond c Greater Equal)) ≡ b
less_if true c = refl
less_if false true = refl
less_if false false = refl

int_lt_is : (x y : ℤ) → is_lt (int_cmp x y) ≡ int_lt x y
int_lt_is x y = less_if (int_lt x y) (int_lt y x)

and_assoc : (a b c : Bool) → (a && (b && c)) ≡ ((a && b) && c)
and_assoc true b c = refl
and_assoc false b c = refl

pub is_before_is : (p q : Point) → is_before p q ≡ is_lt (point_cmp p q)
is_before_is p q =
    sym (less_then (int_cmp p.x q.x) (ordering_then (int_cmp p.y q.y) (int_cmp p.z q.z))
    ∙ ap (λ (t : Bool). t || (int_eq p.x q.x && is_lt (ordering_then (int_cmp p.y q.y) (int_cmp p.z q.z)))) (int_lt_is p.x q.x)
    ∙ ap (λ (t : Bool). int_lt p.x q.x || (int_eq p.x q.x && t)) (less_then (int_cmp p.y q.y) (int_cmp p.z q.z)
    ∙ ap (λ (t : Bool). t || (int_eq p.y q.y && is_lt (int_cmp p.z q.z))) (int_lt_is p.y q.y)
    ∙ ap (λ (t : Bool). int_lt p.y q.y || (int_eq p.y q.y && t)) (int_lt_is p.z q.z)))

pub is_same_point_is : (p q : Point) → is_same_point p q ≡ is_eq (point_cmp p q)
is_same_point_is p q =
    sym (equal_then (int_cmp p.x q.x) (ordering_then (int_cmp p.y q.y) (int_cmp p.z q.z))
    ∙ ap (λ (t : Bool). int_eq p.x q.x && t) (equal_then (int_cmp p.y q.y) (int_cmp p.z q.z))
    ∙ and_assoc (int_eq p.x q.x) (int_eq p.y q.y) (int_eq p.z q.z))

pub is_same_pair_is : (p q : Pair) → is_same_pair p q ≡ is_eq (pair_cmp p q)
is_same_pair_is p q =
    ap (λ (t : Bool). t && is_same_point p.b q.b) (is_same_point_is p.a q.a)
    ∙ ap (λ (t : Bool). is_eq (point_cmp p.a q.a) && t) (is_same_point_is p.b q.b)
    ∙ sym (equal_then (point_cmp p.a q.a) (point_cmp p.b q.b))

pub is_pair_before_is : (p q : Pair) → is_pair_before p q ≡ is_lt (pair_cmp p q)
is_pair_before_is p q =
    ap (λ (t : Bool). t || (is_same_point p.a q.a && is_before p.b q.b)) (is_before_is p.a q.a)
    ∙ ap (λ (t : Bool). is_lt (point_cmp p.a q.a) || (t && is_before p.b q.b)) (is_same_point_is p.a q.a)
    ∙ ap (λ (t : Bool). is_lt (point_cmp p.a q.a) || (is_eq (point_cmp p.a q.a) && t)) (is_before_is p.b q.b)
    ∙ sym (less_then (point_cmp p.a q.a) (point_cmp p.b q.b))
