-- Where a ball is behind a half-space, so is each ball that it contains: a point of it is no further in front
-- than the distance from the centre, in units of the normal's length.
use Rattle.std.proofs.Common.{◌≡◌, ℕ, suc, ◌+◌, ◌-◌, ◌*◌, ◌<◌, ◌≤◌, true, ℤ, pos, negsuc, ◌+ℤ◌, ◌-ℤ◌, ◌*ℤ◌, [], ◌∷◌, refl, ap, subst, ◌∙◌, arith, inl, inr, leb, ltb}
use Rattle.std.specs.Prelude.{unsigned_abs}
use Rattle.std.proofs.lemmas.Int.{ints}
use Rattle.std.proofs.lemmas.Bool.{and_parts, leb-true, ltb-true, lt-ltb, cases_lt}
use Rattle.std.proofs.Math.Nat.{mul-le-mul}
use Rattle.std.proofs.Math.IntN.{negsuc-*ℤ-negsuc}
use Rattle.ring_laws.specs.Ring.{X, ◌:+◌, ◌:-◌, ◌:*◌, ring}
use Rattle.grid_vertex.specs.declared.points.Point.{Point}
use Rattle.grid_vertex.specs.declared.balls.Ball.{Ball}
use Rattle.grid_vertex.specs.Points.{square, distance_squared_of}
use Rattle.grid_vertex.specs.Balls.{is_ball_within}
use Rattle.view_planes.specs.HalfSpaces.{HalfSpaceSeen, normal_squared, offset_of, reach_squared, is_below, is_behind}

squared : (z : ℤ) → z *ℤ z ≡ pos (square (unsigned_abs z))
squared (pos n) = refl
squared (negsuc n) = negsuc-*ℤ-negsuc n n

abbrev sum_of_squares : ℤ → ℤ → ℤ → ℕ
sum_of_squares x y z = square (unsigned_abs x) + square (unsigned_abs y) + square (unsigned_abs z)

-- the square of a sum of products and those of three differences of products are the product of the sums
-- of squares
lagrange : (a b c x y z : ℤ) → (a *ℤ x +ℤ b *ℤ y +ℤ c *ℤ z) *ℤ (a *ℤ x +ℤ b *ℤ y +ℤ c *ℤ z) +ℤ (a *ℤ y -ℤ b *ℤ x) *ℤ (a *ℤ y -ℤ b *ℤ x) +ℤ (a *ℤ z -ℤ c *ℤ x) *ℤ (a *ℤ z -ℤ c *ℤ x) +ℤ (b *ℤ z -ℤ c *ℤ y) *ℤ (b *ℤ z -ℤ c *ℤ y) ≡ (a *ℤ a +ℤ b *ℤ b +ℤ c *ℤ c) *ℤ (x *ℤ x +ℤ y *ℤ y +ℤ z *ℤ z)
lagrange a b c x y z =
    let s = X 0 :* X 3 :+ X 1 :* X 4 :+ X 2 :* X 5 in
    let p = X 0 :* X 4 :- X 1 :* X 3 in
    let q = X 0 :* X 5 :- X 2 :* X 3 in
    let r = X 1 :* X 5 :- X 2 :* X 4 in
    ring (a ∷ b ∷ c ∷ x ∷ y ∷ z ∷ []) (s :* s :+ p :* p :+ q :* q :+ r :* r) ((X 0 :* X 0 :+ X 1 :* X 1 :+ X 2 :* X 2) :* (X 3 :* X 3 :+ X 4 :* X 4 :+ X 5 :* X 5)) refl

-- so the square is at most that product
product_within : (a b c x y z : ℤ) → square (unsigned_abs (a *ℤ x +ℤ b *ℤ y +ℤ c *ℤ z)) ≤ sum_of_squares a b c * sum_of_squares x y z
product_within a b c x y z =
    plain (a *ℤ x +ℤ b *ℤ y +ℤ c *ℤ z) (a *ℤ y -ℤ b *ℤ x) (a *ℤ z -ℤ c *ℤ x) (b *ℤ z -ℤ c *ℤ y) (a *ℤ a +ℤ b *ℤ b +ℤ c *ℤ c) (x *ℤ x +ℤ y *ℤ y +ℤ z *ℤ z) (sum_of_squares a b c) (sum_of_squares x y z)
    (lagrange a b c x y z) (three a b c) (three x y z)
  where
    three : (u v w : ℤ) → u *ℤ u +ℤ v *ℤ v +ℤ w *ℤ w ≡ pos (sum_of_squares u v w)
    three u v w = omega (arith, ints, squared u, squared v, squared w)

    plain : (s p q r l m : ℤ) (i j : ℕ) → s *ℤ s +ℤ p *ℤ p +ℤ q *ℤ q +ℤ r *ℤ r ≡ l *ℤ m → l ≡ pos i → m ≡ pos j → square (unsigned_abs s) ≤ i * j
    plain s p q r l m i j e is_l is_m =
        let product : l *ℤ m ≡ pos (i * j) = ap (λ (z : ℤ). z *ℤ m) is_l ∙ ap (λ (z : ℤ). pos i *ℤ z) is_m in
        omega (arith, ints, e, product, squared s, squared p, squared q, squared r)

-- a number that is at most a sum, by the squares of its parts over n
far : (f g step n r k : ℕ) → f ≤ g + step → g * g ≤ r * r * n → step * step ≤ n * (k * k) → f * f ≤ (r + k) * (r + k) * n
far f g step n r k sum first second =
    let most : f * f ≤ (g + step) * (g + step) = mul-le-mul sum sum in
    let both : (g * g) * (step * step) ≤ (r * r * n) * (n * (k * k)) = mul-le-mul first second in
    let middle : g * step ≤ r * k * n = elim (cases_lt (r * k * n) (g * step)) [
      | inl less ↦ let more : (r * k * n + 1) * (r * k * n + 1) ≤ (g * step) * (g * step) = mul-le-mul (omega arith) (omega arith) in absurd (omega arith)
      | inr within ↦ within
    ] in
    omega arith

-- how far the plane is behind the point, and 0 where it is in front
abbrev depth : ℤ → ℕ
depth (pos n) = 0
depth (negsuc n) = suc n

below_is : (offset : ℤ) (reach : ℕ) → is_below offset reach ≡ true → reach < depth offset * depth offset
below_is (pos n) reach h = absurd (omega (arith, ltb-true n 0 (and_parts (ltb n 0) (ltb reach (n * n)) h).0))
below_is (negsuc n) reach h = ltb-true reach (suc n * suc n) h

below_from : (offset : ℤ) (reach : ℕ) → reach < depth offset * depth offset → is_below offset reach ≡ true
below_from (pos n) reach h = absurd (omega arith)
below_from (negsuc n) reach h = lt-ltb reach (suc n * suc n) h

depth_falls : (f g step : ℤ) → f ≡ g +ℤ step → depth f ≤ depth g + unsigned_abs step
depth_falls (pos n) g step e = omega arith
depth_falls (negsuc n) (pos m) step e = omega (arith, ints)
depth_falls (negsuc n) (negsuc m) step e = omega (arith, ints)

-- the offsets of two points differ by the normal's product with their difference
offsets_differ : (plane : HalfSpaceSeen) (p q : Point) → offset_of plane p ≡ offset_of plane q +ℤ (plane.normal.x *ℤ (p.x -ℤ q.x) +ℤ plane.normal.y *ℤ (p.y -ℤ q.y) +ℤ plane.normal.z *ℤ (p.z -ℤ q.z))
unfolding offset_of
offsets_differ plane p q =
    let n = plane.normal in
    ring (n.x ∷ n.y ∷ n.z ∷ p.x ∷ p.y ∷ p.z ∷ q.x ∷ q.y ∷ q.z ∷ plane.level ∷ [])
    (X 0 :* X 3 :+ X 1 :* X 4 :+ X 2 :* X 5 :- X 9)
    (X 0 :* X 6 :+ X 1 :* X 7 :+ X 2 :* X 8 :- X 9 :+ (X 0 :* (X 3 :- X 6) :+ X 1 :* (X 4 :- X 7) :+ X 2 :* (X 5 :- X 8)))
    refl

pub behind_within : (plane : HalfSpaceSeen) (outer inner : Ball) → is_ball_within outer inner ≡ true → is_behind plane outer ≡ true → is_behind plane inner ≡ true
unfolding is_ball_within distance_squared_of is_behind reach_squared
behind_within plane outer inner within behind =
    let n = plane.normal in
    let c = outer.centre in
    let d = inner.centre in
    let parts = and_parts (leb inner.radius outer.radius) (leb (distance_squared_of c d) (square (outer.radius - inner.radius))) within in
    let radius = leb-true inner.radius outer.radius parts.0 in
    let near = leb-true (distance_squared_of c d) (square (outer.radius - inner.radius)) parts.1 in
    below_from (offset_of plane d) (square inner.radius * normal_squared n)
    (plain (depth (offset_of plane c)) (depth (offset_of plane d)) (unsigned_abs (n.x *ℤ (c.x -ℤ d.x) +ℤ n.y *ℤ (c.y -ℤ d.y) +ℤ n.z *ℤ (c.z -ℤ d.z))) (normal_squared n) (distance_squared_of c d) outer.radius inner.radius
    radius near (below_is (offset_of plane c) (square outer.radius * normal_squared n) behind)
    (depth_falls (offset_of plane c) (offset_of plane d) (n.x *ℤ (c.x -ℤ d.x) +ℤ n.y *ℤ (c.y -ℤ d.y) +ℤ n.z *ℤ (c.z -ℤ d.z)) (offsets_differ plane c d))
    (product_within n.x n.y n.z (c.x -ℤ d.x) (c.y -ℤ d.y) (c.z -ℤ d.z)))
  where
    plain : (f g step n s big small : ℕ) → small ≤ big → s ≤ square (big - small) → square big * n < f * f → f ≤ g + step → square step ≤ n * s → square small * n < g * g
    plain f g step n s big small radius near behind sum within =
        elim (cases_lt (square small * n) (g * g)) [
          | inl less ↦ less
          | inr more ↦
              let k = big - small in
              let product : n * s ≤ n * (k * k) = mul-le-mul (omega arith) near in
              let most = far f g step n small k sum more (omega arith) in
              let all : small + k ≡ big = omega arith in
              let whole = subst (λ (x : ℕ). f * f ≤ x * x * n) all most in
              absurd (omega arith)
        ]
