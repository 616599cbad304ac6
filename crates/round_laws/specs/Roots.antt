-- The integer square root of a number lies between two squares, and integer square roots of squared distances keep the
-- triangle inequality: from one point to two others they differ by no more than those are apart.
use Rattle.std.proofs.Common.{◌≡◌, ℕ, zero, suc, ◌+◌, ◌-◌, ◌*◌, ◌<◌, ◌≤◌, subst, arith, inl, inr}
use Rattle.std.proofs.lemmas.Bool.{le-leb, lt-leb, cases_lt}
use Rattle.std.proofs.Math.Nat.{mul-le-mul}
use Rattle.grid_vertex.specs.Roots.{root_up_to, root_of}

-- between two squares
pub record IsRoot (n r : ℕ) : Type 0 where
  pub low : r * r ≤ n
  pub high : n < (r + 1) * (r + 1)

up_to_is_root : (most n : ℕ) → n < (most + 1) * (most + 1) → IsRoot n (root_up_to most n)
unfolding root_up_to
up_to_is_root zero n h = record { low = omega arith; high = h }
up_to_is_root (suc most) n h =
    elim (cases_lt n (suc most * suc most)) [
      | inl less ↦ rw (lt-leb (suc most * suc most) n less) (up_to_is_root most n (omega arith))
      | inr more ↦ rw (le-leb (suc most * suc most) n more) (record { low = more; high = h })
    ]

pub root_is_root : (n : ℕ) → IsRoot n (root_of n)
unfolding root_of
root_is_root n = up_to_is_root n n (omega arith)

-- the lesser square is of the lesser number
less_from_squares : (a b : ℕ) → a * a < b * b → a < b
less_from_squares a b h =
    elim (cases_lt a b) [
      | inl less ↦ less
      | inr more ↦ let m : b * b ≤ a * a = mul-le-mul more more in absurd (omega arith)
    ]

at_most_from_squares : (a b : ℕ) → a * a ≤ b * b → a ≤ b
at_most_from_squares a b h =
    elim (cases_lt b a) [
      | inl less ↦ let m : (b + 1) * (b + 1) ≤ a * a = mul-le-mul (omega arith) (omega arith) in absurd (omega arith)
      | inr more ↦ more
    ]

-- twice a product is at most the sum of the squares
twice_product : (p q : ℕ) → 2 * (p * q) ≤ p * p + q * q
twice_product p q =
    elim (cases_lt p q) [
      | inl less ↦ of_gap p (q - p) q (omega arith)
      | inr more ↦ let h = of_gap q (p - q) p (omega arith) in omega arith
    ]
  where
    of_gap : (a d b : ℕ) → a + d ≡ b → 2 * (a * b) ≤ a * a + b * b
    of_gap a d b e = subst (λ (x : ℕ). 2 * (a * x) ≤ a * a + x * x) e (omega arith)

-- the square of a sum of products is at most the product of the sums of squares
cauchy : (a b c x y z : ℕ) → (a * x + b * y + c * z) * (a * x + b * y + c * z) ≤ (a * a + b * b + c * c) * (x * x + y * y + z * z)
cauchy a b c x y z = omega (arith, twice_product (a * y) (b * x), twice_product (a * z) (c * x), twice_product (b * z) (c * y))

-- the sum of products is at most the product of what bounds the roots of the sums of squares
products_within : (a b c x y z l k : ℕ) → a * a + b * b + c * c ≤ l * l → x * x + y * y + z * z ≤ k * k → a * x + b * y + c * z ≤ l * k
products_within a b c x y z l k h g =
    let both : (a * a + b * b + c * c) * (x * x + y * y + z * z) ≤ (l * l) * (k * k) = mul-le-mul h g in
    at_most_from_squares (a * x + b * y + c * z) (l * k) (omega (arith, cauchy a b c x y z))

-- three gaps that are at most two gaps on their way
sum_within : (p q r a b c x y z l k : ℕ) → p ≤ a + x → q ≤ b + y → r ≤ c + z → a * a + b * b + c * c < l * l → x * x + y * y + z * z ≤ k * k → p * p + q * q + r * r < (l + k) * (l + k)
sum_within p q r a b c x y z l k hp hq hr h g =
    let pp : p * p ≤ (a + x) * (a + x) = mul-le-mul hp hp in
    let qq : q * q ≤ (b + y) * (b + y) = mul-le-mul hq hq in
    let rr : r * r ≤ (c + z) * (c + z) = mul-le-mul hr hr in
    omega (arith, products_within a b c x y z l k (omega arith) g)

-- the root of the sum of three squares is at most that of the squares of what is nearer, and k
pub root_within : (p q r a b c x y z k : ℕ) → p ≤ a + x → q ≤ b + y → r ≤ c + z → x * x + y * y + z * z ≤ k * k → root_of (p * p + q * q + r * r) ≤ root_of (a * a + b * b + c * c) + k
root_within p q r a b c x y z k hp hq hr g =
    let far = root_is_root (p * p + q * q + r * r) in
    let near = root_is_root (a * a + b * b + c * c) in
    let l = root_of (a * a + b * b + c * c) + 1 in
    let within = sum_within p q r a b c x y z l k hp hq hr near.high g in
    let less = less_from_squares (root_of (p * p + q * q + r * r)) (l + k) (omega (arith, far.low, within)) in
    omega (arith, less)
