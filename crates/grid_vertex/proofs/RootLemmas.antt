-- The root is what lies between two squares.
use Rattle.std.proofs.Common.{◌≡◌, ℕ, zero, suc, ◌+◌, ◌*◌, ◌<◌, ◌≤◌, arith, inl, inr}
use Rattle.std.proofs.lemmas.Bool.{le-leb, lt-leb, cases_lt}
use Rattle.std.proofs.Math.Nat.{mul-le-mul}
use Rattle.grid_vertex.specs.Roots.{root_up_to, root_of}

-- a number whose square is below the next square of r is at most r
pub at_most_root : (n r s : ℕ) → n < (r + 1) * (r + 1) → s * s ≤ n → s ≤ r
at_most_root n r s above below =
    elim (cases_lt r s) [
      | inl lt ↦ let next : r + 1 ≤ s = omega arith in let m : (r + 1) * (r + 1) ≤ s * s = mul-le-mul next next in absurd (omega arith)
      | inr le ↦ le
    ]

root_up_to-is : (most n r : ℕ) → r ≤ most → r * r ≤ n → n < (r + 1) * (r + 1) → root_up_to most n ≡ r
unfolding root_up_to
root_up_to-is zero n r le below above = omega arith
root_up_to-is (suc most) n r le below above =
    elim (cases_lt n (suc most * suc most)) [
      | inl lt ↦ rw (lt-leb (suc most * suc most) n lt) (root_up_to-is most n r (less most n r le below lt) below above)
      | inr ge ↦ rw (le-leb (suc most * suc most) n ge) (let h : suc most ≤ r = at_most_root n r (suc most) above ge in omega arith)
    ]
  where
    less : (most n r : ℕ) → r ≤ suc most → r * r ≤ n → n < suc most * suc most → r ≤ most
    less most n r le below lt =
        elim (cases_lt most r) [
          | inl above ↦ let m : suc most * suc most ≤ r * r = mul-le-mul (omega arith) (omega arith) in absurd (omega arith)
          | inr fine ↦ fine
        ]

pub root_of-is : (n r : ℕ) → r * r ≤ n → n < (r + 1) * (r + 1) → root_of n ≡ r
unfolding root_of
root_of-is n r below above = root_up_to-is n n r (small n r below) below above
  where
    small : (n r : ℕ) → r * r ≤ n → r ≤ n
    small n zero h = omega arith
    small n (suc r) h = let m : suc r * 1 ≤ suc r * suc r = mul-le-mul (omega arith) (omega arith) in omega arith
