-- Keys give back the places that they were made of; opposite keys have them the other way round.
use Rattle.std.proofs.Common.{◌≡◌, ◌≢◌, ◌∙◌, ℕ, ◌+◌, ◌*◌, ◌/◌, ◌%◌, ◌<◌, Bool, true, false, cond, eqb, ltb, sym, ap, arith}
use Rattle.std.proofs.lemmas.Bool.Decides.{nat_tests}
use Rattle.body_edges.specs.Keys.{key_of, end_of, from_of, to_of, are_opposite}

abbrev pub key_if : Bool → ℕ → ℕ → ℕ
key_if forward from to = cond forward ((from * 65536 + to) * 2) ((to * 65536 + from) * 2 + 1)

pub even_half : (half : ℕ) → (half * 2) / 2 ≡ half
even_half half = omega arith

pub odd_half : (half : ℕ) → (half * 2 + 1) / 2 ≡ half
odd_half half = omega arith

even_rest : (half : ℕ) → (half * 2) % 2 ≡ 0
even_rest half = omega arith

odd_rest : (half : ℕ) → (half * 2 + 1) % 2 ≡ 1
odd_rest half = omega arith

low_end : (low high : ℕ) → high < 65536 → (low * 65536 + high) / 65536 ≡ low
low_end low high h = omega arith

high_end : (low high : ℕ) → high < 65536 → (low * 65536 + high) % 65536 ≡ high
high_end low high h = omega arith

from_if : (forward : Bool) (from to : ℕ) → from < 65536 → to < 65536 → from_of (key_if forward from to) ≡ from
unfolding from_of
from_if true from to h k = rw (even_half, even_rest) (low_end from to k)
from_if false from to h k = rw (odd_half, odd_rest) (high_end to from h)

to_if : (forward : Bool) (from to : ℕ) → from < 65536 → to < 65536 → to_of (key_if forward from to) ≡ to
unfolding to_of
to_if true from to h k = rw (even_half, even_rest) (high_end from to k)
to_if false from to h k = rw (odd_half, odd_rest) (low_end to from h)

pub from_of_key : (from to : ℕ) → from < 65536 → to < 65536 → from_of (key_of from to) ≡ from
unfolding key_of
from_of_key from to h k = from_if (ltb from to) from to h k

pub to_of_key : (from to : ℕ) → from < 65536 → to < 65536 → to_of (key_of from to) ≡ to
unfolding key_of
to_of_key from to h k = to_if (ltb from to) from to h k

-- two numbers with one half that differ: one is even and the other odd
other_rest : (first second : ℕ) → first / 2 ≡ second / 2 → first ≢ second → eqb (first % 2) 0 ≡ eqb (second % 2) 1
other_rest first second half apart = grind (arith, nat_tests)

pub opposite_ends : (first second : ℕ) → are_opposite first second ≡ true → (from_of first ≡ to_of second) × (from_of second ≡ to_of first)
unfolding from_of to_of
opposite_ends first second h =
    let half : first / 2 ≡ second / 2 = grind (arith, nat_tests) in
    let apart : first ≢ second = grind (arith, nat_tests) in (
      ap (λ (n : ℕ). end_of n (eqb (first % 2) 0)) half ∙ ap (λ (low : Bool). end_of (second / 2) low) (other_rest first second half apart),
      ap (λ (n : ℕ). end_of n (eqb (second % 2) 0)) (sym half) ∙ ap (λ (low : Bool). end_of (first / 2) low) (other_rest second first (sym half) (λ e. apart (sym e))),
    )
