-- Masks of sessions: what setting and clearing a bit does to the set, and how many sessions a mask has.
use Rattle.std.proofs.Common.{◌≡◌, ◌≢◌, ℕ, zero, suc, ◌+◌, ◌-◌, ◌*◌, ◌%◌, ◌^◌, ◌<◌, ◌≤◌, true, false, refl, sym, ap, ◌∙◌, inl, inr, arith, bit_and, bit_or, count_ones, w64}
use Rattle.std.specs.Prelude.{◌==◌, if◌then◌else◌}
use Rattle.std.specs.Int.{bit_at, bit_not}
use Rattle.std.specs.Int.Count.{ones, ones_in}
use Rattle.std.proofs.Math.Nat.{mod-eq_of_lt}
use Rattle.std.proofs.lemmas.Nat.{mod-pow-add, ones_cat, mod_below, pow_pos}
use Rattle.std.proofs.lemmas.Nat.Bits.{bit_at_set_same, bit_at_set_other, bit_at_clear_same, bit_at_clear_other, bit_at_and, bit_at_above, bit_at-lt}
use Rattle.std.proofs.lemmas.Bool.Decides.{leb_tells}
use Rattle.token_words.specs.Changes.{SetAt}
use Rattle.token_words.specs.Sessions.{IsSession, has_session, count_to, session_count}

-- the mask with a session's bit set, and with it cleared
abbrev pub with_bit : ℕ → ℕ → ℕ
with_bit mask bit = bit_or mask (1 * 2 ^ bit % 2 ^ 64)

abbrev pub without_bit : ℕ → ℕ → ℕ
without_bit mask bit = bit_and mask (bit_not w64 (1 * 2 ^ bit % 2 ^ 64))

with_bit-others : (mask bit : ℕ) → bit < 64 → (s : ℕ) → s ≢ suc bit
    → has_session (with_bit mask bit) s ≡ has_session mask s
with_bit-others mask bit within zero ne = refl
with_bit-others mask bit within (suc i) ne =
    ap (λ b. b == 1) (bit_at_set_other w64 mask bit within i (λ e. ne (ap suc e)))

-- setting a session's bit puts it in the set
pub has_session-with : (mask session : ℕ) → IsSession session
    → SetAt (has_session mask) session true (has_session (with_bit mask (session - 1)))
has_session-with mask zero is = absurd (omega arith)
has_session-with mask (suc bit) is =
    let less : suc bit - 1 ≡ bit = omega arith in
    rw less
    (let within : bit < 64 = omega arith in
    record {
      here = ap (λ b. b == 1) (bit_at_set_same w64 mask bit within);
      others = with_bit-others mask bit within;
    })

-- no mask of 64 bits has a bit from 64 on
beyond : (mask bit i : ℕ) → mask < 2 ^ 64 → 64 ≤ i → bit_at (without_bit mask bit) i ≡ bit_at mask i
beyond mask bit i fits far =
    let none : bit_at mask i ≡ 0 = bit_at_above mask 64 i fits far in
    bit_at_and mask (bit_not w64 (1 * 2 ^ bit % 2 ^ 64)) i ∙ rw none (omega arith)

without_bit-others : (mask bit : ℕ) → mask < 2 ^ 64 → bit < 64 → (s : ℕ) → s ≢ suc bit
    → has_session (without_bit mask bit) s ≡ has_session mask s
without_bit-others mask bit fits within zero ne = refl
without_bit-others mask bit fits within (suc i) ne =
    elim (leb_tells 64 i) [
      | inl far ↦ ap (λ b. b == 1) (beyond mask bit i fits far.1)
      | inr near ↦ ap (λ b. b == 1) (bit_at_clear_other w64 mask bit within i near.1 (λ e. ne (ap suc e)))
    ]

-- clearing a session's bit takes it out of the set
pub has_session-without : (mask session : ℕ) → mask < 2 ^ 64 → IsSession session
    → SetAt (has_session mask) session false (has_session (without_bit mask (session - 1)))
has_session-without mask zero fits is = absurd (omega arith)
has_session-without mask (suc bit) fits is =
    let less : suc bit - 1 ≡ bit = omega arith in
    rw less
    (let within : bit < 64 = omega arith in
    record {
      here = ap (λ b. b == 1) (bit_at_clear_same w64 mask bit within);
      others = without_bit-others mask bit fits within;
    })

-- one digit counts one where it is set
count_ones-digit : (b : ℕ) → b < 2 → count_ones b ≡ (if b == 1 then 1 else 0)
unfolding ones ones_in
count_ones-digit zero within = refl
count_ones-digit (suc zero) within = refl
count_ones-digit (suc (suc b)) within = absurd (omega arith)

-- the low bits of a mask are counted session by session
count_ones-low : (last mask : ℕ) → count_ones (mask % 2 ^ last) ≡ count_to last (has_session mask)
unfolding count_to ones ones_in
count_ones-low zero mask = let none : mask % 1 ≡ 0 = omega (arith, mod_below mask 1) in rw none refl
count_ones-low (suc last) mask =
    let more : 1 + last ≡ suc last = omega arith in
    let parts = mod-pow-add mask 1 last in
    let apart = ones_cat last (bit_at mask last) (mask % 2 ^ last) (mod_below mask (2 ^ last) (pow_pos last)) in
    ap (λ n. count_ones (mask % 2 ^ n)) (sym more)
    ∙ ap count_ones parts
    ∙ apart
    ∙ (let digit = count_ones-digit (bit_at mask last) (bit_at-lt mask last) in
    let low = count_ones-low last mask in
    omega (arith, digit, low))

-- a mask has as many sessions as ones
pub count_ones-mask : (mask : ℕ) → mask < 2 ^ 64 → count_ones mask ≡ session_count (has_session mask)
unfolding session_count
count_ones-mask mask fits = ap count_ones (sym (mod-eq_of_lt fits)) ∙ count_ones-low 64 mask
