-- Sets of sessions.
use Rattle.std.specs.Prelude.{◌≡◌, ℕ, zero, suc, ◌+◌, ◌≤◌, Bool, true, false, ◌==◌, if◌then◌else◌}
use Rattle.std.specs.Int.{bit_at}
use Rattle.std.proofs.Common.{refl, inl, inr, arith}
use Rattle.std.proofs.Math.Nat.{eq-or-lt_of_le}
use Rattle.token_words.specs.declared.session_sets.TheConstants.{SESSIONS}

-- a session has a number from 1 to the greatest
abbrev pub IsSession : ℕ → Type 0
IsSession session = (1 ≤ session) × (session ≤ SESSIONS)

-- whether a mask has a session: session s is bit s - 1
abbrev pub has_session : ℕ → ℕ → Bool
has_session mask zero = false
has_session mask (suc bit) = bit_at mask bit == 1

-- how many of the sessions from 1 to a last one are in the set
unfoldable pub count_to : ℕ → (ℕ → Bool) → ℕ
count_to zero is_in = 0
count_to (suc last) is_in = count_to last is_in + (if is_in (suc last) then 1 else 0)

-- how many sessions are in the set
unfoldable pub session_count : (ℕ → Bool) → ℕ
session_count is_in = count_to SESSIONS is_in

-- each session in a mask is in another one
abbrev pub IsWithin : ℕ → ℕ → Type 0
IsWithin inner outer = (s : ℕ) → has_session inner s ≡ true → has_session outer s ≡ true

none_to : (last : ℕ) (is_in : ℕ → Bool) → ((s : ℕ) → 1 ≤ s → s ≤ last → is_in s ≡ false) → count_to last is_in ≡ 0
unfolding count_to
none_to zero is_in none_in = refl
none_to (suc last) is_in none_in =
    let low : count_to last is_in ≡ 0 = none_to last is_in (λ s from to. none_in s from (omega arith)) in
    let here : is_in (suc last) ≡ false = none_in (suc last) (omega arith) (omega arith) in
    rw here (omega (arith, low))

-- where no session is in the set, the count is 0
pub session_count-none : (is_in : ℕ → Bool) → ((s : ℕ) → IsSession s → is_in s ≡ false) → session_count is_in ≡ 0
unfolding session_count
session_count-none is_in none_in = none_to SESSIONS is_in (λ s from to. none_in s (from, to))

no_one : (before : ℕ) (is_in : Bool) → before + (if is_in then 1 else 0) ≡ 0 → (before ≡ 0) × (is_in ≡ false)
no_one before true empty = absurd (omega arith)
no_one before false empty = (omega arith, refl)

to_none : (last : ℕ) (is_in : ℕ → Bool) → count_to last is_in ≡ 0 → (s : ℕ) → 1 ≤ s → s ≤ last → is_in s ≡ false
unfolding count_to
to_none zero is_in empty s from to = absurd (omega arith)
to_none (suc last) is_in empty s from to =
    let parts = no_one (count_to last is_in) (is_in (suc last)) empty in
    elim (eq-or-lt_of_le to) [
      | inl same ↦ rw same parts.1
      | inr less ↦ to_none last is_in parts.0 s from (omega arith)
    ]

-- where the count is 0, no session is in the set
pub none-session_count : (is_in : ℕ → Bool) → session_count is_in ≡ 0 → (s : ℕ) → IsSession s → is_in s ≡ false
unfolding session_count
none-session_count is_in empty s is = to_none SESSIONS is_in empty s is.0 is.1
