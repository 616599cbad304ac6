-- What a seat knows of patches and sessions.
use Rattle.std.specs.Prelude.{◌≡◌, ℕ, ◌+◌, ◌-◌, ◌≤◌, Bool, true, not, ◌&&◌, List, [], ◌∷◌, length, slice_index, Option, Some, None, if◌then◌else◌, nat_eq, nat_le, All}
use Rattle.std.specs.List.{list_any, filter}
use Rattle.file_model.specs.Tries.{is_odd}
use Rattle.token_words.specs.Tries.{AreTries}
use Rattle.token_table.specs.declared.knowledge.Own.{Own}
use Rattle.token_table.specs.declared.knowledge.Desk.{Desk}
use Rattle.token_table.specs.declared.knowledge.View.{View}
use Rattle.token_table.specs.declared.knowledge.View.TheVariants.{Spent, Session, Keeper}

-- whether a patch is among these
abbrev pub has : List ℕ → ℕ → Bool
has patches p = list_any (nat_eq p) patches

-- these patches but one
abbrev pub without : List ℕ → ℕ → List ℕ
without patches p = filter (λ q. not (nat_eq q p)) patches

-- 1 where it holds, else 0
abbrev pub one_if : Bool → ℕ
one_if b = if b then 1 else 0

-- the sum over a list
unfoldable pub total : {A : Type 0} → (A → ℕ) → List A → ℕ
total f [] = 0
total f (x ∷ xs) = f x + total f xs

-- a session's locks are uses of patches that are there
pub record IsHolder (epochs : List ℕ) (own : Own) : Type 0 where
  pub used : (p : ℕ) → has own.locks p ≡ true → has own.uses p ≡ true
  pub there : (p : ℕ) → has own.locks p ≡ true → is_odd (slice_index epochs p) ≡ true
  pub tries : AreTries epochs own.tries

-- the same of a guest, if there is one
abbrev pub IsGuest : List ℕ → Option Own → Type 0
IsGuest epochs None = Unit {0}
IsGuest epochs (Some own) = IsHolder epochs own

-- what the keeper knows: pinned patches are there, and what it keeps of sessions fits the epochs
pub record IsDesk (desk : Desk) : Type 0 where
  pub last : (p : ℕ) → slice_index desk.epochs p ≤ 4294967294
  pub pins : (p : ℕ) → slice_index desk.pins p ≤ 1
  pub pinned : (p : ℕ) → slice_index desk.pins p ≡ 1 → is_odd (slice_index desk.epochs p) ≡ true
  pub made : desk.made ≤ 64
  pub guest : IsGuest desk.epochs desk.guest
  pub ended : All (λ session. AreTries desk.epochs session.tries) desk.ended
  pub misses : All (λ miss. 1 ≤ miss.1) desk.misses

-- of a guest, if there is one
abbrev pub of_guest : (Own → ℕ) → Option Own → ℕ
of_guest f None = 0
of_guest f (Some own) = f own

-- the uses that a session has of a patch
abbrev pub own_uses : ℕ → Own → ℕ
own_uses p own = one_if (has own.uses p)

-- the uses that a seat has of a patch
abbrev pub uses_of : ℕ → View → ℕ
uses_of p Spent = 0
uses_of p (Session own) = own_uses p own
uses_of p (Keeper desk) = slice_index desk.pins p + of_guest (own_uses p) desk.guest

-- how many uses of one patch the keeper may have: what the sessions haven't
abbrev pub desk_allowance : Desk → ℕ
desk_allowance desk = (65 - desk.made) + length desk.ended + of_guest (λ _. 1) desk.guest

-- the same of any seat: the allowances of all seats sum to 65
abbrev pub allowance : View → ℕ
allowance Spent = 0
allowance (Session own) = 1
allowance (Keeper desk) = desk_allowance desk

-- how often a session's number stands in what the keeper knows
abbrev pub desk_numbers : ℕ → Desk → ℕ
desk_numbers n desk = total (λ session. one_if (nat_eq n session.number)) desk.ended + of_guest (λ own. one_if (nat_eq n own.number)) desk.guest

-- the same of any seat
abbrev pub numbers_of : ℕ → View → ℕ
numbers_of n Spent = 0
numbers_of n (Session own) = one_if (nat_eq n own.number)
numbers_of n (Keeper desk) = desk_numbers n desk

-- whether a number is from 1 to the number of sessions made
abbrev pub is_made : ℕ → ℕ → Bool
is_made made n = nat_le 1 n && nat_le n made
