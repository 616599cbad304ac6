-- How a step changes what its seat knows.
use Rattle.std.specs.Prelude.{◌≡◌, ℕ, ◌+◌, ◌*◌, ◌/◌, ◌≤◌, [], ◌∷◌, ◌++◌, slice_index, slice_set, Option, Some, None, if◌then◌else◌, nat_eq}
use Rattle.atomic_table.specs.Table.{Me, Step}
use Rattle.file_model.specs.Tries.{is_odd}
use Rattle.token_table.specs.declared.knowledge.Own.{Own}
use Rattle.token_table.specs.declared.knowledge.Desk.{Desk}
use Rattle.token_table.specs.declared.knowledge.View.{View}
use Rattle.token_table.specs.declared.knowledge.View.TheVariants.{Spent, Session, Keeper}
use Rattle.token_table.specs.Known.{without, IsDesk}

-- a session after its try of a patch at an epoch
abbrev pub after_try : ℕ → ℕ → Own → Own
after_try p epoch own = record {
  number = own.number;
  uses = p ∷ own.uses;
  locks = if is_odd epoch then p ∷ own.locks else own.locks;
  tries = own.tries ++ (p, epoch) ∷ [];
}

-- a session that doesn't use a patch any more
abbrev pub after_leave : ℕ → Own → Own
after_leave p own = record {
  number = own.number;
  uses = without own.uses p;
  locks = without own.locks p;
  tries = own.tries;
}

-- a session that was just made
abbrev pub newcomer : ℕ → Own
newcomer number = record { number = number; uses = []; locks = []; tries = [] }

-- the keeper after the patch came or left
abbrev pub with_risen : ℕ → Desk → Desk
with_risen p desk = record desk { epochs = slice_set desk.epochs p (slice_index desk.epochs p + 1) }

-- the keeper after an eviction that found these uses
abbrev pub after_eviction : ℕ → ℕ → Desk → Desk
after_eviction p uses desk = if nat_eq uses 0 then with_risen p desk else record desk { misses = desk.misses ++ (p, uses) ∷ [] }

-- the keeper with one more session made
abbrev pub with_made : Desk → Desk
with_made desk = record desk { made = desk.made + 1 }

-- the keeper with a guest, or with none
abbrev pub with_guest : Option Own → Desk → Desk
with_guest guest desk = record desk { guest = guest }

-- the keeper after a session gave its seat back
abbrev pub with_ended : Own → Desk → Desk
with_ended own desk = record desk { ended = desk.ended ++ record { number = own.number; tries = own.tries } ∷ [] }

-- a seat that knows this and has taken no slot
abbrev pub seated : {S : Type 0} → View → Me S View
seated view = (view, [])

module _ {S : Type 0} where
  -- the answer to a try is the epoch of the word that was found, and the tries grow by it
  abbrev pub Tries : Step S → Me S View → ℕ → Me S View → Type 0
  Tries step me found next = (own : Own) → me.0 ≡ Session own → next ≡ seated (Session (after_try step.word (found / 4294967296) own))

  -- the use is gone
  abbrev pub Leaves : Step S → Me S View → ℕ → Me S View → Type 0
  Leaves step me found next = (own : Own) → me.0 ≡ Session own → next ≡ seated (Session (after_leave step.word own))

  -- the epoch rises, and what the keeper knows fits
  abbrev pub Admits : Step S → Me S View → ℕ → Me S View → Type 0
  Admits step me found next = (desk : Desk) → me.0 ≡ Keeper desk → (next ≡ seated (Keeper (with_risen step.word desk))) × IsDesk (with_risen step.word desk)

  -- the uses are those of the word that was found, and what the keeper knows fits
  abbrev pub Evicts : Step S → Me S View → ℕ → Me S View → Type 0
  Evicts step me found next = (desk : Desk) → me.0 ≡ Keeper desk
      → (uses : ℕ) × (found ≡ slice_index desk.epochs step.word * 4294967296 + uses) × (uses ≤ 65) × (next ≡ seated (Keeper (after_eviction step.word uses desk))) × IsDesk (after_eviction step.word uses desk)

  -- nothing changes, and what the keeper knows is seen to fit
  abbrev pub Watches : Step S → Me S View → ℕ → Me S View → Type 0
  Watches step me found next = (desk : Desk) → me.0 ≡ Keeper desk → (next ≡ seated (Keeper desk)) × IsDesk desk

-- the keeper's seat takes in the session's for a visit
abbrev pub welcoming : View → View → View
welcoming (Keeper desk) (Session own) = Keeper (with_guest (Some own) desk)
welcoming view other = view

-- the keeper's seat takes in the session's for good
abbrev pub ending : View → View → View
ending (Keeper desk) (Session own) = Keeper (with_ended own desk)
ending view other = view

-- the keeper's seat after a visit
abbrev pub alone : View → View
alone (Keeper desk) = Keeper (with_guest None desk)
alone view = view

-- the guest's seat, if there is a guest
abbrev pub session_or_spent : Option Own → View
session_or_spent None = Spent
session_or_spent (Some own) = Session own

-- the seat that is split off after a visit
abbrev pub leaving : View → View
leaving (Keeper desk) = session_or_spent desk.guest
leaving view = Spent

-- the keeper's seat when the next session is split off
abbrev pub making : View → View
making (Keeper desk) = Keeper (with_made desk)
making view = view

-- the next session's seat
abbrev pub made_next : View → View
made_next (Keeper desk) = Session (newcomer (desk.made + 1))
made_next view = Spent
