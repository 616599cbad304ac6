-- What contracts see of the seats.
use Rattle.std.specs.Prelude.{◌≡◌, ℕ, Bool, true, false, List, [], length, None, slice_index, nat_eq}
use Rattle.atomic_table.specs.Table.{Me}
use Rattle.atomic_table.specs.Seated.{TableId}
use Rattle.token_table.specs.declared.knowledge.Own.{Own}
use Rattle.token_table.specs.declared.knowledge.Desk.{Desk}
use Rattle.token_table.specs.declared.knowledge.View.{View}
use Rattle.token_table.specs.declared.knowledge.View.TheVariants.{Session, Keeper}
use Rattle.token_table.specs.Known.{has, IsDesk}
use Rattle.token_table.specs.WordRule.{opened}
use Rattle.token_table.specs.Changes.{newcomer, seated}

-- a session's seat: the table that it is of, and what the session knows
pub record SessionSeen : Type 0 where
  pub table : TableId
  pub own : Own

-- the keeper's seat
pub record KeeperSeen : Type 0 where
  pub table : TableId
  pub desk : Desk

-- what a view says of a session, and of the keeper
abbrev pub own_in : View → Own
own_in (Session own) = own
own_in _ = newcomer 0

abbrev pub desk_in : View → Desk
desk_in (Keeper desk) = desk
desk_in _ = opened []

-- a session's seat is of the table, and its locks are uses
pub record IsSeatOf (table : TableId) (seat : SessionSeen) : Type 0 where
  pub here : seat.table ≡ table
  pub used : (p : ℕ) → has seat.own.locks p ≡ true → has seat.own.uses p ≡ true

-- a session's seat at the table that uses no patch
pub record IsIdle (table : TableId) (seat : SessionSeen) : Type 0 where
  pub of : IsSeatOf table seat
  pub unused : (p : ℕ) → has seat.own.uses p ≡ false

-- the keeper's seat has no guest, and keeps the epochs
pub record IsAtDesk {S : Type 0} (table : TableId) (me : Me S View) (epochs : List ℕ) : Type 0 where
  pub knows : me ≡ seated (Keeper (desk_in me.0))
  pub fits : IsDesk (desk_in me.0)
  pub alone : (desk_in me.0).guest ≡ None
  pub epochs_are : (desk_in me.0).epochs ≡ epochs
  pub many : length epochs ≡ table.words

-- whether a patch is pinned
abbrev pub is_pinned : Desk → ℕ → Bool
is_pinned desk p = nat_eq (slice_index desk.pins p) 1

-- false isn't true
pub no_sets : {A : Type 0} → false ≡ true → A
no_sets told = absurd (cc)
