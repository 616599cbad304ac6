-- The patches that are locked.
use Rattle.std.specs.Prelude.{ℕ, List}

-- the patches that are locked at the node in hand, in the order of their tries, those that are owed, and
-- for how many there is room
pub record LockLists : Type 0 where
  pub locked : List ℕ
  pub owed : List ℕ
  pub room : ℕ
