-- The place of an owner's words.
use Rattle.std.specs.Prelude.{◌≡◌, ℕ, List, Option}
use Rattle.std.specs.Borrow.{GName}
use Rattle.std.specs.Coded.{Coded-set}
use Rattle.atomic_table.specs.Seated.{TableId, table_id_coded}
use Rattle.token_table.specs.declared.knowledge.Own.{Own}
use Rattle.token_table.specs.declared.knowledge.Ended.{Ended}
use Rattle.token_table.specs.declared.knowledge.Desk.{Desk}

-- the table, by which reference the seat was lent, the tier, and what the seat knows but for the epochs and the refused evictions
pub record MemberPlace : Type 0 where
  pub table : TableId
  pub lender : GName
  pub tier : ℕ
  pub made : ℕ
  pub pins : List ℕ
  pub guest : Option Own
  pub ended : List Ended

abbrev pub place_of : TableId → GName → ℕ → Desk → MemberPlace
place_of table lender tier desk = record {
  table = table;
  lender = lender;
  tier = tier;
  made = desk.made;
  pins = desk.pins;
  guest = desk.guest;
  ended = desk.ended;
}

-- that two tables are one is a fact
pub same_table : (a b : TableId) → IsProp (a ≡ b)
same_table = Coded-set table_id_coded
