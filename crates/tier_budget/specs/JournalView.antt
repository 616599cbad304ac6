-- What callers see of a journal.
use Rattle.std.specs.Prelude.{ℕ, ◌-◌, Bool, true, false, List, vec_len, vec_capacity}
use Rattle.tier_model.specs.declared.turns.Turn.{Turn}
use Rattle.tier_budget.specs.Pasts.{told_in}
use Rattle.tier_budget.specs.declared.journals.Keeping.{Keeping}
use Rattle.tier_budget.specs.declared.journals.Keeping.TheVariants.{Silent, Recording}
use Rattle.tier_budget.specs.declared.journals.Journal.TheInside.{Inside}

-- its entries, for how many more it has room, and whether it keeps them
pub record JournalSeen : Type 0 where
  pub entries : List Turn
  pub spare : ℕ
  pub records : Bool

abbrev pub kept_view : Keeping → JournalSeen
kept_view (Silent past places) = record { entries = told_in past; spare = places; records = false }
kept_view (Recording entries) = record { entries = entries.items; spare = vec_capacity entries - vec_len entries; records = true }

abbrev pub journal_view : Inside → JournalSeen
journal_view j = kept_view j.keeping
