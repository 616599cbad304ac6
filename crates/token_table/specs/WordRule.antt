-- The rule of the words, which holds between any two steps.
use Rattle.std.specs.Prelude.{◌≡◌, ℕ, ◌+◌, ◌*◌, ◌%◌, ◌<◌, List, [], length, map, slice_index, None}
use mathlib.Core.Option.{some}
use lib.ListN.{get_elem?}
use Rattle.atomic_table.specs.Table.{State}
use Rattle.token_table.specs.declared.knowledge.Own.{Own}
use Rattle.token_table.specs.declared.knowledge.Desk.{Desk}
use Rattle.token_table.specs.declared.knowledge.View.{View}
use Rattle.token_table.specs.declared.knowledge.View.TheVariants.{Session, Keeper}
use Rattle.token_table.specs.Known.{IsDesk, IsHolder, total, uses_of, allowance, numbers_of, is_made, one_if}

-- one seat is the keeper's, and knows the epochs. A word is its patch's epoch times 2^32 and the sum of all seats' uses. Each session that was made stands in one place
pub record IsKept (count keeper : ℕ) (desk : Desk) (words : List ℕ) (views : List View) : Type 0 where
  pub sits : get_elem? views keeper ≡ some (Keeper desk)
  pub only : (seat : ℕ) (other : Desk) → get_elem? views seat ≡ some (Keeper other) → seat ≡ keeper
  pub fits : IsDesk desk
  pub holders : (seat : ℕ) (own : Own) → get_elem? views seat ≡ some (Session own) → IsHolder desk.epochs own
  pub many : length words ≡ count
  pub known : length desk.epochs ≡ count
  pub word_is : (p : ℕ) → p < count → slice_index words p ≡ slice_index desk.epochs p * 4294967296 + total (uses_of p) views
  pub allowances : total allowance views ≡ 65
  pub numbers : (n : ℕ) → total (numbers_of n) views ≡ one_if (is_made desk.made n)

-- the rule of a table with so many words
abbrev pub Holds : {S : Type 0} → ℕ → State S View → Type 0
Holds count s = (keeper : ℕ) × (desk : Desk) × IsKept count keeper desk s.words s.views

-- what the keeper knows at the making: these epochs, in which each patch that is there is pinned
abbrev pub opened : List ℕ → Desk
opened epochs = record { made = 0; pins = epochs; epochs = epochs; guest = None; ended = []; misses = [] }

-- the same of any epochs: a patch is there where its epoch is odd
abbrev pub opened_at : List ℕ → Desk
opened_at epochs = record { made = 0; pins = map (λ epoch. epoch % 2) epochs; epochs = epochs; guest = None; ended = []; misses = [] }

-- who has no words knows nothing
abbrev pub no_desk : Desk
no_desk = opened []
