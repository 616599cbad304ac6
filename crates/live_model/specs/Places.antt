-- What is looked at of a state to judge a line: how many tiers there are, how far each session has come, and which
-- bodies may be had at once.
use Rattle.std.specs.Prelude.{ℕ, Bool, ◌||◌, nat_lt, length}
use Rattle.script_model.specs.Histories.{History}
use Rattle.token_words.specs.Sessions.{session_count}
use Rattle.run_model.specs.Worlds.{World, is_base}
use Rattle.run_model.specs.States.{State}
use Rattle.run_model.specs.Stages.{stage_of, seat_locks}

-- the patch is a base patch, or some session has it locked
abbrev pub is_fast : World → State → ℕ → Bool
is_fast w a p = is_base w p || nat_lt 0 (session_count (λ i. seat_locks (a.sessions i) p))

-- how many tiers there are, how far each session has come, by its number, and whether a patch's body may be had at
-- once
pub record Place : Type 0 where
  pub tiers : ℕ
  pub history : History
  pub fast : ℕ → Bool

abbrev pub place_of : World → State → Place
place_of w a = record { tiers = length w.budgets; history = λ i. stage_of (a.sessions i); fast = is_fast w a }
