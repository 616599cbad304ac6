-- A script as it is seen.
use Rattle.std.specs.Prelude.{ℕ, List}
use Rattle.script_model.specs.declared.modes.Mode.{Mode}
use Rattle.script_model.specs.declared.orders.Line.{Line}

-- its lines, what it is for, and for how many tiers
pub record ScriptSeen : Type 0 where
  pub lines : List Line
  pub mode : Mode
  pub tiers : ℕ
