-- The round that a session finishes where epochs answer its tries, step by step.
use Rattle.std.specs.Prelude.{ℕ, zero, suc, Bool, true, false, List, [], ◌++◌, if◌then◌else◌}
use Rattle.mesh_model.specs.Meshes.{MeshLists}
use Rattle.session_model.specs.declared.steps.Stepped.{Stepped}
use Rattle.session_model.specs.declared.steps.Stepped.TheVariants.{Unlocked, Tried, Withdrew, GaveBack, Done}
use Rattle.session_model.specs.Sessions.{SessionState}
use Rattle.session_model.specs.Steps.{SessionStep, step_by, try_pairs}
use Rattle.session_model.specs.Does.{steps_left}

-- the tries that steps made, and the session behind them
pub record RoundMade : Type 0 where
  pub tries : List (ℕ × ℕ)
  pub last : SessionState

abbrev pub is_done : Stepped → Bool
is_done (Tried p epoch) = false
is_done (Unlocked p) = false
is_done (Withdrew p) = false
is_done (GaveBack p) = false
is_done Done = true

-- a step, and what follows it unless it was done
abbrev pub step_then : SessionStep → RoundMade → RoundMade
step_then x rest =
    if is_done x.did then record { tries = []; last = x.state } else record
    { tries = try_pairs x.did ++ rest.tries; last = rest.last }

-- steps until one is done, but at most so many
abbrev pub made_within : MeshLists → (ℕ → ℕ) → ℕ → SessionState → RoundMade
made_within mesh epochs zero s = record { tries = []; last = s }
made_within mesh epochs (suc most) s = step_then (step_by mesh epochs s)
    (made_within mesh epochs most (step_by mesh epochs s).state)

-- the round that the session finishes
abbrev pub round_made : MeshLists → (ℕ → ℕ) → SessionState → RoundMade
round_made mesh epochs s = made_within mesh epochs (suc (steps_left s)) s
