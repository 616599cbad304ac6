-- The steps of a session. Which epoch answers a try is given from outside.
use Rattle.std.specs.Prelude.{◌≡◌, ℕ, List, [], ◌∷◌, Option, Some, None, if◌then◌else◌}
use Rattle.std.specs.Option.{option_or, option_map}
use Rattle.file_model.specs.Tries.{is_odd}
use Rattle.mesh_model.specs.Meshes.{MeshLists}
use Rattle.round_model.specs.Views.{ViewSeen, view_rules}
use Rattle.round_model.specs.declared.asks.Ask.{Ask}
use Rattle.round_model.specs.declared.asks.Ask.TheVariants.{Lock, GiveBack, Done as NothingAsked}
use Rattle.round_model.specs.Refiners.{Refining, pending_ask, after_answer, after_release}
use Rattle.session_model.specs.declared.steps.Stepped.{Stepped}
use Rattle.session_model.specs.declared.steps.Stepped.TheVariants.{Unlocked, Tried, Withdrew, GaveBack, Done}
use Rattle.session_model.specs.Sessions.{SessionState, least_old, round_ended, settled, without_flight, without_old}

-- what a step did, and the session after it
pub record SessionStep : Type 0 where
  pub did : Stepped
  pub state : SessionState

abbrev pub stepped : Stepped → SessionState → SessionStep
stepped did state = record { did = did; state = state }

-- the round of a view at its start
abbrev pub begun_round : MeshLists → ViewSeen → Refining
begun_round mesh view = record { rules = view_rules view mesh; tries = []; owed = [] }

-- the session's round, or the one that its view begins
abbrev pub round_or_begun : MeshLists → SessionState → Option Refining
round_or_begun mesh s = option_or s.round (option_map (begun_round mesh) s.view)

-- the session with this round
abbrev pub with_round : SessionState → Refining → SessionState
with_round s r = record s { round = Some r }

-- the session once the epoch has answered the round's try of the patch: a refused one is in flight
unfoldable pub after_try : SessionState → Refining → ℕ → ℕ → SessionState
after_try s r p epoch = record s { round = Some (after_answer r p epoch); flight = if is_odd epoch then None else Some p }

-- what the round asks for is done
abbrev pub answer_ask : SessionState → Refining → ℕ → Ask → SessionStep
answer_ask s r epoch (Lock p) = stepped (Tried p epoch) (after_try s r p epoch)
answer_ask s r epoch (GiveBack p) = stepped (GaveBack p) (with_round s (after_release r))
answer_ask s r epoch NothingAsked = stepped Done (with_round s r)

-- the round goes on; without a view there is none
abbrev pub go_on : SessionState → ℕ → Option Refining → SessionStep
go_on s epoch (Some r) = answer_ask s r epoch (pending_ask r)
go_on s epoch None = stepped Done s

-- the least old lock is given back, or else the round goes on
abbrev pub unlock_or : MeshLists → SessionState → ℕ → Option ℕ → SessionStep
unlock_or mesh s epoch (Some p) = stepped (Unlocked p) (without_old s p)
unlock_or mesh s epoch None = go_on s epoch (round_or_begun mesh s)

-- the refused try is withdrawn, or else a printed round ends and the step goes on
abbrev pub withdraw_or : MeshLists → SessionState → ℕ → Option ℕ → SessionStep
withdraw_or mesh s epoch (Some p) = stepped (Withdrew p) (without_flight s)
withdraw_or mesh s epoch None = unlock_or mesh (settled s) epoch (least_old (settled s))

-- one step, in which this epoch answers the try, if one is made
unfoldable pub step : MeshLists → SessionState → ℕ → SessionStep
step mesh s epoch = withdraw_or mesh s epoch s.flight

-- the tries that a step made, with their epochs
abbrev pub try_pairs : Stepped → List (ℕ × ℕ)
try_pairs (Tried p epoch) = (p, epoch) ∷ []
try_pairs _ = []

-- the epoch that answers the try
abbrev pub epoch_for : (ℕ → ℕ) → Stepped → ℕ
epoch_for epochs (Tried p epoch) = epochs p
epoch_for epochs _ = 0

-- a try was answered by its patch's epoch
abbrev pub IsOfEpochs : (ℕ → ℕ) → Stepped → Type 0
IsOfEpochs epochs (Tried p epoch) = epoch ≡ epochs p
IsOfEpochs epochs _ = Unit {0}

-- one step, in which a try is answered by its patch's epoch
unfoldable pub step_by : MeshLists → (ℕ → ℕ) → SessionState → SessionStep
step_by mesh epochs s = step mesh s (epoch_for epochs (step mesh s 0).did)

-- what a step towards no use did, if there was something to do, and the session after it
pub record FreeStep : Type 0 where
  pub did : Option Stepped
  pub state : SessionState

abbrev pub freed : Option Stepped → SessionState → FreeStep
freed did state = record { did = did; state = state }

-- the least old lock is given back, if there is one
abbrev pub free_old : SessionState → Option ℕ → FreeStep
free_old s (Some p) = freed (Some (Unlocked p)) (without_old s p)
free_old s None = freed None s

-- the refused try is withdrawn, or else the least old lock is given back
abbrev pub free_or : SessionState → Option ℕ → FreeStep
free_or s (Some p) = freed (Some (Withdrew p)) (without_flight s)
free_or s None = free_old s (least_old s)

-- one step towards no use: the round ends, then the refused try is withdrawn or the least old lock is given
-- back
unfoldable pub free_step : SessionState → FreeStep
free_step s = free_or (round_ended s) s.flight
