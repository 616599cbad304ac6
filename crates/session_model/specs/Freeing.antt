-- Steps of a session towards no use, and what each of them does.
use Rattle.std.specs.Prelude.{◌≡◌, ◌<◌, ℕ, ◌+◌, true, false, length, Option, Some, None}
use Rattle.mesh_model.specs.Meshes.{MeshLists}
use Rattle.session_model.specs.declared.steps.Stepped.{Stepped}
use Rattle.session_model.specs.declared.steps.Stepped.TheVariants.{Unlocked, Tried, Withdrew, GaveBack, Done}
use Rattle.session_model.specs.Sessions.{SessionState, uses}
use Rattle.session_model.specs.Steps.{FreeStep, free_step}
use Rattle.session_model.specs.Counts.{count_below}
use Rattle.session_model.specs.SessionStates.{IsSessionState}
use Rattle.session_model.specs.Does.{DoesUnlock, DoesWithdraw, DoesNothing}

-- how many patches are used
unfoldable pub uses_left : SessionState → ℕ
uses_left s = count_below (length s.leftover) (uses s)

-- there was no use, and nothing changed
pub record WasFree (s t : SessionState) : Type 0 where
  pub free : (p : ℕ) → uses s p ≡ false
  pub same : DoesNothing s t

-- what the answer of a step towards no use says of the locks and the uses
abbrev pub DoesFree : SessionState → Option Stepped → SessionState → Type 0
DoesFree s (Some (Unlocked p)) t = DoesUnlock s p t
DoesFree s (Some (Withdrew p)) t = DoesWithdraw s p t
DoesFree s (Some (Tried p epoch)) t = ⊥
DoesFree s (Some (GaveBack p)) t = ⊥
DoesFree s (Some Done) t = ⊥
DoesFree s None t = WasFree s t

-- a use ended, or there was none
abbrev pub Frees : SessionState → Option Stepped → SessionState → Type 0
Frees s (Some did) t = (uses_left t < uses_left s) × ((p : ℕ) × (uses s p ≡ true))
Frees s None t = Unit {0}

-- a step towards no use of a session over a mesh
pub record IsFreeStep (mesh : MeshLists) (s : SessionState) (result : FreeStep) : Type 0 where
  pub does : DoesFree s result.did result.state
  pub keeps : IsSessionState mesh result.state
  pub frees : Frees s result.did result.state
  pub view : result.state.view ≡ s.view
  pub no_round : result.state.round ≡ None

-- ---- one after another

-- 1 for a step in which an old lock was given back
abbrev pub unlocks_in : Stepped → ℕ
unlocks_in (Unlocked p) = 1
unlocks_in (Tried p epoch) = 0
unlocks_in (Withdrew p) = 0
unlocks_in (GaveBack p) = 0
unlocks_in Done = 0

-- steps until there is no use, with the number of locks that were given back
pub data FreesAll : SessionState → ℕ → SessionState → Type 0 where
  NoUse : {s : SessionState} → (free_step s).did ≡ None → FreesAll s 0 (free_step s).state
  MoreUse : {s t : SessionState} {n : ℕ} (did : Stepped) → (free_step s).did ≡ Some did → FreesAll (free_step s).state n t → FreesAll s (unlocks_in did + n) t
