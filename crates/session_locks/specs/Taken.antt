-- What a step, steps until a round is done, and a step towards no use make of a session.
use Rattle.std.specs.Prelude.{◌≡◌, ℕ, ◌<◌, ◌⊎◌, Bool, true, false, List, [], ◌++◌, Option, Some, None, Result, Ok, Err}
use Rattle.round_model.specs.declared.asks.Ask.{Ask}
use Rattle.round_model.specs.declared.asks.Ask.TheVariants.{Done as NothingAsked}
use Rattle.round_model.specs.Refiners.{Refining, pending_ask}
use Rattle.std.specs.Option.{option_map_or}
use Rattle.session_model.specs.declared.steps.Stepped.{Stepped}
use Rattle.session_model.specs.declared.steps.Stepped.TheVariants.{Done}
use Rattle.session_model.specs.Sessions.{SessionState, is_left_over, uses, settled}
use Rattle.session_model.specs.Steps.{stepped, round_or_begun, with_round, answer_ask, step, try_pairs, freed, free_step}
use Rattle.session_model.specs.Does.{steps_left}
use Rattle.session_model.specs.Freeing.{Frees, FreesAll}
use Rattle.session_model.specs.Finishes.{Steps, Finishes, HasFinished}
use Rattle.session_locks.specs.Sessions.{SessionSeen, with_state}

-- what the session's round asks for, if there is one
abbrev pub asked_of : SessionState → Ask
asked_of s = option_map_or pending_ask s.round NothingAsked

-- the round asks for it
pub record IsAsking (round : Option Refining) (ask : Ask) : Type 0 where
  pub r : Refining
  pub there : round ≡ Some r
  pub asks : pending_ask r ≡ ask

-- a round goes on, or one has begun
pub record Starts (old new : SessionSeen) : Type 0 where
  pub round : Refining
  pub or_begun : round_or_begun old.mesh old.state ≡ Some round
  pub is : new ≡ with_state old (with_round old.state round)

-- what the round asked for was done
pub record GoesOn (old : SessionSeen) (did : Stepped) (new : SessionSeen) : Type 0 where
  pub mesh : new.mesh ≡ old.mesh
  pub number : new.number ≡ old.number
  pub round : Refining
  pub there : old.state.round ≡ Some round
  pub epoch : ℕ
  pub is : stepped did new.state ≡ answer_ask old.state round epoch (pending_ask round)

-- the session took a step: after one that isn't done less is left to do
pub record TakesStep (old : SessionSeen) (did : Stepped) (new : SessionSeen) : Type 0 where
  pub mesh : new.mesh ≡ old.mesh
  pub number : new.number ≡ old.number
  pub view : new.state.view ≡ old.state.view
  pub epoch : ℕ
  pub is : stepped did new.state ≡ step old.mesh old.state epoch
  pub lowers : (did ≡ Done) ⊎ (steps_left new.state < steps_left old.state)

-- a printed round has ended, nothing is locked or in flight, and there is no round
pub record Stops (old new : SessionSeen) : Type 0 where
  pub is : new ≡ with_state old (settled old.state)
  pub no_round : new.state.round ≡ None
  pub no_old : (p : ℕ) → is_left_over new.state p ≡ false
  pub no_flight : new.state.flight ≡ None

-- the tries that a step made, if it was made
abbrev pub tries_made : {E : Type 0} → Result Stepped E → List (ℕ × ℕ)
tries_made (Ok did) = try_pairs did
tries_made (Err e) = []

-- steps were made, and then there was no memory for a round
pub record StopsAfter (told : Bool) (epochs : ℕ → ℕ) (old : SessionSeen) (tries : List (ℕ × ℕ)) (new : SessionSeen) : Type 0 where
  pub last : SessionState
  pub steps : Steps old.mesh told epochs old.state tries last
  pub stops : Stops (with_state old last) new

-- the steps went on until the round was done
pub record EndsDone (told : Bool) (epochs : ℕ → ℕ) (old : SessionSeen) (tries : List (ℕ × ℕ)) (new : SessionSeen) : Type 0 where
  pub mesh : new.mesh ≡ old.mesh
  pub number : new.number ≡ old.number
  pub finishes : Finishes old.mesh told epochs old.state tries new.state
  pub finished : HasFinished old.mesh old.state tries new.state

abbrev pub Ends : {T E : Type 0} → Bool → (ℕ → ℕ) → SessionSeen → List (ℕ × ℕ) → Result T E → SessionSeen → Type 0
Ends told epochs old tries (Ok done) new = EndsDone told epochs old tries new
Ends told epochs old tries (Err e) new = StopsAfter told epochs old tries new

-- the steps that were made, and the tries by which the pass's tries grew, where these are told
pub record TakesSteps {T E : Type 0} (told : Bool) (epochs : ℕ → ℕ) (tells_tries : Bool) (before after : List (ℕ × ℕ)) (old : SessionSeen) (result : Result T E) (new : SessionSeen) : Type 0 where
  pub tries : List (ℕ × ℕ)
  pub grown : tells_tries ≡ true → after ≡ before ++ tries
  pub ends : Ends told epochs old tries result new

-- the session took a step towards no use
pub record TakesFreeStep (old : SessionSeen) (did : Option Stepped) (new : SessionSeen) : Type 0 where
  pub mesh : new.mesh ≡ old.mesh
  pub number : new.number ≡ old.number
  pub is : freed did new.state ≡ free_step old.state
  pub frees : Frees old.state did new.state
  pub free : did ≡ None → (p : ℕ) → uses old.state p ≡ false

-- the session took steps towards no use until there was none, and gave so many old locks back
pub record TakesFreeSteps (old : SessionSeen) (unlocks : ℕ) (new : SessionSeen) : Type 0 where
  pub mesh : new.mesh ≡ old.mesh
  pub number : new.number ≡ old.number
  pub frees : FreesAll old.state unlocks new.state
  pub view : new.state.view ≡ old.state.view
  pub frames : new.state.frames ≡ old.state.frames
  pub free : (p : ℕ) → uses new.state p ≡ false
  pub no_round : new.state.round ≡ None
