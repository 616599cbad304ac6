-- One turn of one tier in a state: what it is told, and what it finds outside.
use Rattle.std.specs.Prelude.{◌≡◌, ℕ, suc, Bool, true, List, Option, Some, None, slice_get, MatchOption}
use Rattle.tier_model.specs.declared.turns.Turn.{Turn}
use Rattle.tier_model.specs.declared.turns.Turn.TheVariants.{Reserve, Evict, Kept, Got, Lost, Fault, Changed, Commit, Idle}
use Rattle.tier_model.specs.Tiers.{TierState, is_held}
use Rattle.tier_model.specs.Turns.{Fetched, Came, Failed, Broken, Outcome, paired, leaving, begun, turn_of}
use Rattle.tier_model.specs.Chains.{told_at}
use Rattle.token_words.specs.Sessions.{session_count}
use Rattle.run_model.specs.Worlds.{World, IsFileBody}
use Rattle.run_model.specs.States.{State, board_of, moved}

-- ---- what a fetch gives

-- a tier gives the body that it holds
abbrev pub GivesHeld : TierState → ℕ → Fetched → Type 0
GivesHeld below p (Came body) = slice_get below.held p ≡ Some (Some body)
GivesHeld below p Failed = ⊥
GivesHeld below p (Broken fault) = ⊥

-- the store gives the file's body, or fails, or gives bytes that break the rule of bodies
abbrev pub GivesStored : World → ℕ → Fetched → Type 0
GivesStored w p (Came body) = IsFileBody w p body
GivesStored w p Failed = Unit {0}
GivesStored w p (Broken fault) = Unit {0}

-- what may come of a fetch from below tier k: from the tier that is there, if it holds the patch, else from the store
abbrev pub GivesBelow : World → List TierState → ℕ → ℕ → Fetched → Type 0
GivesBelow w tiers k p fetched = MatchOption (slice_get tiers (suc k)) (GivesStored w p fetched) (λ (below : TierState). is_held below p ≡ true → GivesHeld below p fetched)

-- of the patch whose fetch gave a body or failed, by the answer of the turn
abbrev pub IfFetched : Turn → (ℕ → Type 0) → Type 0
IfFetched (Got p) P = P p
IfFetched (Fault p) P = P p
IfFetched (Changed p fault) P = P p
IfFetched (Reserve p) P = Unit {0}
IfFetched (Evict p) P = Unit {0}
IfFetched (Kept p uses) P = Unit {0}
IfFetched (Lost p) P = Unit {0}
IfFetched (Commit p) P = Unit {0}
IfFetched Idle P = Unit {0}

-- ---- the turn

-- the uses of the patch that is to leave: the sessions that use it, since it has no pin
abbrev pub uses_of : (ℕ → ℕ → Bool) → Option ℕ → ℕ
uses_of users None = 0
uses_of users (Some v) = session_count (λ i. users i v)

-- what tier k finds outside: what the fetch gave, and the uses of the patch that is to leave
unfoldable pub found_by : World → State → ℕ → TierState → Fetched → Outcome
found_by w a k t fetched = record { fetched = fetched; uses = uses_of a.users (leaving (told_at a.chain k) (begun (board_of w a) t)) }

-- the turn of tier k over the posted views
abbrev pub turn_at : World → State → ℕ → TierState → Fetched → Turn × TierState
turn_at w a k t fetched = turn_of (board_of w a) (told_at a.chain k) t (found_by w a k t fetched)

-- tier k makes a turn, with this answer
pub record TurnsTo (w : World) (k : ℕ) (a : State) (answer : Turn) (b : State) : Type 0 where
  pub before : TierState
  pub was : slice_get a.chain.tiers k ≡ Some before
  pub fetched : Fetched
  pub gives : IfFetched answer (λ p. GivesBelow w a.chain.tiers k p fetched)
  pub after : TierState
  pub turns : paired answer after ≡ turn_at w a k before fetched
  pub is : b ≡ moved a k answer after
