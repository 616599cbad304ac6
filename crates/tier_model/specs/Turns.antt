-- One turn of a tier.
use Rattle.std.specs.Prelude.{◌≡◌, ℕ, zero, suc, ◌+◌, ◌==◌, Bool, true, false, List, length, Option, Some, None, nat_lt, nat_le, if◌then◌else◌}
use Rattle.std.specs.Option.{option_and_then}
use Rattle.file_model.specs.declared.faults.FileFault.{FileFault}
use Rattle.file_model.specs.Lists.{SeenBody}
use Rattle.tier_model.specs.declared.turns.Abort.TheVariants as reasons
use Rattle.tier_model.specs.declared.turns.Turn.{Turn}
use Rattle.tier_model.specs.declared.turns.Turn.TheVariants.{Reserve, Evict, Kept, Got, Lost, Fault, Changed, Commit, Idle}
use Rattle.tier_model.specs.Places.{first_coming, first_bare}
use Rattle.tier_model.specs.Tiers.{TierState, size, load, body_at, IsBodyFor}
use Rattle.tier_model.specs.Changes.{reserved, arrived, aborted, committed, dropped, passed_over, calmed, renewed, ranked}
use Rattle.tier_model.specs.Answers.{IfGot}
use Rattle.tier_model.specs.Choices.{Told, candidate, victim}

-- what a fetch gave
pub data Fetched : Type 0 where
  Came : SeenBody → Fetched
  Failed : Fetched
  Broken : FileFault → Fetched

-- what a turn finds outside the tier: what the fetch gave, and the uses of the victim
pub record Outcome : Type 0 where
  pub fetched : Fetched
  pub uses : ℕ

-- what the fetch gave, read off the answer and the body that came
unfoldable pub fetched_in : Turn → TierState → Fetched
fetched_in (Got p) after = Came (body_at after p)
fetched_in (Changed p fault) after = Broken fault
fetched_in (Reserve p) after = Failed
fetched_in (Evict p) after = Failed
fetched_in (Kept p uses) after = Failed
fetched_in (Lost p) after = Failed
fetched_in (Fault p) after = Failed
fetched_in (Commit p) after = Failed
fetched_in Idle after = Failed

-- the uses that were found, read off the answer
unfoldable pub uses_in : Turn → ℕ
uses_in (Kept p uses) = uses
uses_in (Reserve p) = 0
uses_in (Evict p) = 0
uses_in (Got p) = 0
uses_in (Lost p) = 0
uses_in (Fault p) = 0
uses_in (Changed p fault) = 0
uses_in (Commit p) = 0
uses_in Idle = 0

-- what the turn found, read off the answer and the state behind it
abbrev pub outcome_in : Turn → TierState → Outcome
outcome_in answer after = record { fetched = fetched_in answer after; uses = uses_in answer }

-- an answer beside the state behind it
abbrev pub paired : Turn → TierState → Turn × TierState
paired answer after = (answer, after)

-- ---- the rules, the first that applies

-- the patch, if there is room for it
unfoldable pub fitting : TierState → Option ℕ → Option ℕ
fitting s None = None
fitting s (Some c) = if nat_le (load s + size s c) s.budget then Some c else None

-- the candidate, if fewer than `width` patches come and there is room for it
unfoldable pub entering : Told → TierState → Option ℕ
entering told s = if nat_lt (length s.coming) s.width then fitting s (candidate told s) else None

-- the victim for the candidate
unfoldable pub leaving : Told → TierState → Option ℕ
leaving told s = option_and_then (victim s) (candidate told s)

-- the patch is fetched from a tier or store that has it or hasn't
unfoldable pub fetching : Bool → TierState → ℕ → Fetched → Turn × TierState
fetching false s p fetched = (Lost p, aborted s p reasons.Lost)
fetching true s p (Came body) = (Got p, arrived s p body)
fetching true s p Failed = (Fault p, aborted s p reasons.Fault)
fetching true s p (Broken fault) = (Changed p fault, aborted s p (reasons.Changed fault))

-- at the top a patch that is in use is kept
unfoldable pub evicting : Bool → TierState → ℕ → ℕ → Turn × TierState
evicting false s v uses = (Evict v, dropped s v)
evicting true s v zero = (Evict v, dropped s v)
evicting true s v (suc uses) = (Kept v (suc uses), passed_over s v)

-- fourth and last, a patch leaves for the candidate, or there is nothing to do
unfoldable pub leave_or_idle : Told → TierState → Outcome → Option ℕ → Turn × TierState
leave_or_idle told s o (Some v) = evicting told.top s v o.uses
leave_or_idle told s o None = (Idle, calmed s)

-- third, the first patch that comes is held
unfoldable pub commit_or : Told → TierState → Outcome → Option ℕ → Turn × TierState
commit_or told s o (Some p) = (Commit p, committed s p)
commit_or told s o None = leave_or_idle told s o (leaving told s)

-- second, the first patch that comes without a body is fetched
unfoldable pub fetch_or : Told → TierState → Outcome → Option ℕ → Turn × TierState
fetch_or told s o (Some p) = fetching (told.has p) s p o.fetched
fetch_or told s o None = commit_or told s o (first_coming s.coming)

-- first, the candidate comes
unfoldable pub reserve_or : Told → TierState → Outcome → Option ℕ → Turn × TierState
reserve_or told s o (Some c) = (Reserve c, reserved s c)
reserve_or told s o None = fetch_or told s o (first_bare s.coming)

-- the turn over the wishes that the tier keeps
unfoldable pub ranked_turn_of : Told → TierState → Outcome → Turn × TierState
ranked_turn_of told s o = reserve_or told s o (entering told s)

-- ---- the board

-- the wishes of the posted views, with the version that rises as views are posted and taken off
pub record Board : Type 0 where
  pub wish : ℕ → ℕ
  pub version : ℕ

-- a turn begins with the board's wishes, where they have changed since the last turn
unfoldable pub begun : Board → TierState → TierState
begun board s = if board.version == s.version then s else renewed (ranked s board.wish) board.version

-- the turn
unfoldable pub turn_of : Board → Told → TierState → Outcome → Turn × TierState
turn_of board told s o = ranked_turn_of told (begun board s) o

-- the answer and the state behind it are those of the turn
abbrev pub IsRankedTurn : Told → TierState → Turn → TierState → Type 0
IsRankedTurn told before answer after = paired answer after ≡ ranked_turn_of told before (outcome_in answer after)

abbrev pub IsTurn : Board → Told → TierState → Turn → TierState → Type 0
IsTurn board told before answer after = paired answer after ≡ turn_of board told before (outcome_in answer after)

-- the body that came is of its patch, and has its size
abbrev pub BringsBody : List ℕ → Turn → TierState → Type 0
BringsBody sizes answer after = IfGot answer (λ p. IsBodyFor sizes p (body_at after p))
