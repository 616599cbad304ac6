-- A settling read turn by turn: all is determined but what the fetches of the lowest tier gave.
use Rattle.std.specs.Prelude.{◌≡◌, ℕ, zero, suc, ◌+◌, ◌*◌, ◌<◌, ◌==◌, Bool, true, false, ◌&&◌, List, [], ◌∷◌, ◌++◌, Option, Some, None, Result, Ok, Err, slice_get, slice_index_or, if◌then◌else◌}
use Rattle.std.specs.List.{AllByRecursion}
use Rattle.file_model.specs.Lists.{SeenBody}
use Rattle.tier_model.specs.declared.turns.Turn.{Turn}
use Rattle.tier_model.specs.declared.turns.Turn.TheVariants.{Reserve, Evict, Kept, Got, Lost, Fault, Changed, Commit, Idle}
use Rattle.tier_model.specs.Places.{first_bare}
use Rattle.tier_model.specs.Tiers.{TierState}
use Rattle.tier_model.specs.Turns.{Fetched, Came, Failed, Broken, entering, begun}
use Rattle.tier_model.specs.Chains.{told_at}
use Rattle.run_model.specs.Worlds.{World, IsFileBody, patch_count}
use Rattle.run_model.specs.States.{State, board_of, moved}
use Rattle.run_model.specs.Turning.{turn_at}
use Rattle.run_model.specs.Lines.{SettlesTo}
use Rattle.run_model.specs.LineTexts.{turn_line, turn_lines}
use Rattle.run_model.specs.RunTexts.{is_lowest}
use Rattle.serve_model.specs.FittingFaults.{IsFitting}
use Rattle.audit_lines.specs.declared.faults.AuditFault.{AuditFault}
use Rattle.audit_lines.specs.declared.faults.AuditFault.TheVariants.{Short, Differs}
use Rattle.audit_lines.specs.Readers.{Reader, nothing, due, due_by_line, then_read, Relation, IsNothing, IsDue, IsTold, IsThen}
use Rattle.audit_spelling.specs.declared.spelt.TierTurn.{TierTurn}
use Rattle.audit_spelling.specs.Spellings.{outcome_in, IsTierOutcome}
use Rattle.audit_spelling.specs.Judging.{judge_spelt}

-- the world, and the body that the file has of each patch
pub record Settling : Type 0 where
  pub world : World
  pub stored : ℕ → SeenBody

-- the bodies are the file's
pub record IsSettling (a : Settling) : Type 0 where
  pub stored : (p : ℕ) → p < patch_count a.world → IsFileBody a.world p (a.stored p)

-- how far a settling is gone through: the state, and the turns, each with its tier's number
pub record Standing : Type 0 where
  pub state : State
  pub log : List (ℕ × Turn)

-- the answer of a turn, and where it leads
pub record Moved : Type 0 where
  pub answer : Turn
  pub next : Standing

-- ---- what a turn fetches

-- a patch is fetched where none enters and one comes without a body
abbrev pub fetch_unless : Option ℕ → Option ℕ → Option ℕ
fetch_unless (Some c) bare = None
fetch_unless None bare = bare

abbrev pub tier_now : World → State → TierState → TierState
tier_now w s t = begun (board_of w s) t

-- the patch that the turn of tier k fetches, if it fetches one
abbrev pub fetched_patch : World → State → ℕ → TierState → Option ℕ
fetched_patch w s k t = fetch_unless (entering (told_at s.chain k) (tier_now w s t))
    (first_bare (tier_now w s t).coming)

abbrev pub body_or_none : Option SeenBody → Fetched
body_or_none None = Failed
body_or_none (Some body) = Came body

abbrev pub held_gives : Option TierState → ℕ → Fetched
held_gives None p = Failed
held_gives (Some below) p = body_or_none (slice_index_or below.held p None)

-- what the tier below tier k gives of a patch
abbrev pub below_gives : List TierState → ℕ → ℕ → Fetched
below_gives tiers k p = held_gives (slice_get tiers (suc k)) p

abbrev pub fetch_by : (ℕ → Fetched) → Option ℕ → Fetched
fetch_by gives None = Failed
fetch_by gives (Some p) = gives p

-- what a printed outcome says that the store gave
abbrev pub told_gives : Settling → Turn → Fetched
told_gives a (Got p) = Came (a.stored p)
told_gives a (Changed p fault) = Broken fault
told_gives a (Fault p) = Failed
told_gives a (Reserve p) = Failed
told_gives a (Evict p) = Failed
told_gives a (Kept p uses) = Failed
told_gives a (Lost p) = Failed
told_gives a (Commit p) = Failed
told_gives a Idle = Failed

-- ---- one turn

abbrev pub after_turn : ℕ → Standing → Turn × TierState → Moved
after_turn k r x = record
    { answer = x.0; next = record { state = moved r.state k x.0 x.1; log = r.log ++ ((k, x.0) ∷ []) } }

abbrev pub moved_with : Settling → ℕ → Standing → TierState → Fetched → Moved
moved_with a k r t fetched = after_turn k r (turn_at a.world r.state k t fetched)

-- the patch of an outcome
abbrev pub outcome_patch : Turn → Option ℕ
outcome_patch (Got p) = Some p
outcome_patch (Fault p) = Some p
outcome_patch (Changed p fault) = Some p
outcome_patch (Reserve p) = None
outcome_patch (Evict p) = None
outcome_patch (Kept p uses) = None
outcome_patch (Lost p) = None
outcome_patch (Commit p) = None
outcome_patch Idle = None

abbrev pub is_patch : ℕ → Option ℕ → Bool
is_patch p None = false
is_patch p (Some q) = q == p

-- the line of an outcome is to be of this tier and this patch
abbrev pub judged_outcome : ℕ → ℕ → ℕ → TierTurn → Result TierTurn AuditFault
judged_outcome k p line outcome = if outcome.tier == k && is_patch p
    (outcome_patch outcome.turn) then Ok outcome else Err (Differs line)

abbrev pub judge_outcome : ℕ → ℕ → ℕ → ℕ → List ℕ → Result TierTurn AuditFault
judge_outcome patches k p = judge_spelt (outcome_in patches) (judged_outcome k p)

abbrev pub outcome_text : TierTurn → List ℕ
outcome_text outcome = turn_line outcome.tier outcome.turn

pub record IsOutcomeOf (patches k p line : ℕ) (outcome : TierTurn) : Type 0 where
  pub spelt : IsTierOutcome patches outcome
  pub tier : outcome.tier ≡ k
  pub patch : outcome_patch outcome.turn ≡ Some p

abbrev pub due_turn : ℕ → Moved → Reader Moved
due_turn k m = due (turn_line k m.answer) m

-- in the lowest tier a fetch is read by its outcome; every other turn is determined
abbrev pub read_turn_by : Settling → ℕ → Standing → TierState → Bool → Option ℕ → Reader Moved
read_turn_by a k r t true (Some p) =
    then_read (due_by_line 0 (judge_outcome (patch_count a.world) k p) outcome_text)
    (λ outcome. nothing (moved_with a k r t (told_gives a outcome.turn)))
read_turn_by a k r t true None = due_turn k (moved_with a k r t Failed)
read_turn_by a k r t false fetch = due_turn k (moved_with a k r t (fetch_by (below_gives r.state.chain.tiers k) fetch))

abbrev pub IsTurnBy : Settling → ℕ → Standing → TierState → Bool → Option ℕ → Relation Moved
IsTurnBy a k r t true (Some p) =
    IsThen (IsTold 0 (IsOutcomeOf (patch_count a.world) k p) outcome_text)
    (λ outcome. IsNothing (moved_with a k r t (told_gives a outcome.turn)))
IsTurnBy a k r t true None = let m = moved_with a k r t Failed in IsDue (turn_line k m.answer) m
IsTurnBy a k r t false fetch = let m = moved_with a k r t (fetch_by (below_gives r.state.chain.tiers k) fetch) in IsDue
    (turn_line k m.answer) m

-- no text is read
abbrev pub never : {X : Type 0} → Reader X
never p = Err (Short p.line)

pub data IsNever {X : Type 0} (line : ℕ) (x : X) (text : List ℕ) : Type 0 where

abbrev pub read_turn_of : Settling → ℕ → Standing → Option TierState → Reader Moved
read_turn_of a k r None = never
read_turn_of a k r (Some t) = read_turn_by a k r t (is_lowest a.world k) (fetched_patch a.world r.state k t)

abbrev pub IsTurnOf : Settling → ℕ → Standing → Option TierState → Relation Moved
IsTurnOf a k r None = IsNever
IsTurnOf a k r (Some t) = IsTurnBy a k r t (is_lowest a.world k) (fetched_patch a.world r.state k t)

-- a turn of tier k
abbrev pub read_turn : Settling → ℕ → Standing → Reader Moved
read_turn a k r = read_turn_of a k r (slice_get r.state.chain.tiers k)

abbrev pub IsTurnRead : Settling → ℕ → Standing → Relation Moved
IsTurnRead a k r = IsTurnOf a k r (slice_get r.state.chain.tiers k)

-- ---- turns until one is idle

abbrev pub is_idle : Turn → Bool
is_idle Idle = true
is_idle (Reserve p) = false
is_idle (Evict p) = false
is_idle (Kept p uses) = false
is_idle (Got p) = false
is_idle (Lost p) = false
is_idle (Fault p) = false
is_idle (Changed p fault) = false
is_idle (Commit p) = false

-- behind an idle turn nothing is read
abbrev pub unless_idle : Bool → Standing → Reader Standing → Reader Standing
unless_idle true s reader = nothing s
unless_idle false s reader = reader

abbrev pub UnlessIdle : Bool → Standing → Relation Standing → Relation Standing
UnlessIdle true s Is = IsNothing s
UnlessIdle false s Is = Is

-- turns of tier k until one is idle, but at most so many
abbrev pub read_turns : Settling → ℕ → ℕ → Standing → Reader Standing
read_turns a k zero r = never
read_turns a k (suc most) r = then_read (read_turn a k r)
    (λ m. unless_idle (is_idle m.answer) m.next (read_turns a k most m.next))

abbrev pub AreTurnsRead : Settling → ℕ → ℕ → Standing → Relation Standing
AreTurnsRead a k zero r = IsNever
AreTurnsRead a k (suc most) r = IsThen (IsTurnRead a k r)
    (λ m. UnlessIdle (is_idle m.answer) m.next (AreTurnsRead a k most m.next))

-- ---- all tiers

-- how many turns a tier makes at most until one is idle
abbrev pub most_turns : World → ℕ
most_turns w = 8 * patch_count w + 8

-- the first n tiers settle, from the lowest of them to the top
abbrev pub read_tiers : Settling → ℕ → Standing → Reader Standing
read_tiers a zero r = nothing r
read_tiers a (suc n) r = then_read (read_turns a n (most_turns a.world) r) (read_tiers a n)

abbrev pub AreTiersRead : Settling → ℕ → Standing → Relation Standing
AreTiersRead a zero r = IsNothing r
AreTiersRead a (suc n) r = IsThen (AreTurnsRead a n (most_turns a.world) r) (AreTiersRead a n)

-- ---- what is read

-- the fault that a turn tells, if it tells one, is one that can be
abbrev pub FitTurns : List (ℕ × Turn) → Type 0
FitTurns turns = AllByRecursion (λ (turn : ℕ × Turn). IsFitting turn.1) turns

-- a settling of the first n tiers, with what it adds to the log, and its text
pub record Settled (a : Settling) (n : ℕ) (r s : Standing) (text : List ℕ) : Type 0 where
  pub turns : List (ℕ × Turn)
  pub settles : SettlesTo a.world n r.state turns s.state
  pub log : s.log ≡ r.log ++ turns
  pub fits : FitTurns turns
  pub is : text ≡ turn_lines turns
