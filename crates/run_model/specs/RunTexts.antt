-- The text of a run.
use Rattle.std.specs.Prelude.{◌≡◌, ℕ, suc, ◌==◌, Bool, List, [], ◌∷◌, ◌++◌, length, map, if◌then◌else◌}
use Rattle.file_model.specs.declared.faults.FileFault.{FileFault}
use Rattle.file_model.specs.Lists.{SeenBody}
use Rattle.script_model.specs.declared.orders.Line.{Line}
use Rattle.script_model.specs.declared.orders.Order.{Order}
use Rattle.tier_model.specs.declared.turns.Turn.{Turn}
use Rattle.tier_model.specs.declared.turns.Turn.TheVariants.{Reserve, Evict, Kept, Got, Lost, Fault, Changed, Commit, Idle}
use Rattle.tier_model.specs.Counts.{got_bytes, faults_in}
use Rattle.tier_model.specs.Tiers.{sizes_of}
use Rattle.run_model.specs.Worlds.{World, AreBaseBodies}
use Rattle.run_model.specs.States.{State, opening}
use Rattle.run_model.specs.Lines.{Did, DidOpen, DidView, DidStep, DidFrame, DidFree, DidClose, DidTurns, DidTell, Runs}
use Rattle.run_model.specs.LineTexts.{AreTextsOf}

-- ---- what the store gave

-- what came of a fetch from the store: a body, nothing since the store failed, or a fault of the body's bytes
pub data StoreOutcome : Type 0 where
  GaveBody : StoreOutcome
  HadFault : StoreOutcome
  FoundChange : FileFault → StoreOutcome

-- what came of the fetch of a turn, if it made one
abbrev pub fetch_outcome : Turn → List StoreOutcome
fetch_outcome (Got p) = GaveBody ∷ []
fetch_outcome (Fault p) = HadFault ∷ []
fetch_outcome (Changed p fault) = FoundChange fault ∷ []
fetch_outcome (Reserve p) = []
fetch_outcome (Evict p) = []
fetch_outcome (Kept p uses) = []
fetch_outcome (Lost p) = []
fetch_outcome (Commit p) = []
fetch_outcome Idle = []

-- tier k is the lowest, to which patches come from the store
abbrev pub is_lowest : World → ℕ → Bool
is_lowest w k = suc k == length w.budgets

abbrev pub turn_outcome : World → ℕ × Turn → List StoreOutcome
turn_outcome w turn = if is_lowest w turn.0 then fetch_outcome turn.1 else []

unfoldable pub turn_outcomes : World → List (ℕ × Turn) → List StoreOutcome
turn_outcomes w [] = []
turn_outcomes w (turn ∷ turns) = turn_outcome w turn ++ turn_outcomes w turns

-- the turns that a line made, each with its tier's number
abbrev pub turns_in : Did → List (ℕ × Turn)
turns_in (DidTurns log) = log
turns_in (DidOpen i) = []
turns_in (DidView i) = []
turns_in (DidStep i did) = []
turns_in (DidFrame frame) = []
turns_in (DidFree i unlocks) = []
turns_in (DidClose i unlocks) = []
turns_in (DidTell tiers) = []

-- what came of the fetches of one line
abbrev pub outcomes_of : World → Did → List StoreOutcome
outcomes_of w did = turn_outcomes w (turns_in did)

-- what came of all fetches from the store, in their order
unfoldable pub store_outcomes : World → List Did → List StoreOutcome
store_outcomes w [] = []
store_outcomes w (did ∷ dids) = outcomes_of w did ++ store_outcomes w dids

-- ---- what is counted of a line

-- the turns of the lowest tier
unfoldable pub lowest_turns : World → List (ℕ × Turn) → List Turn
lowest_turns w [] = []
lowest_turns w (turn ∷ turns) = if is_lowest w turn.0 then turn.1 ∷ lowest_turns w turns else lowest_turns w turns

-- how many bytes of bodies came from the store
abbrev pub bytes_from_store : World → Did → ℕ
bytes_from_store w did = got_bytes (sizes_of w.mesh.index) (lowest_turns w (turns_in did))

-- how often the store failed
abbrev pub faults_of : World → Did → ℕ
faults_of w did = faults_in (lowest_turns w (turns_in did))

-- ---- the text

-- a run opens in this state
pub record IsOpening (w : World) (a : State) : Type 0 where
  pub body : ℕ → SeenBody
  pub bodies : AreBaseBodies w body
  pub is : a ≡ opening w body

abbrev pub orders_of : List Line → List Order
orders_of lines = map (λ (line : Line). line.order) lines

-- the text is that of a run of these lines, in which the store gave this
pub record IsRunText (w : World) (lines : List Line) (outcomes : List StoreOutcome) (text : List ℕ) : Type 0 where
  pub first : State
  pub opens : IsOpening w first
  pub dids : List Did
  pub last : State
  pub runs : Runs w first (orders_of lines) dids last
  pub fetched : store_outcomes w dids ≡ outcomes
  pub is : AreTextsOf dids text
