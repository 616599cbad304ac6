-- What the lines of a script print.
use Rattle.std.specs.Prelude.{◌≡◌, ℕ, ◌+◌, List, [], ◌∷◌, ◌++◌, codes}
use Rattle.std.specs.Fmt.{decimal}
use Rattle.session_model.specs.declared.steps.Stepped.{Stepped}
use Rattle.session_model.specs.declared.steps.Stepped.TheVariants.{Unlocked, Tried, Withdrew, GaveBack, Done}
use Rattle.text_model.specs.FrameText.{IsFrameText}
use Rattle.text_model.specs.Lines.{line_of, decimals}
use Rattle.text_model.specs.StatusText.{file_fault_words}
use Rattle.tier_model.specs.declared.turns.Turn.{Turn}
use Rattle.tier_model.specs.declared.turns.Turn.TheVariants.{Reserve, Evict, Kept, Got, Lost, Fault, Changed, Commit, Idle}
use Rattle.run_model.specs.Lines.{TierStatus, Did, DidOpen, DidView, DidStep, DidFrame, DidFree, DidClose, DidTurns, DidTell}

-- a turn as words
abbrev pub turn_words : Turn → List (List ℕ)
turn_words (Reserve p) = codes "reserve" ∷ decimal p ∷ []
turn_words (Evict p) = codes "evict" ∷ decimal p ∷ []
turn_words (Kept p uses) = codes "kept" ∷ decimal p ∷ decimal uses ∷ []
turn_words (Got p) = codes "got" ∷ decimal p ∷ []
turn_words (Lost p) = codes "lost" ∷ decimal p ∷ []
turn_words (Fault p) = codes "fault" ∷ decimal p ∷ []
turn_words (Changed p fault) = codes "changed" ∷ decimal p ∷ file_fault_words fault
turn_words (Commit p) = codes "commit" ∷ decimal p ∷ []
turn_words Idle = codes "idle" ∷ []

-- the line of a turn of tier k
unfoldable pub turn_line : ℕ → Turn → List ℕ
turn_line k answer = line_of (codes "turn") (decimal k ∷ turn_words answer)

-- the lines of turns, each with its tier's number
unfoldable pub turn_lines : List (ℕ × Turn) → List ℕ
turn_lines [] = []
turn_lines (turn ∷ turns) = turn_line turn.0 turn.1 ++ turn_lines turns

-- a session's step as words
abbrev pub step_words : Stepped → List (List ℕ)
step_words (Unlocked p) = codes "unlock" ∷ decimal p ∷ []
step_words (Tried p epoch) = codes "try" ∷ decimal p ∷ decimal epoch ∷ []
step_words (Withdrew p) = codes "withdraw" ∷ decimal p ∷ []
step_words (GaveBack p) = codes "back" ∷ decimal p ∷ []
step_words Done = codes "done" ∷ []

-- the line of tier k: its budget, its load, how many patches it holds, and the patches that come, in their order
unfoldable pub tier_line : ℕ → TierStatus → List ℕ
tier_line k t = line_of (codes "tier") (decimal k ∷ codes "budget" ∷ decimal t.budget ∷ codes "load" ∷ decimal t.load ∷ codes "held" ∷ decimal t.held ∷ codes "coming" ∷ decimals t.coming)

-- the lines of tiers, the first of which is tier k
unfoldable pub tier_lines : ℕ → List TierStatus → List ℕ
tier_lines k [] = []
tier_lines k (t ∷ ts) = tier_line k t ++ tier_lines (k + 1) ts

-- a line of a word and a session's number
abbrev pub session_line : List ℕ → ℕ → List (List ℕ) → List ℕ
session_line word i words = line_of word (decimal i ∷ words)

-- the text is what a line prints that did this
abbrev pub IsTextOf : Did → List ℕ → Type 0
IsTextOf (DidOpen i) text = text ≡ session_line (codes "open") i []
IsTextOf (DidView i) text = text ≡ session_line (codes "view") i []
IsTextOf (DidStep i did) text = text ≡ session_line (codes "step") i (step_words did)
IsTextOf (DidFrame frame) text = IsFrameText frame text
IsTextOf (DidFree i unlocks) text = text ≡ session_line (codes "free") i (decimal unlocks ∷ [])
IsTextOf (DidClose i unlocks) text = text ≡ session_line (codes "close") i (decimal unlocks ∷ [])
IsTextOf (DidTurns log) text = text ≡ turn_lines log
IsTextOf (DidTell tiers) text = text ≡ tier_lines 0 tiers

-- the text is what lines print that did this, one after another
pub data AreTextsOf : List Did → List ℕ → Type 0 where
  NoText : AreTextsOf [] []
  OneText : {did : Did} {dids : List Did} (text rest : List ℕ) → IsTextOf did text → AreTextsOf dids rest → AreTextsOf (did ∷ dids) (text ++ rest)
