-- What is answered to the lines of a driver.
use Rattle.std.specs.Prelude.{◌≡◌, ℕ, List, [], ◌∷◌, ◌++◌, length, codes}
use Rattle.std.specs.Fmt.{decimal}
use Rattle.std.specs.List.{flat_map}
use Rattle.file_model.specs.Lists.{SeenBody}
use Rattle.file_model.specs.Spelling.{body_text}
use Rattle.text_model.specs.declared.faults.ScriptFault.{ScriptFault}
use Rattle.text_model.specs.FrameText.{Frame, cut_line, tries_line, patches_line}
use Rattle.text_model.specs.Lines.{line_of, decimals}
use Rattle.text_model.specs.StatusText.{script_fault_numbers}
use Rattle.tier_model.specs.declared.turns.Turn.{Turn}
use Rattle.run_model.specs.Worlds.{World}
use Rattle.run_model.specs.States.{State}
use Rattle.run_model.specs.LineTexts.{turn_lines, IsTextOf}
use Rattle.run_model.specs.RunTexts.{StoreOutcome, store_outcomes, IsOpening}
use Rattle.live_model.specs.LiveLines.{LiveDid, DidPlay, DidShow, DidGive, DidRounds, DidNothing, DidRefuse, LiveRuns, plain_dids}

-- session, number, and how many nodes, patches and triangles
unfoldable pub show_line : Frame → List ℕ
show_line f = line_of (codes "show")
    (decimal f.session ∷ decimal f.number ∷ codes "nodes" ∷ decimal (length f.cut) ∷ codes "patches" ∷ decimal
    (length f.patches) ∷ codes "triangles" ∷ decimal (length f.triangles) ∷ [])

-- a frame without its triangles
unfoldable pub show_text : Frame → List ℕ
show_text f = show_line f ++ (cut_line f.cut ++ (tries_line f.tries ++ patches_line f.patches))

-- a patch and how many bytes its body has, then these, and a line feed
unfoldable pub given_bytes : ℕ → List ℕ → List ℕ
given_bytes p bytes = line_of (codes "body") (decimals (p ∷ length bytes ∷ [])) ++ (bytes ++ (10 ∷ []))

-- the body as a file of its version spells it
abbrev pub given_text : ℕ → SeenBody → List ℕ
given_text p body = given_bytes p (body_text body.version body.lists)

-- the lines of turns, and one that ends them
unfoldable pub rounds_text : List (ℕ × Turn) → List ℕ
rounds_text log = turn_lines log ++ line_of (codes "end") []

-- a fault's numbers without the second, which is a line's
abbrev pub without_line : List ℕ → List ℕ
without_line [] = []
without_line (n ∷ []) = n ∷ []
without_line (n ∷ line ∷ rest) = n ∷ rest

-- the fault's number, and the word's where a word is at fault
unfoldable pub refused_text : ScriptFault → List ℕ
refused_text fault = line_of (codes "refused") (decimals (without_line (script_fault_numbers fault)))

-- the text is what is answered to a line that did this
abbrev pub IsAnswerOf : LiveDid → List ℕ → Type 0
IsAnswerOf (DidPlay did) text = IsTextOf did text
IsAnswerOf (DidShow frame) text = text ≡ show_text frame
IsAnswerOf (DidGive p body) text = text ≡ given_text p body
IsAnswerOf (DidRounds log) text = text ≡ rounds_text log
IsAnswerOf DidNothing text = text ≡ []
IsAnswerOf (DidRefuse fault) text = text ≡ refused_text fault

-- the text is what is answered to lines that did this, one after another
pub data AreAnswersOf : List LiveDid → List ℕ → Type 0 where
  NoAnswer : AreAnswersOf [] []
  OneAnswer : {did : LiveDid} {dids : List LiveDid} (text rest : List ℕ) → IsAnswerOf did text → AreAnswersOf dids rest
      → AreAnswersOf (did ∷ dids) (text ++ rest)

-- the text is what is answered to these lines of a driver from the opening on, where the store gave this
pub record IsLiveText (w : World) (lines : List (List ℕ)) (outcomes : List StoreOutcome) (text : List ℕ) : Type 0 where
  pub first : State
  pub opens : IsOpening w first
  pub dids : List LiveDid
  pub last : State
  pub runs : LiveRuns w first lines dids last
  pub fetched : store_outcomes w (flat_map plain_dids dids) ≡ outcomes
  pub is : AreAnswersOf dids text
