-- The answers of a frame: they make a whole round, and no epoch of a patch falls along those of one session.
use Rattle.std.specs.Prelude.{◌≡◌, ℕ, ◌^◌, ◌<◌, ◌==◌, Bool, true, false, ◌&&◌, List, [], ◌∷◌, ◌++◌, length, Option, Some, None, Result, Ok, Err, nat_lt, if◌then◌else◌}
use Rattle.std.specs.List.{AllByRecursion, list_any, flat_map}
use Rattle.grid_vertex.specs.declared.triangles.Triangle.{Triangle}
use Rattle.file_model.specs.declared.fields.Try.{Try}
use Rattle.round_model.specs.Order.{Rules}
use Rattle.round_model.specs.Rounds.{NodeInProgress, RoundState, round_of, epochs_of}
use Rattle.round_model.specs.Refiners.{Refining, cut_of, cut_patches}
use Rattle.token_words.specs.Tries.{Rise}
use Rattle.session_model.specs.DoneRounds.{AreWhole}
use Rattle.session_model.specs.Finishes.{pairs_of}
use Rattle.text_model.specs.FrameText.{Frame, frame_text}
use Rattle.audit_lines.specs.declared.faults.AuditFault.{AuditFault}
use Rattle.audit_lines.specs.declared.faults.AuditFault.TheVariants.{Round, Falls}
use Rattle.audit_lines.specs.Readers.{Reader, due_by_line, Relation, IsTold}
use Rattle.audit_spelling.specs.Spellings.{tries_in, AreTries}
use Rattle.audit_spelling.specs.Judging.{judge_spelt}

-- the answers of a frame, with the number of their line
pub record Answers : Type 0 where
  pub line : ℕ
  pub tries : List Try

-- ---- whole rounds

abbrev pub is_same_try : Try → Try → Bool
is_same_try t u = t.patch == u.patch && t.epoch == u.epoch

abbrev pub are_same_tries : List Try → List Try → Bool
are_same_tries [] [] = true
are_same_tries [] (u ∷ us) = false
are_same_tries (t ∷ ts) [] = false
are_same_tries (t ∷ ts) (u ∷ us) = is_same_try t u && are_same_tries ts us

abbrev pub is_nowhere : Option NodeInProgress → Bool
is_nowhere None = true
is_nowhere (Some hand) = false

abbrev pub none_unused : List ℕ → Bool
none_unused [] = true
none_unused (epoch ∷ epochs) = false

-- whether a round that stands there has gone through all nodes, used up its answers and made these tries
abbrev pub is_whole_at : RoundState → List Try → Bool
is_whole_at stand tries = is_nowhere stand.at && (none_unused stand.unused && are_same_tries stand.tries tries)

abbrev pub is_whole : Rules → List Try → Bool
is_whole rules tries = is_whole_at (round_of rules (epochs_of tries)) tries

-- ---- epochs that fall

-- an earlier answer of the patch has a greater epoch
abbrev pub falls : List Try → Try → Bool
falls earlier t = list_any (λ (e : Try). (t.patch == e.patch) && nat_lt t.epoch e.epoch) earlier

-- the first patch whose epoch is below an earlier one
abbrev pub first_fall : List Try → List Try → Option ℕ
first_fall earlier [] = None
first_fall earlier (t ∷ ts) = if falls earlier t then Some t.patch else first_fall (earlier ++ (t ∷ [])) ts

-- ---- a frame's answers

abbrev pub unless_falls : ℕ → List Try → Option ℕ → Result Answers AuditFault
unless_falls line tries None = Ok (record { line = line; tries = tries })
unless_falls line tries (Some patch) = Err (Falls line patch)

-- answers are judged by their round first, and then by the session's earlier answers
abbrev pub judged_answers : Rules → List Try → ℕ → List Try → Result Answers AuditFault
judged_answers rules earlier line tries = if is_whole rules tries then unless_falls line tries
    (first_fall earlier tries) else Err (Round line)

abbrev pub judge_answers : ℕ → Rules → List Try → ℕ → List ℕ → Result Answers AuditFault
judge_answers patches rules earlier = judge_spelt (tries_in patches) (judged_answers rules earlier)

-- the answers of a frame behind the session's earlier ones, whose line has this number
pub record AreAnswers (patches : ℕ) (rules : Rules) (earlier : List Try) (line : ℕ) (answers : Answers) : Type 0 where
  pub line_is : answers.line ≡ line
  pub spelt : AreTries patches answers.tries
  pub whole : AreWhole rules answers.tries
  pub rise : Rise (pairs_of (earlier ++ answers.tries))

-- ---- the frame that answers determine

-- the round that these answers have answered, with nothing owed
abbrev pub answered : Rules → List Try → Refining
answered rules tries = record { rules = rules; tries = tries; owed = [] }

-- the frame of a session, of this number, whose round has these answers; each patch has these triangles
abbrev pub frame_of_answers : (ℕ → List Triangle) → ℕ → ℕ → Rules → List Try → Frame
frame_of_answers triangles session number rules tries = record {
  session = session;
  number = number;
  cut = cut_of (answered rules tries);
  tries = tries;
  patches = cut_patches (answered rules tries);
  triangles = flat_map triangles (cut_patches (answered rules tries));
}

-- what a frame's text is made of besides its answers
pub record FrameSeen : Type 0 where
  pub patches : ℕ
  pub rules : Rules
  pub triangles : ℕ → List Triangle
  pub open_edges : ℕ
  pub session : ℕ
  pub number : ℕ
  pub earlier : List Try

abbrev pub answers_frame : FrameSeen → Answers → Frame
answers_frame f answers = frame_of_answers f.triangles f.session f.number f.rules answers.tries

abbrev pub answers_text : FrameSeen → Answers → List ℕ
answers_text f answers = frame_text f.open_edges (answers_frame f answers)

-- a frame is read by its third line, which has its answers
abbrev pub read_frame : FrameSeen → Reader Answers
read_frame f = due_by_line 2 (judge_answers f.patches f.rules f.earlier) (answers_text f)

abbrev pub IsReadFrame : FrameSeen → Relation Answers
IsReadFrame f = IsTold 2 (AreAnswers f.patches f.rules f.earlier) (answers_text f)

-- the numbers of a frame's first two lines are printed whole
pub record IsPrintable (open_edges : ℕ) (frame : Frame) : Type 0 where
  pub session : frame.session < 10 ^ 64
  pub number : frame.number < 10 ^ 64
  pub nodes : length frame.cut < 10 ^ 64
  pub patches : length frame.patches < 10 ^ 64
  pub triangles : length frame.triangles < 10 ^ 64
  pub open_edges_few : open_edges < 10 ^ 64
  pub cut : AllByRecursion (λ n. n < 10 ^ 64) frame.cut
