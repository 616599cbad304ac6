-- The text and the code of a status.
use Rattle.std.specs.Prelude.{ℕ, List, [], ◌∷◌, ◌++◌, codes}
use Rattle.std.specs.Fmt.{decimal, signed_decimal}
use Rattle.file_model.specs.declared.faults.FileFault.{FileFault}
use Rattle.file_model.specs.declared.faults.FileFault.TheVariants.{Magic, Version, NotZero, NodeCount, PatchCount, Truncated, Trailing, NodeOutOfGrid, ArcEnd, BodyCount, PointOutOfGrid, CornerIndex, Flat, Loose}
use Rattle.mesh_model.specs.declared.refusals.DagFault.{DagFault}
use Rattle.mesh_model.specs.declared.refusals.DagFault.TheVariants.{NoRoot, TwoRoots, Cycle, ErrorNotNested, BallNotNested, Border}
use Rattle.mesh_model.specs.declared.refusals.Refusal.{Refusal}
use Rattle.mesh_model.specs.declared.refusals.Refusal.TheVariants as refusals
use Rattle.text_model.specs.declared.faults.ScriptFault.{ScriptFault}
use Rattle.text_model.specs.declared.faults.ScriptFault.TheVariants.{TooLong, NotText, UnknownWord, WrongCount, Number, SessionOut, AlreadyThere, NotThere, NoView, NoTier, PlayOnly}
use Rattle.text_model.specs.declared.statuses.Status.{Status}
use Rattle.text_model.specs.declared.statuses.Status.TheVariants as statuses
use Rattle.text_model.specs.Lines.{line_of, decimals}
use Rattle.text_model.specs.FrameText.{point_words}

-- a file fault's number and arguments
abbrev pub file_fault_numbers : FileFault → List ℕ
file_fault_numbers Magic = 1 ∷ []
file_fault_numbers (Version found) = 2 ∷ found ∷ []
file_fault_numbers NotZero = 3 ∷ []
file_fault_numbers (NodeCount count) = 4 ∷ count ∷ []
file_fault_numbers (PatchCount count) = 5 ∷ count ∷ []
file_fault_numbers (Truncated length) = 6 ∷ length ∷ []
file_fault_numbers (Trailing seen) = 7 ∷ seen ∷ []
file_fault_numbers (NodeOutOfGrid node) = 8 ∷ node ∷ []
file_fault_numbers (ArcEnd patch) = 9 ∷ patch ∷ []
file_fault_numbers (BodyCount patch) = 10 ∷ patch ∷ []
file_fault_numbers (PointOutOfGrid patch point) = 11 ∷ patch ∷ point ∷ []
file_fault_numbers (CornerIndex patch triangle corner) = 12 ∷ patch ∷ triangle ∷ corner ∷ []
file_fault_numbers (Flat patch triangle) = 13 ∷ patch ∷ triangle ∷ []
file_fault_numbers (Loose patch axis) = 14 ∷ patch ∷ axis ∷ []

abbrev pub file_fault_words : FileFault → List (List ℕ)
file_fault_words fault = decimals (file_fault_numbers fault)

-- a mesh fault's number and arguments, points as three numbers
abbrev pub mesh_fault_words : DagFault → List (List ℕ)
mesh_fault_words NoRoot = decimal 20 ∷ []
mesh_fault_words (TwoRoots a b) = decimal 21 ∷ decimal a ∷ decimal b ∷ []
mesh_fault_words (Cycle v) = decimal 22 ∷ decimal v ∷ []
mesh_fault_words (ErrorNotNested p) = decimal 23 ∷ decimal p ∷ []
mesh_fault_words (BallNotNested p) = decimal 24 ∷ decimal p ∷ []
mesh_fault_words (Border v a b net_in net_out) = (decimal 25 ∷ decimal v ∷ []) ++ (point_words a ++ (point_words b ++ (signed_decimal net_in ∷ signed_decimal net_out ∷ [])))

abbrev pub refusal_words : Refusal → List (List ℕ)
refusal_words (refusals.File fault) = file_fault_words fault
refusal_words (refusals.Dag fault) = mesh_fault_words fault

-- a script fault's number and arguments
abbrev pub script_fault_numbers : ScriptFault → List ℕ
script_fault_numbers TooLong = 40 ∷ []
script_fault_numbers (NotText line) = 41 ∷ line ∷ []
script_fault_numbers (UnknownWord line) = 42 ∷ line ∷ []
script_fault_numbers (WrongCount line) = 43 ∷ line ∷ []
script_fault_numbers (Number line word) = 44 ∷ line ∷ word ∷ []
script_fault_numbers (SessionOut line) = 45 ∷ line ∷ []
script_fault_numbers (AlreadyThere line) = 46 ∷ line ∷ []
script_fault_numbers (NotThere line) = 47 ∷ line ∷ []
script_fault_numbers (NoView line) = 48 ∷ line ∷ []
script_fault_numbers (NoTier line) = 49 ∷ line ∷ []
script_fault_numbers (PlayOnly line) = 50 ∷ line ∷ []

-- a status as one line; Ok has none
unfoldable pub status_text : Status → List ℕ
status_text statuses.Ok = []
status_text statuses.Usage = line_of (codes "usage") []
status_text (statuses.Refused refusal) = line_of (codes "file") (refusal_words refusal)
status_text statuses.ReadFault = line_of (codes "read") (codes "fault" ∷ [])
status_text statuses.WriteFault = line_of (codes "write") (codes "fault" ∷ [])
status_text (statuses.Script fault) = line_of (codes "script") (decimals (script_fault_numbers fault))
status_text (statuses.Budget need given) = line_of (codes "budget") (decimal need ∷ decimal given ∷ [])
status_text statuses.Memory = line_of (codes "memory") []
status_text (statuses.Changed patch fault) = line_of (codes "changed") (decimal patch ∷ file_fault_words fault)
status_text (statuses.Wide patch) = line_of (codes "wide") (decimal patch ∷ [])

-- the code with which the program ends
abbrev pub status_code : Status → ℕ
status_code statuses.Ok = 0
status_code statuses.Usage = 2
status_code (statuses.Refused refusal) = 3
status_code statuses.ReadFault = 4
status_code statuses.WriteFault = 5
status_code (statuses.Script fault) = 6
status_code (statuses.Budget need given) = 7
status_code statuses.Memory = 8
status_code (statuses.Changed patch fault) = 9
status_code (statuses.Wide patch) = 10
