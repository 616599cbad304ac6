-- What the lines of a text with free parts spell: answers, heads and entries of journals, and outcomes of fetches.
use Rattle.std.specs.Prelude.{◌≡◌, ℕ, ◌-◌, ◌<◌, ◌≤◌, ◌==◌, true, ◌&&◌, List, [], ◌∷◌, map, Option, Some, None, bytes_eq, codes, if◌then◌else◌}
use Rattle.std.specs.Fmt.{decimal}
use Rattle.std.specs.List.{AllByRecursion, slice_split}
use Rattle.std.specs.Option.{option_map, option_and_then}
use Rattle.file_model.specs.declared.fields.Try.{Try}
use Rattle.file_model.specs.declared.faults.FileFault.{FileFault}
use Rattle.file_model.specs.declared.faults.FileFault.TheVariants.{Magic, Version, NotZero, NodeCount, PatchCount, Truncated, Trailing, NodeOutOfGrid, ArcEnd, BodyCount, PointOutOfGrid, CornerIndex, Flat, Loose}
use Rattle.number_words.specs.Numbers.{number_in}
use Rattle.text_model.specs.FrameText.{try_text}
use Rattle.tier_model.specs.declared.turns.Turn.{Turn}
use Rattle.tier_model.specs.declared.turns.Turn.TheVariants.{Reserve, Evict, Kept, Got, Lost, Fault, Changed, Commit, Idle}
use Rattle.run_model.specs.LineTexts.{turn_words}
use Rattle.serve_model.specs.FittingFaults.{has_bits, is_fitting}
use Rattle.audit_spelling.specs.declared.spelt.Head.{Head}
use Rattle.audit_spelling.specs.declared.spelt.TierTurn.{TierTurn}
use Rattle.audit_spelling.specs.Words.{behind_word, each_in}

-- ---- numbers

-- the last numbers of 32 and 64 bits
abbrev pub most_32 : ℕ
most_32 = 4294967295

abbrev pub most_64 : ℕ
most_64 = 18446744073709551615

-- a patch of so many
abbrev pub patch_in : ℕ → List ℕ → Option ℕ
patch_in patches word = number_in (patches - 1) word

-- ---- answers

abbrev pub try_of : ℕ → ℕ → Try
try_of patch epoch = record { patch = patch; epoch = epoch }

-- a patch and an epoch
abbrev pub try_in_parts : ℕ → List (List ℕ) → Option Try
try_in_parts patches [] = None
try_in_parts patches (a ∷ []) = None
try_in_parts patches (a ∷ b ∷ []) = option_and_then (λ p. option_map (try_of p) (number_in most_32 b))
    (patch_in patches a)
try_in_parts patches (a ∷ b ∷ c ∷ rest) = None

-- the parts of a word between colons
abbrev pub parts_in : List ℕ → List (List ℕ)
parts_in word = slice_split (λ b. b == 58) word

abbrev pub try_in : ℕ → List ℕ → Option Try
try_in patches word = try_in_parts patches (parts_in word)

-- an answer of a mesh of so many patches
pub record IsTry (patches : ℕ) (t : Try) : Type 0 where
  pub patch : t.patch < patches
  pub epoch : t.epoch ≤ most_32

abbrev pub tries_words : List Try → List (List ℕ)
tries_words tries = codes "tries" ∷ map try_text tries

abbrev pub tries_in : ℕ → List (List ℕ) → Option (List Try)
tries_in patches words = behind_word (codes "tries") (each_in (try_in patches)) words

abbrev pub AreTries : ℕ → List Try → Type 0
AreTries patches tries = AllByRecursion (IsTry patches) tries

-- ---- the head of a journal

abbrev pub head_of : ℕ → ℕ → Head
head_of tier entries = record { tier = tier; entries = entries }

abbrev pub head_in_numbers : List (List ℕ) → Option Head
head_in_numbers [] = None
head_in_numbers (a ∷ []) = None
head_in_numbers (a ∷ b ∷ []) = option_and_then (λ tier. option_map (head_of tier) (number_in most_64 b))
    (number_in most_32 a)
head_in_numbers (a ∷ b ∷ c ∷ rest) = None

abbrev pub head_words : Head → List (List ℕ)
head_words head = codes "journal" ∷ decimal head.tier ∷ decimal head.entries ∷ []

abbrev pub head_in : List (List ℕ) → Option Head
head_in words = behind_word (codes "journal") head_in_numbers words

pub record IsHead (head : Head) : Type 0 where
  pub tier : head.tier ≤ most_32
  pub entries : head.entries ≤ most_64

-- ---- faults of a file

-- the arguments of a fault are of their types
abbrev pub FitsFault : FileFault → Type 0
FitsFault fault = is_fitting fault ≡ true

-- a fault without arguments, by its number
abbrev pub fault_alone : ℕ → Option FileFault
fault_alone number = if number == 1 then Some Magic else if number == 3 then Some NotZero else None

-- a fault with a number of 32 bits
abbrev pub fault_with_small : ℕ → ℕ → Option FileFault
fault_with_small number a =
    if number == 4 then Some (NodeCount a)
    else if number == 5 then Some (PatchCount a)
    else if number == 8 then Some (NodeOutOfGrid a)
    else if number == 9 then Some (ArcEnd a)
    else if number == 10 then Some (BodyCount a)
    else None

-- a fault with one argument
abbrev pub fault_with_one : ℕ → ℕ → Option FileFault
fault_with_one number a =
    if number == 2 then (if has_bits 16 a then Some (Version a) else None)
    else if number == 6 then Some (Truncated a)
    else if number == 7 then Some (Trailing a)
    else if has_bits 32 a then fault_with_small number a
    else None

-- a fault with two numbers of 32 bits
abbrev pub fault_with_pair : ℕ → ℕ → ℕ → Option FileFault
fault_with_pair number a b =
    if number == 11 then Some (PointOutOfGrid a b)
    else if number == 13 then Some (Flat a b)
    else if number == 14 then Some (Loose a b)
    else None

abbrev pub fault_with_two : ℕ → ℕ → ℕ → Option FileFault
fault_with_two number a b = if has_bits 32 a && has_bits 32 b then fault_with_pair number a b else None

abbrev pub fault_with_three : ℕ → ℕ → ℕ → ℕ → Option FileFault
fault_with_three number a b c =
    if has_bits 32 a && has_bits 32 b && has_bits 32 c then
    (if number == 12 then Some (CornerIndex a b c) else None)
    else None

-- the fault of a number and arguments of 64 bits
abbrev pub fault_of : List ℕ → Option FileFault
fault_of [] = None
fault_of (number ∷ []) = fault_alone number
fault_of (number ∷ a ∷ []) = fault_with_one number a
fault_of (number ∷ a ∷ b ∷ []) = fault_with_two number a b
fault_of (number ∷ a ∷ b ∷ c ∷ []) = fault_with_three number a b c
fault_of (number ∷ a ∷ b ∷ c ∷ d ∷ rest) = None

abbrev pub fault_in : List (List ℕ) → Option FileFault
fault_in words = option_and_then fault_of (each_in (number_in most_64) words)

-- ---- the entries of a journal

-- what an entry does to its patch, by its first word
abbrev pub kind_in : List ℕ → Option (ℕ → Turn)
kind_in word =
    if bytes_eq word (codes "reserve") then Some Reserve
    else if bytes_eq word (codes "evict") then Some Evict
    else if bytes_eq word (codes "got") then Some Got
    else if bytes_eq word (codes "lost") then Some Lost
    else if bytes_eq word (codes "fault") then Some Fault
    else if bytes_eq word (codes "commit") then Some Commit
    else None

-- what an outcome says of its patch, by its first word
abbrev pub outcome_kind_in : List ℕ → Option (ℕ → Turn)
outcome_kind_in word =
    if bytes_eq word (codes "got") then Some Got
    else if bytes_eq word (codes "fault") then Some Fault
    else None

-- a kind and a patch
abbrev pub plain_in : ℕ → (List ℕ → Option (ℕ → Turn)) → List (List ℕ) → Option Turn
plain_in patches kind [] = None
plain_in patches kind (a ∷ []) = None
plain_in patches kind (a ∷ b ∷ []) = option_and_then (λ turn. option_map turn (patch_in patches b)) (kind a)
plain_in patches kind (a ∷ b ∷ c ∷ rest) = None

-- a patch under which the file has changed, and the fault of its body
abbrev pub changed_in : ℕ → List (List ℕ) → Option Turn
changed_in patches [] = None
changed_in patches (a ∷ rest) = option_and_then (λ p. option_map (Changed p) (fault_in rest)) (patch_in patches a)

-- a change of the file, or one of these kinds
abbrev pub turn_in : ℕ → (List ℕ → Option (ℕ → Turn)) → List (List ℕ) → Option Turn
turn_in patches kind [] = None
turn_in patches kind (word ∷ words) = if bytes_eq word
    (codes "changed") then changed_in patches words else plain_in patches kind (word ∷ words)

abbrev pub entry_in : ℕ → List (List ℕ) → Option Turn
entry_in patches words = turn_in patches kind_in words

-- an entry of a mesh of so many patches
abbrev pub IsEntry : ℕ → Turn → Type 0
IsEntry patches (Reserve p) = p < patches
IsEntry patches (Evict p) = p < patches
IsEntry patches (Kept p uses) = ⊥
IsEntry patches (Got p) = p < patches
IsEntry patches (Lost p) = p < patches
IsEntry patches (Fault p) = p < patches
IsEntry patches (Changed p fault) = (p < patches) × FitsFault fault
IsEntry patches (Commit p) = p < patches
IsEntry patches Idle = ⊥

-- ---- what a fetch of the lowest tier gave

-- an outcome of a mesh of so many patches
abbrev pub IsOutcome : ℕ → Turn → Type 0
IsOutcome patches (Reserve p) = ⊥
IsOutcome patches (Evict p) = ⊥
IsOutcome patches (Kept p uses) = ⊥
IsOutcome patches (Got p) = p < patches
IsOutcome patches (Lost p) = ⊥
IsOutcome patches (Fault p) = p < patches
IsOutcome patches (Changed p fault) = (p < patches) × FitsFault fault
IsOutcome patches (Commit p) = ⊥
IsOutcome patches Idle = ⊥

abbrev pub turn_at : ℕ → Turn → TierTurn
turn_at tier turn = record { tier = tier; turn = turn }

abbrev pub tier_turn_in : ℕ → List (List ℕ) → Option TierTurn
tier_turn_in patches [] = None
tier_turn_in patches (a ∷ rest) = option_and_then
    (λ tier. option_map (turn_at tier) (turn_in patches outcome_kind_in rest)) (number_in most_32 a)

abbrev pub outcome_words : TierTurn → List (List ℕ)
outcome_words outcome = codes "turn" ∷ decimal outcome.tier ∷ turn_words outcome.turn

abbrev pub outcome_in : ℕ → List (List ℕ) → Option TierTurn
outcome_in patches words = behind_word (codes "turn") (tier_turn_in patches) words

pub record IsTierOutcome (patches : ℕ) (outcome : TierTurn) : Type 0 where
  pub tier : outcome.tier ≤ most_32
  pub turn : IsOutcome patches outcome.turn
