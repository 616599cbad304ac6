-- The commands over a strip, for which no file is read.
use Rattle.std.specs.Prelude.{◌≡◌, ℕ, ◌<◌, ◌≤◌, ◌%◌, ◌==◌, ◌||◌, not, nat_lt, List, [], ◌∷◌, Option, Some, None, option_map, codes, bytes_eq, if◌then◌else◌}
use Rattle.file_model.specs.Spelling.{file_text}
use Rattle.mesh_model.specs.Accepted.{IsAccepted}
use Rattle.text_model.specs.declared.statuses.Status.{Status}
use Rattle.text_model.specs.declared.statuses.Status.TheVariants as statuses
use Rattle.number_words.specs.Numbers.{number_in}
use Rattle.bench_laws.specs.BenchRuns.{IsBenchText}
use Rattle.strip_laws.specs.Strip.{strip_file}
use Rattle.strip_laws.specs.declared.limits.TheConstants.{MOST_COLUMNS}
use Rattle.viewer_program.specs.declared.strips.StripCommand.{StripCommand}
use Rattle.viewer_program.specs.declared.strips.StripCommand.TheVariants.{Make, Bench}

-- a strip may have so many columns
pub record IsColumns (columns : ℕ) : Type 0 where
  pub least : 2 ≤ columns
  pub most : columns ≤ MOST_COLUMNS
  pub even : columns % 2 ≡ 0

-- the number, if a strip may have so many columns; it is at most the most
abbrev pub columns_from : Option ℕ → Option ℕ
columns_from None = None
columns_from (Some columns) = if nat_lt columns 2 || not (columns % 2 == 0) then None else Some columns

-- the command of a word and the columns behind it
abbrev pub strip_command_with : List ℕ → Option ℕ → Option StripCommand
strip_command_with first columns =
    if bytes_eq first (codes "make") then option_map Make columns else
    if bytes_eq first (codes "bench") then option_map Bench columns else
    None

-- the command over a strip that the words ask for
abbrev pub strip_command_in : List (List ℕ) → Option StripCommand
strip_command_in (first ∷ word ∷ []) = strip_command_with first (columns_from (number_in MOST_COLUMNS word))
strip_command_in others = None

-- a strip may have the columns of the command
abbrev pub HasColumns : StripCommand → Type 0
HasColumns (Make columns) = IsColumns columns
HasColumns (Bench columns) = IsColumns columns

-- the text is the strip's file in version 1, whose mesh is accepted
pub record IsStripText (columns : ℕ) (text : List ℕ) : Type 0 where
  pub is : text ≡ file_text (strip_file 1 columns)
  pub accepted : IsAccepted (strip_file 1 columns) 0

-- what the command writes: the strip's file, or the summary of a bench run over it
abbrev pub IsStripOutput : StripCommand → List ℕ → Type 0
IsStripOutput (Make columns) text = IsStripText columns text
IsStripOutput (Bench columns) text = IsBenchText columns text

-- nothing but want of memory stops it
abbrev pub IsForMemory : Status → Type 0
IsForMemory statuses.Memory = Unit {0}
IsForMemory status = ⊥
