-- Places in a text, and what a reader finds there.
use Rattle.std.specs.Prelude.{◌≡◌, ℕ, zero, suc, ◌+◌, ◌==◌, Bool, false, List, [], ◌∷◌, ◌++◌, Option, Some, None, Result, Ok, Err, if◌then◌else◌}
use Rattle.std.specs.List.{list_any}
use Rattle.audit_lines.specs.declared.faults.AuditFault.{AuditFault}
use Rattle.audit_lines.specs.declared.faults.AuditFault.TheVariants.{Short, Long, Differs}

-- where a reader stands: what is left of the text, and the number of the line that it is in
pub record Place : Type 0 where
  pub rest : List ℕ
  pub line : ℕ

abbrev pub place_at : List ℕ → ℕ → Place
place_at rest line = record { rest = rest; line = line }

-- the beginning of a text, in line 1
abbrev pub start_of : List ℕ → Place
start_of text = place_at text 1

-- how many lines a byte ends
abbrev pub feeds_of : ℕ → ℕ
feeds_of byte = if byte == 10 then 1 else 0

-- how many lines a text ends
abbrev pub line_feeds : List ℕ → ℕ
line_feeds [] = 0
line_feeds (c ∷ cs) = feeds_of c + line_feeds cs

abbrev pub has_line_feed : List ℕ → Bool
has_line_feed text = list_any (λ c. c == 10) text

-- the second place is behind the text that stands at the first
pub record IsBehind (text : List ℕ) (before after : Place) : Type 0 where
  pub rest : before.rest ≡ text ++ after.rest
  pub line : after.line ≡ line_feeds text + before.line

-- ---- a text that is due

-- at a byte that isn't the one that is due, the line differs, or the text ends within it
abbrev pub differs_at : List ℕ → ℕ → AuditFault
differs_at rest line = if has_line_feed rest then Differs line else Short line

-- the place behind the text that is due, or the fault of the first line that isn't as it is due
abbrev pub met_at : List ℕ → List ℕ → ℕ → Result Place AuditFault
met_at [] rest line = Ok (place_at rest line)
met_at (c ∷ cs) [] line = Err (Short line)
met_at (c ∷ cs) (d ∷ ds) line = if d == c then met_at cs ds (feeds_of c + line) else Err (differs_at (d ∷ ds) line)

abbrev pub met : List ℕ → Place → Result Place AuditFault
met text p = met_at text p.rest p.line

-- why a text that is due isn't met: the bytes in front are as they are due, and behind them the text ends or has
-- another byte than the one that is due; the fault is that of the line in which this is
pub record FailsAt (text : List ℕ) (before : Place) (fault : AuditFault) : Type 0 where
  pub front : List ℕ
  pub byte : ℕ
  pub due : List ℕ
  pub left : List ℕ
  pub text_is : text ≡ front ++ (byte ∷ due)
  pub rest_is : before.rest ≡ front ++ left
  pub other : (more : List ℕ) → left ≡ byte ∷ more → ⊥
  pub fault_is : fault ≡ differs_at left (line_feeds front + before.line)

-- ---- lines further on

-- a line without its feed, and what is behind it
pub record Taken : Type 0 where
  pub line : List ℕ
  pub rest : List ℕ

-- a byte in front of a line
abbrev pub with_front : ℕ → Option Taken → Option Taken
with_front c None = None
with_front c (Some t) = Some (record { line = c ∷ t.line; rest = t.rest })

-- the first line of a text, if it has a line feed
abbrev pub first_line : List ℕ → Option Taken
first_line [] = None
first_line (c ∷ cs) = if c == 10 then Some (record { line = []; rest = cs }) else with_front c (first_line cs)

-- what is read off a line, where there is one; else the text ends before the line of this number
abbrev pub by_taken : (Taken → Result (List ℕ) AuditFault) → ℕ → Option Taken → Result (List ℕ) AuditFault
by_taken read number None = Err (Short number)
by_taken read number (Some t) = read t

-- the line so many lines on, which has this number
abbrev pub line_ahead : ℕ → List ℕ → ℕ → Result (List ℕ) AuditFault
line_ahead zero rest number = by_taken (λ t. Ok t.line) number (first_line rest)
line_ahead (suc lines) rest number = by_taken (λ t. line_ahead lines t.rest number) number (first_line rest)

-- the line stands so many lines on in a text
abbrev pub StandsAhead : ℕ → List ℕ → List ℕ → Type 0
StandsAhead zero line text = (back : List ℕ) × (text ≡ line ++ (10 ∷ back)) × (has_line_feed line ≡ false)
StandsAhead (suc lines) line text = (first back : List ℕ) × (text ≡ first ++ (10 ∷ back)) ×
    (has_line_feed first ≡ false) × StandsAhead lines line back

-- ---- the end

-- a byte that is left is the fault of the line that it would begin
abbrev pub fault_at_end : List ℕ → ℕ → Option AuditFault
fault_at_end [] line = None
fault_at_end (c ∷ cs) line = Some (Long line)
