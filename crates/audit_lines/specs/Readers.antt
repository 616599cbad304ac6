-- Readers: what they are made of, and the relations between values and texts that belong to them.
use Rattle.std.specs.Prelude.{◌≡◌, ℕ, zero, suc, ◌+◌, List, [], ◌∷◌, ◌++◌, Option, Some, None, Result, Ok, Err}
use Rattle.audit_lines.specs.declared.faults.AuditFault.{AuditFault}
use Rattle.audit_lines.specs.Places.{Place, start_of, line_feeds, IsBehind, met, line_ahead, fault_at_end}

-- a value that was read, and the place behind it
pub record Read (X : Type 0) : Type 0 where
  pub value : X
  pub place : Place

abbrev pub Answer : Type 0 → Type 0
Answer X = Result (Read X) AuditFault

abbrev pub Reader : Type 0 → Type 0
Reader X = Place → Answer X

abbrev pub found : {X : Type 0} → X → Place → Answer X
found x p = Ok (record { value = x; place = p })

-- ---- what readers are made of

-- nothing is read, and the value is this one
abbrev pub nothing : {X : Type 0} → X → Reader X
nothing x p = found x p

abbrev pub found_at : {X : Type 0} → X → Result Place AuditFault → Answer X
found_at x (Ok place) = found x place
found_at x (Err fault) = Err fault

-- this text is due, and the value is this one
abbrev pub due : {X : Type 0} → List ℕ → X → Reader X
due text x p = found_at x (met text p)

abbrev pub by_value : {X Y : Type 0} → (X → Answer Y) → Result X AuditFault → Answer Y
by_value next (Ok x) = next x
by_value next (Err fault) = Err fault

abbrev pub by_line : {X Y : Type 0} → (List ℕ → Result X AuditFault) → (X → Answer Y) → Result (List ℕ) AuditFault
    → Answer Y
by_line judge next (Ok line) = by_value next (judge line)
by_line judge next (Err fault) = Err fault

-- the line so many lines on is judged by its number and its bytes; then the whole text that its value tells is due,
-- that line too
abbrev pub due_by_line : {X : Type 0} → ℕ → (ℕ → List ℕ → Result X AuditFault) → (X → List ℕ) → Reader X
due_by_line lines judge text_of p = by_line (judge (lines + p.line)) (λ x. due (text_of x) x p)
    (line_ahead lines p.rest (lines + p.line))

abbrev pub by_read : {X Y : Type 0} → (X → Reader Y) → Answer X → Answer Y
by_read next (Ok read) = next read.value read.place
by_read next (Err fault) = Err fault

-- one reader, and then another one by the first one's value
abbrev pub then_read : {X Y : Type 0} → Reader X → (X → Reader Y) → Reader Y
then_read first next p = by_read next (first p)

-- a reader for each item in turn, by the item and the value so far
abbrev pub read_each : {A S : Type 0} → (A → S → Reader S) → List A → S → Reader S
read_each one [] s p = found s p
read_each one (a ∷ items) s p = then_read (one a s) (read_each one items) p

-- a reader so many times, by the value so far
abbrev pub read_times : {S : Type 0} → (S → Reader S) → ℕ → S → Reader S
read_times one zero s p = found s p
read_times one (suc times) s p = then_read (one s) (read_times one times) p

abbrev pub value_at_end : {X : Type 0} → X → Option AuditFault → Result X AuditFault
value_at_end x None = Ok x
value_at_end x (Some fault) = Err fault

abbrev pub ended : {X : Type 0} → Answer X → Result X AuditFault
ended (Ok read) = value_at_end read.value (fault_at_end read.place.rest read.place.line)
ended (Err fault) = Err fault

-- a whole text, from its first line to its end
abbrev pub read_whole : {X : Type 0} → Reader X → List ℕ → Result X AuditFault
read_whole reader text = ended (reader (start_of text))

-- ---- the relations; each is told the number of the line in which its text begins

abbrev pub Relation : Type 0 → Type 1
Relation X = ℕ → X → List ℕ → Type 0

-- the value is this one, and the text is empty
pub record IsNothing {X : Type 0} (given : X) (line : ℕ) (x : X) (text : List ℕ) : Type 0 where
  pub value : x ≡ given
  pub is : text ≡ []

-- the value and the text are these
pub record IsDue {X : Type 0} (given : List ℕ) (value_given : X) (line : ℕ) (x : X) (text : List ℕ) : Type 0 where
  pub value : x ≡ value_given
  pub is : text ≡ given

-- the text is the one that the value tells, and the value is allowed in the line so many lines on
pub record IsTold {X : Type 0} (lines : ℕ) (Allowed : ℕ → X → Type 0) (text_of : X → List ℕ) (line : ℕ) (x : X)
    (text : List ℕ) : Type 0 where
  pub allowed : Allowed (lines + line) x
  pub is : text ≡ text_of x

-- a text of the first value, and behind it one that the first value leads to
pub record IsThen {X Y : Type 0} (First : Relation X) (Next : X → Relation Y) (line : ℕ) (y : Y)
    (text : List ℕ) : Type 0 where
  pub value : X
  pub front : List ℕ
  pub back : List ℕ
  pub first : First line value front
  pub next : Next value (line_feeds front + line) y back
  pub is : text ≡ front ++ back

-- the texts of all items behind each other
abbrev pub AreEach : {A S : Type 0} → (A → S → Relation S) → List A → S → Relation S
AreEach Is [] s = IsNothing s
AreEach Is (a ∷ items) s = IsThen (Is a s) (AreEach Is items)

-- so many texts behind each other
abbrev pub AreTimes : {S : Type 0} → (S → Relation S) → ℕ → S → Relation S
AreTimes Is zero s = IsNothing s
AreTimes Is (suc times) s = IsThen (Is s) (AreTimes Is times)

-- ---- what the laws say of a reader and its relation

-- where the reader gives a value, a text of the value stands at the place, and the reader goes behind it
pub record Sound {X : Type 0} (Is : Relation X) (before : Place) (read : Read X) : Type 0 where
  pub text : List ℕ
  pub is : Is before.line read.value text
  pub behind : IsBehind text before read.place

-- the reader gives a value exactly where a text of the value stands at its place
pub record Reads {X : Type 0} (reader : Reader X) (Is : Relation X) : Type 0 where
  pub sound : (p : Place) (read : Read X) → reader p ≡ Ok read → Sound Is p read
  pub complete : (p q : Place) (x : X) (text : List ℕ) → Is p.line x text → IsBehind text p q → reader p ≡ found x q

-- what a judge says of a line is allowed, and it says what is allowed of the line that is written for it
pub record Judges {X : Type 0} (judge : ℕ → List ℕ → Result X AuditFault) (written : X → List ℕ)
    (Allowed : ℕ → X → Type 0) : Type 0 where
  pub sound : (line : ℕ) (bytes : List ℕ) (x : X) → judge line bytes ≡ Ok x → Allowed line x
  pub complete : (line : ℕ) (x : X) → Allowed line x → judge line (written x) ≡ Ok x
