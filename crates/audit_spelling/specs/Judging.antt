-- Lines that are judged by their words: first what they spell, then what is said of that.
use Rattle.std.proofs.Common.{◌≡◌, ℕ, List, Option, Some, None, Result, Ok, Err, refl, ap, ◌∙◌}
use Rattle.audit_lines.specs.declared.faults.AuditFault.{AuditFault}
use Rattle.audit_lines.specs.declared.faults.AuditFault.TheVariants.{Spelling}
use Rattle.audit_lines.specs.Readers.{Judges}
use Rattle.audit_spelling.specs.Words.{words_in, spaced_words, HasFirst, Spells}
use Rattle.audit_spelling.specs.WordLaws.{words_of_written}

abbrev pub by_spelt : {X Y : Type 0} → ℕ → (X → Result Y AuditFault) → Option X → Result Y AuditFault
by_spelt line judged None = Err (Spelling line)
by_spelt line judged (Some x) = judged x

-- a line that spells nothing is badly spelt; else it is judged by what it spells
abbrev pub judge_spelt : {X Y : Type 0} → (List (List ℕ) → Option X) → (ℕ → X → Result Y AuditFault) → ℕ → List ℕ
    → Result Y AuditFault
judge_spelt of_words judged line bytes = by_spelt line (judged line) (of_words (words_in bytes))

-- what is said of a value that is spelt: it is allowed exactly where it is judged so, and it is one that is spelt
pub record JudgesSpelt {X Y : Type 0} (Spelt : X → Type 0) (judged : ℕ → X → Result Y AuditFault) (value : Y → X)
    (Allowed : ℕ → Y → Type 0) : Type 0 where
  pub sound : (line : ℕ) (x : X) (y : Y) → Spelt x → judged line x ≡ Ok y → Allowed line y
  pub complete : (line : ℕ) (y : Y) → Allowed line y → judged line (value y) ≡ Ok y
  pub spelt : (line : ℕ) (y : Y) → Allowed line y → Spelt (value y)

module _ {X Y : Type 0} (of_words : List (List ℕ) → Option X) (written : X → List (List ℕ)) (Spelt : X → Type 0)
    (spells : Spells of_words written Spelt) (has_first : (x : X) → Spelt x → HasFirst (written x))
    (judged : ℕ → X → Result Y AuditFault) (value : Y → X) (Allowed : ℕ → Y → Type 0)
    (judges : JudgesSpelt Spelt judged value Allowed) where
  spelt_sound : (line : ℕ) (words : List (List ℕ)) (o : Option X) (y : Y) → of_words words ≡ o
      → by_spelt line (judged line) o ≡ Ok y → Allowed line y
  spelt_sound line words None y is judging = absurd (cc)
  spelt_sound line words (Some x) y is judging = judges.sound line x y (spells.sound words x is).1 judging

  judge_complete : (line : ℕ) (y : Y) → Allowed line y
      → judge_spelt of_words judged line (spaced_words (written (value y))) ≡ Ok y
  judge_complete line y allowed =
      let x = value y in
      let spelt = judges.spelt line y allowed in
      ap (λ (words : List (List ℕ)). by_spelt line (judged line) (of_words words))
      (words_of_written (written x) (record { first = has_first x spelt; plain = spells.plain x spelt }))
      ∙ ap (by_spelt line (judged line)) (spells.complete x spelt)
      ∙ judges.complete line y allowed

  pub judges_spelt : Judges (judge_spelt of_words judged) (λ y. spaced_words (written (value y))) Allowed
  judges_spelt = record {
    sound = λ line bytes y is. spelt_sound line (words_in bytes) (of_words (words_in bytes)) y refl is;
    complete = judge_complete;
  }
