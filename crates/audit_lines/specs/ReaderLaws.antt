-- What each reader reads: nothing, a text that is due, and a text that a line tells.
use Rattle.std.proofs.Common.{◌≡◌, ℕ, ◌+◌, List, [], Result, Ok, Err, refl, sym, ap, subst, ◌∙◌}
use Rattle.audit_lines.specs.declared.faults.AuditFault.{AuditFault}
use Rattle.audit_lines.specs.Places.{Place, IsBehind, met, line_ahead, StandsAhead}
use Rattle.audit_lines.specs.Readers.{Read, Answer, found, nothing, found_at, due, by_value, by_line, due_by_line, IsNothing, IsDue, IsTold, Sound, Reads, Judges}
use Rattle.audit_lines.specs.TextLaws.{behind_nothing, nothing_between, met_sound, met_where, line_ahead_is}

pub same_read : {X : Type 0} (x : X) (p : Place) (read : Read X) → found x p ≡ Ok read
    → (x ≡ read.value) × (p ≡ read.place)
same_read {X} x p read same =
    let both : record { value = x; place = p } ≡ read = cc in
    (ap (λ (r : Read X). r.value) both, ap (λ (r : Read X). r.place) both)

pub nothing_reads : {X : Type 0} (x : X) → Reads (nothing x) (IsNothing x)
nothing_reads {X} x = record {
  sound = λ p read is. let same = same_read x p read is in record {
    text = [];
    is = record { value = sym same.0; is = refl };
    behind = subst (IsBehind [] p) same.1 (behind_nothing p);
  };
  complete = λ p q y text is behind. nothing_at p q y text is behind;
}
  where
    nothing_at : (p q : Place) (y : X) (text : List ℕ) → IsNothing x p.line y text → IsBehind text p q
        → nothing x p ≡ found y q
    nothing_at p q y text is behind =
        let same : p ≡ q = nothing_between p q (subst (λ (bytes : List ℕ). IsBehind bytes p q) is.is behind) in
        ap (found x) same ∙ ap (λ (z : X). found z q) (sym is.value)

-- the place behind a text that was due
due_at : {X : Type 0} (x : X) (o : Result Place AuditFault) (read : Read X) → found_at x o ≡ Ok read
    → (o ≡ Ok read.place) × (x ≡ read.value)
due_at x (Ok place) read is = let same = same_read x place read is in (ap Ok same.1, same.0)
due_at x (Err fault) read is = absurd (cc)

pub due_sound : {X : Type 0} (text : List ℕ) (x : X) (p : Place) (read : Read X) → due text x p ≡ Ok read
    → (x ≡ read.value) × IsBehind text p read.place
due_sound text x p read is = let went = due_at x (met text p) read is in
    (went.1, met_sound text p.rest p.line read.place went.0)

pub due_where : {X : Type 0} (text : List ℕ) (x : X) (p q : Place) → IsBehind text p q → due text x p ≡ found x q
due_where text x p q behind = ap (found_at x) (met_where text p q behind)

pub due_reads : {X : Type 0} (text : List ℕ) (x : X) → Reads (due text x) (IsDue text x)
due_reads {X} text x = record {
  sound = λ p read is. let went = due_sound text x p read is in record {
    text = text;
    is = record { value = sym went.0; is = refl };
    behind = went.1;
  };
  complete = λ p q y bytes is behind. ap (λ (z : X). due text z p) (sym is.value)
      ∙ due_where text y p q (subst (λ (other : List ℕ). IsBehind other p q) is.is behind);
}

-- ---- a text that a line tells

-- what was judged, and that the text of the value was due
record WasTold {X : Type 0} (judged : List ℕ → Result X AuditFault) (next : X → Answer X) (read : Read X) : Type 0 where
  line : List ℕ
  value : X
  is : judged line ≡ Ok value
  went : next value ≡ Ok read

told_value : {X : Type 0} (judged : List ℕ → Result X AuditFault) (next : X → Answer X) (read : Read X) (line : List ℕ)
    (o : Result X AuditFault) → judged line ≡ o → by_value next o ≡ Ok read → WasTold judged next read
told_value judged next read line (Ok x) is went = record { line = line; value = x; is = is; went = went }
told_value judged next read line (Err fault) is went = absurd (cc)

told_line : {X : Type 0} (judged : List ℕ → Result X AuditFault) (next : X → Answer X) (read : Read X)
    (o : Result (List ℕ) AuditFault) → by_line judged next o ≡ Ok read → WasTold judged next read
told_line judged next read (Ok line) went = told_value judged next read line (judged line) refl went
told_line judged next read (Err fault) went = absurd (cc)

module _ {X : Type 0} (lines : ℕ) (judge : ℕ → List ℕ → Result X AuditFault) (written text_of : X → List ℕ)
    (Allowed : ℕ → X → Type 0) (judges : Judges judge written Allowed) where
  told_sound : (p : Place) (read : Read X) → due_by_line lines judge text_of p ≡ Ok read
      → Sound (IsTold lines Allowed text_of) p read
  told_sound p read is =
      let told = told_line (judge (lines + p.line)) (λ (x : X). due (text_of x) x p) read
      (line_ahead lines p.rest (lines + p.line)) is in
      let went = due_sound (text_of told.value) told.value p read told.went in
      let allowed = judges.sound (lines + p.line) told.line told.value told.is in
      record {
        text = text_of told.value;
        is = record { allowed = subst (Allowed (lines + p.line)) went.0 allowed; is = ap text_of went.0 };
        behind = went.1;
      }

  told_complete : ((line : ℕ) (x : X) → Allowed line x → StandsAhead lines (written x) (text_of x))
      → (p q : Place) (x : X) (text : List ℕ) → IsTold lines Allowed text_of p.line x text → IsBehind text p q
      → due_by_line lines judge text_of p ≡ found x q
  told_complete stands p q x text is behind =
      let told : IsBehind (text_of x) p q = subst (λ (bytes : List ℕ). IsBehind bytes p q) is.is behind in
      let number = lines + p.line in
      let next : X → Answer X = λ y. due (text_of y) y p in
      let ahead = ap (λ (rest : List ℕ). line_ahead lines rest number) told.rest
      ∙ line_ahead_is lines (written x) (text_of x) q.rest number (stands number x is.allowed) in
      ap (by_line (judge number) next) ahead
      ∙ ap (by_value next) (judges.complete number x is.allowed)
      ∙ due_where (text_of x) x p q told

  pub told_reads : ((line : ℕ) (x : X) → Allowed line x → StandsAhead lines (written x) (text_of x))
      → Reads (due_by_line lines judge text_of) (IsTold lines Allowed text_of)
  told_reads stands = record { sound = told_sound; complete = told_complete stands }
