-- A text that is due is met exactly where it stands at the place; lines ahead are those of the text.
use Rattle.std.proofs.Common.{◌≡◌, ℕ, zero, suc, ◌+◌, ◌==◌, ◌↔◌, false, List, [], ◌∷◌, ◌++◌, Some, Result, Ok, Err, refl, sym, ap, subst, ◌∙◌, zero-add, append_assoc, arith}
use Rattle.std.proofs.lemmas.Bool.{cond_both, cond-true, cond-false, eqb-true, eqb-false, eq-eqb, or_parts}
use Rattle.audit_lines.specs.declared.faults.AuditFault.{AuditFault}
use Rattle.audit_lines.specs.declared.faults.AuditFault.TheVariants.{Short}
use Rattle.audit_lines.specs.Places.{Place, place_at, feeds_of, line_feeds, has_line_feed, IsBehind, differs_at, FailsAt, met_at, met, Taken, with_front, first_line, by_taken, line_ahead, StandsAhead}

-- ---- places

pub line_feeds-append : (front back : List ℕ) → line_feeds (front ++ back) ≡ line_feeds front + line_feeds back
line_feeds-append [] back = omega arith
line_feeds-append (c ∷ cs) back = let rest = line_feeds-append cs back in omega arith

pub behind_both : (front back : List ℕ) (p q r : Place) → IsBehind front p q → IsBehind back q r
    → IsBehind (front ++ back) p r
behind_both front back p q r first next = record {
  rest = first.rest ∙ ap (λ (rest : List ℕ). front ++ rest) next.rest ∙ sym (append_assoc front back r.rest);
  line = let both = line_feeds-append front back in omega arith;
}

-- a place between two texts
pub record Between (front back : List ℕ) (p r : Place) : Type 0 where
  pub place : Place
  pub line : place.line ≡ line_feeds front + p.line
  pub first : IsBehind front p place
  pub next : IsBehind back place r

pub place_between : (front back : List ℕ) (p r : Place) → IsBehind (front ++ back) p r → Between front back p r
place_between front back p r all = record {
  place = place_at (back ++ r.rest) (line_feeds front + p.line);
  line = refl;
  first = record { rest = all.rest ∙ append_assoc front back r.rest; line = refl };
  next = record { rest = refl; line = let both = line_feeds-append front back in let same = all.line in omega arith };
}

pub behind_nothing : (p : Place) → IsBehind [] p p
behind_nothing p = record { rest = refl; line = omega arith }

-- behind nothing there is one place
pub nothing_between : (p q : Place) → IsBehind [] p q → p ≡ q
nothing_between p q behind = let line : p.line ≡ q.line = let same = behind.line in omega arith in λ i. record
    { rest = behind.rest i; line = line i }

-- ---- a text that is due

same_place : (p q : Place) → ◌≡◌ {A = Result Place AuditFault} (Ok p) (Ok q) → p ≡ q
same_place p q same = cc

pub met_sound : (text rest : List ℕ) (line : ℕ) (q : Place) → met_at text rest line ≡ Ok q
    → IsBehind text (place_at rest line) q
met_sound [] rest line q is = let P : Place → Type 0 = λ r. IsBehind [] (place_at rest line) r in subst P
    (same_place (place_at rest line) q is) (behind_nothing (place_at rest line))
met_sound (c ∷ cs) [] line q is = absurd (cc)
met_sound (c ∷ cs) (d ∷ ds) line q is =
    cond_both (d == c) (met_at cs ds (feeds_of c + line)) (Err (differs_at (d ∷ ds) line))
    (λ (o : Result Place AuditFault). o ≡ Ok q → IsBehind (c ∷ cs) (place_at (d ∷ ds) line) q)
    (λ same went. one_more (eqb-true d c same) (met_sound cs ds (feeds_of c + line) q went))
    (λ differs went. absurd (cc))
    is
  where
    one_more : d ≡ c → IsBehind cs (place_at ds (feeds_of c + line)) q → IsBehind (c ∷ cs) (place_at (d ∷ ds) line) q
    one_more same behind = record {
      rest = ap (λ (b : ℕ). b ∷ ds) same ∙ ap (λ (rest : List ℕ). c ∷ rest) behind.rest;
      line = let after = behind.line in omega arith;
    }

pub met_complete : (text rest : List ℕ) (line : ℕ) → met_at text (text ++ rest) line ≡ Ok
    (place_at rest (line_feeds text + line))
met_complete [] rest line = ap (λ (n : ℕ). Ok (place_at rest n)) (sym (zero-add line))
met_complete (c ∷ cs) rest line =
    cond-true (c == c) (met_at cs (cs ++ rest) (feeds_of c + line)) (Err (differs_at (c ∷ (cs ++ rest)) line))
    (eq-eqb c c refl)
    ∙ met_complete cs rest (feeds_of c + line)
    ∙ ap (λ (n : ℕ). Ok (place_at rest n))
    (let after : line_feeds cs + (feeds_of c + line) ≡ (feeds_of c + line_feeds cs) + line = omega arith in after)

pub met_where : (text : List ℕ) (p q : Place) → IsBehind text p q → met text p ≡ Ok q
met_where text p q behind =
    ap (λ (rest : List ℕ). met_at text rest p.line) behind.rest
    ∙ met_complete text q.rest p.line
    ∙ ap (λ (n : ℕ). Ok (place_at q.rest n)) (sym behind.line)

same_fault : (f g : AuditFault) → ◌≡◌ {A = Result Place AuditFault} (Err f) (Err g) → f ≡ g
same_fault f g same = cc

same_byte : (b c : ℕ) (bs cs : List ℕ) → ◌≡◌ {A = List ℕ} (b ∷ bs) (c ∷ cs) → b ≡ c
same_byte b c bs cs same = cc

fails_further : (c d : ℕ) (cs ds : List ℕ) (line : ℕ) (fault : AuditFault) → d ≡ c
    → FailsAt cs (place_at ds (feeds_of c + line)) fault → FailsAt (c ∷ cs) (place_at (d ∷ ds) line) fault
fails_further c d cs ds line fault same further = record {
  front = c ∷ further.front;
  byte = further.byte;
  due = further.due;
  left = further.left;
  text_is = ap (λ (bytes : List ℕ). c ∷ bytes) further.text_is;
  rest_is = ap (λ (b : ℕ). b ∷ ds) same ∙ ap (λ (bytes : List ℕ). c ∷ bytes) further.rest_is;
  other = further.other;
  fault_is = further.fault_is ∙ ap (differs_at further.left)
      (let number : line_feeds further.front + (feeds_of c + line) ≡ (feeds_of c + line_feeds further.front) + line =
      omega arith in number);
}

pub met_fails : (text rest : List ℕ) (line : ℕ) (fault : AuditFault) → met_at text rest line ≡ Err fault
    → FailsAt text (place_at rest line) fault
met_fails [] rest line fault is = absurd (cc)
met_fails (c ∷ cs) [] line fault is = record {
  front = [];
  byte = c;
  due = cs;
  left = [];
  text_is = refl;
  rest_is = refl;
  other = λ more same. absurd (cc);
  fault_is = sym (same_fault (Short line) fault is) ∙ ap Short (sym (zero-add line));
}
met_fails (c ∷ cs) (d ∷ ds) line fault is =
    cond_both (d == c) (met_at cs ds (feeds_of c + line)) (Err (differs_at (d ∷ ds) line))
    (λ (o : Result Place AuditFault). o ≡ Err fault → FailsAt (c ∷ cs) (place_at (d ∷ ds) line) fault)
    (λ same failed. fails_further c d cs ds line fault (eqb-true d c same)
    (met_fails cs ds (feeds_of c + line) fault failed))
    (λ differs failed. record {
      front = [];
      byte = c;
      due = cs;
      left = d ∷ ds;
      text_is = refl;
      rest_is = refl;
      other = λ more same. eqb-false d c differs (same_byte d c ds more same);
      fault_is = sym (same_fault (differs_at (d ∷ ds) line) fault failed)
          ∙ ap (differs_at (d ∷ ds)) (sym (zero-add line));
    })
    is

-- a text is met exactly where it stands at the place
pub met_is : (text : List ℕ) (p q : Place) → (met text p ≡ Ok q) ↔ IsBehind text p q
met_is text p q = (met_sound text p.rest p.line q, met_where text p q)

-- ---- lines ahead

pub first_line_is : (line back : List ℕ) → has_line_feed line ≡ false
    → first_line (line ++ (10 ∷ back)) ≡ Some (record { line = line; rest = back })
first_line_is [] back plain = refl
first_line_is (c ∷ cs) back plain =
    let parts = or_parts (c == 10) (has_line_feed cs) plain in
    cond-false (c == 10) (Some (record { line = []; rest = cs ++ (10 ∷ back) }))
    (with_front c (first_line (cs ++ (10 ∷ back)))) parts.0
    ∙ ap (with_front c) (first_line_is cs back parts.1)

-- the first line of a text, with more text behind it
first_line_in : (first back text more : List ℕ) → text ≡ first ++ (10 ∷ back) → has_line_feed first ≡ false
    → first_line (text ++ more) ≡ Some (record { line = first; rest = back ++ more })
first_line_in first back text more is plain =
    ap (λ (bytes : List ℕ). first_line (bytes ++ more)) is
    ∙ ap first_line (append_assoc first (10 ∷ back) more)
    ∙ first_line_is first (back ++ more) plain

pub line_ahead_is : (lines : ℕ) (line text more : List ℕ) (number : ℕ) → StandsAhead lines line text
    → line_ahead lines (text ++ more) number ≡ Ok line
line_ahead_is zero line text more number (back, is, plain) = ap (by_taken (λ (t : Taken). Ok t.line) number)
    (first_line_in line back text more is plain)
line_ahead_is (suc lines) line text more number (first, back, is, plain, further) =
    ap (by_taken (λ (t : Taken). line_ahead lines t.rest number) number) (first_line_in first back text more is plain)
    ∙ line_ahead_is lines line back more number further
