-- What readers read behind each other, and what a reader reads of a whole text.
use Rattle.std.proofs.Common.{◌≡◌, ℕ, zero, suc, ◌+◌, ◌↔◌, List, [], ◌∷◌, ◌++◌, Result, Ok, Err, refl, sym, ap, subst, ◌∙◌, append_assoc, append-nil, zero-add, arith}
use Rattle.audit_lines.specs.declared.faults.AuditFault.{AuditFault}
use Rattle.audit_lines.specs.Places.{Place, place_at, start_of, line_feeds, IsBehind, fault_at_end}
use Rattle.audit_lines.specs.Readers.{Read, Answer, Reader, found, by_read, then_read, read_each, read_times, value_at_end, ended, read_whole, Relation, IsThen, AreEach, AreTimes, Sound, Reads}
use Rattle.audit_lines.specs.TextLaws.{line_feeds-append, behind_both, place_between}
use Rattle.audit_lines.specs.ReaderLaws.{nothing_reads}

-- the first reader's value, and what the next one gave
record WasRead {X Y : Type 0} (next : X → Reader Y) (answer : Answer X) (read : Read Y) : Type 0 where
  first : Read X
  is : answer ≡ Ok first
  went : next first.value first.place ≡ Ok read

was_read : {X Y : Type 0} (next : X → Reader Y) (answer : Answer X) (read : Read Y) → by_read next answer ≡ Ok read
    → WasRead next answer read
was_read next (Ok first) read is = record { first = first; is = refl; went = is }
was_read next (Err fault) read is = absurd (cc)

module _ {X Y : Type 0} (first : Reader X) (next : X → Reader Y) (First : Relation X) (Next : X → Relation Y)
    (first_reads : Reads first First)
    (next_reads : (line : ℕ) (x : X) (text : List ℕ) → First line x text → Reads (next x) (Next x)) where
  then_sound : (p : Place) (read : Read Y) → then_read first next p ≡ Ok read → Sound (IsThen First Next) p read
  then_sound p read is =
      let was = was_read next (first p) read is in
      let front = first_reads.sound p was.first was.is in
      let place = was.first.place in
      let back = (next_reads p.line was.first.value front.text front.is).sound place read was.went in
      let there : Next was.first.value (line_feeds front.text + p.line) read.value back.text =
      subst (λ (line : ℕ). Next was.first.value line read.value back.text) front.behind.line back.is in
      record {
        text = front.text ++ back.text;
        is = record {
          value = was.first.value;
          front = front.text;
          back = back.text;
          first = front.is;
          next = there;
          is = refl;
        };
        behind = behind_both front.text back.text p place read.place front.behind back.behind;
      }

  then_complete : (p r : Place) (y : Y) (text : List ℕ) → IsThen First Next p.line y text → IsBehind text p r
      → then_read first next p ≡ found y r
  then_complete p r y text is behind =
      let between = place_between is.front is.back p r (subst (λ (bytes : List ℕ). IsBehind bytes p r) is.is behind) in
      let q = between.place in
      let there : Next is.value q.line y is.back = subst (λ (line : ℕ). Next is.value line y is.back)
      (sym between.line) is.next in
      ap (by_read next) (first_reads.complete p q is.value is.front is.first between.first)
      ∙ (next_reads p.line is.value is.front is.first).complete q r y is.back there between.next

  pub then_reads : Reads (then_read first next) (IsThen First Next)
  then_reads = record { sound = then_sound; complete = then_complete }

-- where each value that comes is good, and each reader reads from good values, so do all of them
pub each_reads : {A S : Type 0} (one : A → S → Reader S) (Is : A → S → Relation S) (Good : S → Type 0)
    → ((a : A) (s : S) → Good s → Reads (one a s) (Is a s))
    → ((a : A) (s t : S) (line : ℕ) (text : List ℕ) → Good s → Is a s line t text → Good t)
    → (items : List A) (s : S) → Good s → Reads (read_each one items s) (AreEach Is items s)
each_reads one Is Good reads keeps [] s good = nothing_reads s
each_reads one Is Good reads keeps (a ∷ items) s good =
    then_reads (one a s) (read_each one items) (Is a s) (AreEach Is items) (reads a s good)
    (λ line t text is. each_reads one Is Good reads keeps items t (keeps a s t line text good is))

pub times_reads : {S : Type 0} (one : S → Reader S) (Is : S → Relation S) (Good : S → Type 0)
    → ((s : S) → Good s → Reads (one s) (Is s))
    → ((s t : S) (line : ℕ) (text : List ℕ) → Good s → Is s line t text → Good t)
    → (times : ℕ) (s : S) → Good s → Reads (read_times one times s) (AreTimes Is times s)
times_reads one Is Good reads keeps zero s good = nothing_reads s
times_reads one Is Good reads keeps (suc times) s good =
    then_reads (one s) (read_times one times) (Is s) (AreTimes Is times) (reads s good)
    (λ line t text is. times_reads one Is Good reads keeps times t (keeps s t line text good is))

-- one more text behind so many
pub times_one_more : {S : Type 0} (Is : S → Relation S) (times : ℕ) (s t u : S) (line : ℕ) (front back : List ℕ)
    → AreTimes Is times s line t front → Is t (line_feeds front + line) u back
    → AreTimes Is (suc times) s line u (front ++ back)
times_one_more {S} Is zero s t u line front back none more =
    let here : Is s line u back =
    subst (λ (v : S). Is v line u back) none.value
    (subst (λ (n : ℕ). Is t n u back)
    (ap (λ (bytes : List ℕ). line_feeds bytes + line) none.is ∙ zero-add line) more) in
    record {
      value = u;
      front = back;
      back = [];
      first = here;
      next = record { value = refl; is = refl };
      is = ap (λ (bytes : List ℕ). bytes ++ back) none.is ∙ sym (append-nil back);
    }
times_one_more {S} Is (suc times) s t u line front back then more =
    let after : line_feeds front + line ≡ line_feeds then.back + (line_feeds then.front + line) =
    let both = line_feeds-append then.front then.back in let same = ap line_feeds then.is in omega arith in
    record {
      value = then.value;
      front = then.front;
      back = then.back ++ back;
      first = then.first;
      next = times_one_more Is times then.value t u (line_feeds then.front + line) then.back back then.next
          (subst (λ (n : ℕ). Is t n u back) after more);
      is = ap (λ (bytes : List ℕ). bytes ++ back) then.is ∙ append_assoc then.front then.back back;
    }

-- a relation that says the same of each value and text belongs to the same reader
pub reads_as : {X : Type 0} (reader : Reader X) (Is Same : Relation X) → Reads reader Is
    → ((line : ℕ) (x : X) (text : List ℕ) → Is line x text → Same line x text)
    → ((line : ℕ) (x : X) (text : List ℕ) → Same line x text → Is line x text) → Reads reader Same
reads_as reader Is Same reads there back = record {
  sound = λ p read is. let was = reads.sound p read is in record
      { text = was.text; is = there p.line read.value was.text was.is; behind = was.behind };
  complete = λ p q x text is behind. reads.complete p q x text (back p.line x text is) behind;
}

-- ---- a whole text

none_left : {X : Type 0} (x y : X) (rest : List ℕ) (line : ℕ) → value_at_end x (fault_at_end rest line) ≡ Ok y
    → (rest ≡ []) × (x ≡ y)
none_left {X} x y [] line is = let same : ◌≡◌ {A = Result X AuditFault} (Ok x) (Ok y) = is in (refl, cc)
none_left x y (c ∷ cs) line is = absurd (cc)

record WasWhole {X : Type 0} (answer : Answer X) (x : X) : Type 0 where
  read : Read X
  is : answer ≡ Ok read
  none : read.place.rest ≡ []
  value : read.value ≡ x

was_whole : {X : Type 0} (answer : Answer X) (x : X) → ended answer ≡ Ok x → WasWhole answer x
was_whole (Ok read) x is = let none = none_left read.value x read.place.rest read.place.line is in record
    { read = read; is = refl; none = none.0; value = none.1 }
was_whole (Err fault) x is = absurd (cc)

module _ {X : Type 0} (reader : Reader X) (Is : Relation X) (reads : Reads reader Is) (text : List ℕ) (x : X) where
  pub whole_sound : read_whole reader text ≡ Ok x → Is 1 x text
  whole_sound is =
      let was = was_whole (reader (start_of text)) x is in
      let front = reads.sound (start_of text) was.read was.is in
      let all : text ≡ front.text = front.behind.rest ∙ ap (λ (rest : List ℕ). front.text ++ rest) was.none
      ∙ append-nil front.text in
      subst (Is 1 x) (sym all) (subst (λ (y : X). Is 1 y front.text) was.value front.is)

  pub whole_complete : Is 1 x text → read_whole reader text ≡ Ok x
  whole_complete is =
      let behind : IsBehind text (start_of text) (place_at [] (line_feeds text + 1)) = record
      { rest = sym (append-nil text); line = refl } in
      ap ended (reads.complete (start_of text) (place_at [] (line_feeds text + 1)) x text is behind)

  -- a reader takes a whole text with a value exactly where the text is one of the value
  pub whole_reads : (read_whole reader text ≡ Ok x) ↔ Is 1 x text
  whole_reads = (whole_sound, whole_complete)
