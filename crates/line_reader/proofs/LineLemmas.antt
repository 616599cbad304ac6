-- Lines that are taken byte by byte.
use Rattle.std.proofs.Common.{◌≡◌, ℕ, ◌+◌, ◌-◌, ◌^◌, ◌<◌, ◌≤◌, ◌==◌, Bool, true, false, cond, List, [], ◌∷◌, ◌++◌, length, take, drop, Option, Some, None, refl, sym, ap, subst, ◌∙◌, append_assoc, append-nil, length-append, length-drop, nat_le, nat_lt, inl, inr, arith}
use Rattle.std.proofs.lemmas.Bool.{cases_eq, cases_lt, eq-eqb, le-leb, le-ltb, lt-leb, lt-ltb, ne_eqb}
use Rattle.std.proofs.lemmas.List.{take_all, take-append-le, length-take-le}
use Rattle.std.proofs.lemmas.List.Folds.{list_any-append}
use Rattle.line_reader.specs.Reads.{HasRead, HasRead-nil, HasRead-append}
use Rattle.line_reader.specs.Bytes.{Refills, TakesKept, HasNoByte, HasByte, TakesByte, keeps_byte}
use Rattle.line_reader.specs.Lines.{has_feed, IsEnding, AtFeed, AtEnd, TooFar, IsNextLine, FindsShort, FindsLong, FindsLine, found_by, ended_by}
use Rattle.line_reader.specs.declared.lines.LineRead.{LineRead}
use Rattle.line_reader.specs.declared.lines.LineRead.TheVariants.{Line, Long, End}

-- ---- one byte

-- nothing is read where bytes are kept
pub still_kept : (piece : List ℕ) (next : ℕ) (told : Option (List ℕ)) → next < length piece
    → Refills (drop next piece) (drop next piece) told told
still_kept piece next told some = record {
  read = [];
  is_read = HasRead-nil told;
  whole = sym (append-nil (drop next piece));
  ends = λ none. absurd (omega (arith, length-drop next piece, ap length none));
}

-- what is taken of what is kept behind a reading
pub takes_byte : (o : Option ℕ) (kept mid now : List ℕ) (before after : Option (List ℕ)) → Refills kept mid before after
    → TakesKept o mid now → TakesByte o kept now before after
takes_byte None kept mid now before after fills takes =
    let parts = nil_both kept fills.read (sym fills.whole ∙ takes.0) in
    record {
      none_kept = parts.0;
      none_now = takes.1;
      is_read = subst (λ (bytes : List ℕ). HasRead before bytes after) parts.1 fills.is_read;
      at_end = fills.ends takes.0;
    }
  where
    nil_both : (xs ys : List ℕ) → xs ++ ys ≡ [] → (xs ≡ []) × (ys ≡ [])
    nil_both [] ys is = (refl, is)
    nil_both (x ∷ xs) ys is = absurd cc
takes_byte (Some byte) kept mid now before after fills takes = record {
  read = fills.read;
  is_read = fills.is_read;
  whole = sym fills.whole ∙ takes;
}

-- ---- the bytes of a line so far

-- so many bytes of a line were taken, none a line feed, and the first of them are held
pub record HasSeen (most seen : ℕ) (kept kept_now : List ℕ) (before after : Option (List ℕ))
    (first : List ℕ) : Type 0 where
  pub bytes : List ℕ
  pub many : length bytes ≡ seen
  pub read : List ℕ
  pub is_read : HasRead before read after
  pub whole : kept ++ read ≡ bytes ++ kept_now
  pub plain : has_feed bytes ≡ false
  pub begins : first ≡ take most bytes

pub seen_none : (most : ℕ) (kept : List ℕ) (before : Option (List ℕ)) → HasSeen most 0 kept kept before before []
seen_none most kept before = record {
  bytes = [];
  many = refl;
  read = [];
  is_read = HasRead-nil before;
  whole = append-nil kept;
  plain = refl;
  begins = sym (take_all most [] (omega arith));
}

-- what was read behind
behind : (kept mid now read more bytes : List ℕ) (byte : ℕ) → kept ++ read ≡ bytes ++ mid → mid ++ more ≡ byte ∷ now
    → kept ++ (read ++ more) ≡ (bytes ++ byte ∷ []) ++ now
behind kept mid now read more bytes byte first then =
    sym (append_assoc kept read more) ∙ ap (λ (xs : List ℕ). xs ++ more) first ∙ append_assoc bytes mid more
    ∙ ap (λ (xs : List ℕ). bytes ++ xs) then ∙ sym (append_assoc bytes (byte ∷ []) now)

feed_more : (bytes : List ℕ) (byte : ℕ) → has_feed bytes ≡ false → (byte ≡ 10 → ⊥)
    → has_feed (bytes ++ byte ∷ []) ≡ false
feed_more bytes byte plain other =
    let here : (byte == 10) ≡ false = ne_eqb byte 10 other in
    list_any-append (λ (b : ℕ). b == 10) bytes (byte ∷ []) ∙ rw (plain, here) refl

held_more : (most : ℕ) (bytes : List ℕ) (byte : ℕ) → keeps_byte most (take most bytes) byte ≡ take most
    (bytes ++ byte ∷ [])
held_more most bytes byte =
    elim (cases_lt (length bytes) most) [
      | inl room ↦
          let all : take most bytes ≡ bytes = take_all most bytes (omega arith) in
          let fits : nat_lt (length bytes) most ≡ true = lt-ltb (length bytes) most room in
          ap (λ (xs : List ℕ). keeps_byte most xs byte) all ∙ ap (λ (b : Bool). cond b (bytes ++ byte ∷ []) bytes) fits
          ∙ sym (take_all most (bytes ++ byte ∷ []) (omega (arith, length-append bytes (byte ∷ []))))
      | inr full ↦
          let many : length (take most bytes) ≡ most = length-take-le most bytes full in
          let none : nat_lt (length (take most bytes)) most ≡ false = le-ltb (length (take most bytes)) most
          (omega arith) in
          ap (λ (b : Bool). cond b (take most bytes ++ byte ∷ []) (take most bytes)) none
          ∙ sym (take-append-le most bytes (byte ∷ []) full)
    ]

-- one byte more
pub seen_more : (most seen : ℕ) (kept mid now : List ℕ) (before between after : Option (List ℕ)) (first held : List ℕ)
    (byte : ℕ)
    → HasSeen most seen kept mid before between first → HasByte byte mid now between after → (byte ≡ 10 → ⊥)
    → held ≡ keeps_byte most first byte → HasSeen most (seen + 1) kept now before after held
seen_more most seen kept mid now before between after first held byte seen_so takes other is = record {
  bytes = seen_so.bytes ++ byte ∷ [];
  many = length-append seen_so.bytes (byte ∷ []) ∙ ap (λ (n : ℕ). n + 1) seen_so.many;
  read = seen_so.read ++ takes.read;
  is_read = HasRead-append before seen_so.read takes.read between after seen_so.is_read takes.is_read;
  whole = behind kept mid now seen_so.read takes.read seen_so.bytes byte seen_so.whole takes.whole;
  plain = feed_more seen_so.bytes byte seen_so.plain other;
  begins = is ∙ ap (λ (xs : List ℕ). keeps_byte most xs byte) seen_so.begins ∙ held_more most seen_so.bytes byte;
}

-- ---- the end of a line

-- a line feed follows
pub feed_next : (most seen : ℕ) (kept mid now : List ℕ) (before between after : Option (List ℕ)) (first : List ℕ)
    (byte : ℕ)
    → (so_far : HasSeen most seen kept mid before between first) → HasByte byte mid now between after → byte ≡ 10
    → IsNextLine so_far.bytes kept now before after
feed_next most seen kept mid now before between after first byte so_far takes is = record {
  read = so_far.read ++ takes.read;
  is_read = HasRead-append before so_far.read takes.read between after so_far.is_read takes.is_read;
  ending = 10 ∷ [];
  whole = behind kept mid now so_far.read takes.read so_far.bytes byte so_far.whole takes.whole
      ∙ ap (λ (b : ℕ). (so_far.bytes ++ b ∷ []) ++ now) is ∙ append_assoc so_far.bytes (10 ∷ []) now;
  plain = so_far.plain;
  ends = AtFeed;
}

-- the source ended
pub end_next : (most seen : ℕ) (kept mid now : List ℕ) (before between after : Option (List ℕ)) (first : List ℕ)
    → (so_far : HasSeen most seen kept mid before between first) → HasNoByte mid now between after → 0 < seen
    → IsNextLine so_far.bytes kept now before after
end_next most seen kept mid now before between after first so_far none some =
    record {
      read = so_far.read;
      is_read = subst (λ (bytes : List ℕ). HasRead before bytes after) (append-nil so_far.read)
          (HasRead-append before so_far.read [] between after so_far.is_read none.is_read);
      ending = [];
      whole = so_far.whole ∙ ap (λ (xs : List ℕ). so_far.bytes ++ xs) (none.none_kept ∙ sym none.none_now);
      plain = so_far.plain;
      ends = subst (λ (xs : List ℕ). IsEnding so_far.bytes [] xs after) (sym none.none_now)
          (AtEnd (subst (λ (n : ℕ). 0 < n) (sym so_far.many) some) none.at_end);
    }

-- nothing was taken before the source ended
pub end_none : (most seen : ℕ) (kept mid now : List ℕ) (before between after : Option (List ℕ)) (first : List ℕ)
    → HasSeen most seen kept mid before between first → HasNoByte mid now between after → seen ≡ 0
    → HasNoByte kept now before after
end_none most seen kept mid now before between after first so_far none is =
    let empty : so_far.bytes ≡ [] = nil so_far.bytes (so_far.many ∙ is) in
    let parts = nil_both kept so_far.read (so_far.whole ∙ ap (λ (xs : List ℕ). so_far.bytes ++ xs) none.none_kept
    ∙ ap (λ (xs : List ℕ). xs ++ []) empty) in
    record {
      none_kept = parts.0;
      none_now = none.none_now;
      is_read = subst (λ (bytes : List ℕ). HasRead before bytes after) (append-nil so_far.read ∙ parts.1)
          (HasRead-append before so_far.read [] between after so_far.is_read none.is_read);
      at_end = none.at_end;
    }
  where
    nil : (xs : List ℕ) → length xs ≡ 0 → xs ≡ []
    nil [] is = refl
    nil (x ∷ xs) is = absurd (omega arith)

    nil_both : (xs ys : List ℕ) → xs ++ ys ≡ [] → (xs ≡ []) × (ys ≡ [])
    nil_both [] ys is = (refl, is)
    nil_both (x ∷ xs) ys is = absurd cc

-- so many were taken that the count ends
pub far_next : (most seen : ℕ) (kept now : List ℕ) (before after : Option (List ℕ)) (first : List ℕ)
    → (so_far : HasSeen most seen kept now before after first) → 2 ^ 64 - 1 ≤ seen
    → IsNextLine so_far.bytes kept now before after
far_next most seen kept now before after first so_far far = record {
  read = so_far.read;
  is_read = so_far.is_read;
  ending = [];
  whole = so_far.whole;
  plain = so_far.plain;
  ends = TooFar (subst (λ (n : ℕ). 2 ^ 64 - 1 ≤ n) (sym so_far.many) far);
}

-- ---- what was found

-- a line, which is held where it isn't too long
found_line : (most seen : ℕ) (kept now : List ℕ) (before after : Option (List ℕ)) (held line : List ℕ)
    → length line ≡ seen
    → held ≡ take most line → IsNextLine line kept now before after → (found : LineRead) → found ≡ found_by seen most
    → FindsLine found most kept now before after held
found_line most seen kept now before after held line many begins next found is =
    elim (cases_lt most seen) [
      | inl long ↦
          let no : nat_le seen most ≡ false = lt-leb seen most long in
          let is_long : found ≡ Long = is ∙ ap (λ (b : Bool). cond b Line Long) no in
          let finds : FindsLong most kept now before after = record { line = line; long = omega arith; next = next } in
          subst (λ (f : LineRead). FindsLine f most kept now before after held) (sym is_long) finds
      | inr short ↦
          let yes : nat_le seen most ≡ true = le-leb seen most short in
          let is_line : found ≡ Line = is ∙ ap (λ (b : Bool). cond b Line Long) yes in
          let same : line ≡ held = sym (begins ∙ take_all most line (omega arith)) in
          let finds : FindsShort held most kept now before after = record {
            short = subst (λ (xs : List ℕ). length xs ≤ most) same (omega arith);
            next = subst (λ (xs : List ℕ). IsNextLine xs kept now before after) same next;
          } in
          subst (λ (f : LineRead). FindsLine f most kept now before after held) (sym is_line) finds
    ]

-- a line feed was taken
pub line_feeds : (most seen : ℕ) (start kept mid now : List ℕ) (before between after : Option (List ℕ))
    (first held : List ℕ)
    → start ≡ kept → HasSeen most seen start mid before between first → (o : Option ℕ) (byte : ℕ) → o ≡ Some byte
    → byte ≡ 10 → TakesByte o mid now between after → held ≡ first → (found : LineRead) → found ≡ found_by seen most
    → FindsLine found most kept now before after held
line_feeds most seen start kept mid now before between after first held same so_far o byte some is takes holds found finds =
    let taken : HasByte byte mid now between after = subst
    (λ (p : Option ℕ). TakesByte p mid now between after) some takes in
    subst (λ (xs : List ℕ). FindsLine found most xs now before after held) same
    (found_line most seen start now before after held so_far.bytes so_far.many (holds ∙ so_far.begins)
    (feed_next most seen start mid now before between after first byte so_far taken is) found finds)

-- no byte was left
pub line_ends : (most seen : ℕ) (start kept mid now : List ℕ) (before between after : Option (List ℕ))
    (first held : List ℕ)
    → start ≡ kept → HasSeen most seen start mid before between first → (o : Option ℕ) → o ≡ None
    → TakesByte o mid now between after → held ≡ first → (found : LineRead) → found ≡ ended_by seen most
    → FindsLine found most kept now before after held
line_ends most seen start kept mid now before between after first held same so_far o none takes holds found finds =
    let nothing : HasNoByte mid now between after = subst
    (λ (p : Option ℕ). TakesByte p mid now between after) none takes in
    subst (λ (xs : List ℕ). FindsLine found most xs now before after held) same
    (elim (cases_eq seen 0) [
      | inl empty ↦
          let is_end : found ≡ End = finds ∙ ap (λ (b : Bool). cond b End (found_by seen most)) (eq-eqb seen 0 empty) in
          subst (λ (f : LineRead). FindsLine f most start now before after held) (sym is_end)
          (end_none most seen start mid now before between after first so_far nothing empty)
      | inr some ↦
          found_line most seen start now before after held so_far.bytes so_far.many (holds ∙ so_far.begins)
          (end_next most seen start mid now before between after first so_far nothing
          (omega (arith, above seen some))) found
          (finds ∙ ap (λ (b : Bool). cond b End (found_by seen most)) (ne_eqb seen 0 some))
    ])
  where
    above : (n : ℕ) → (n ≡ 0 → ⊥) → 0 < n
    above n other = elim (cases_lt 0 n) [ inl more ↦ more | inr none_left ↦ absurd (other (omega arith)) ]

-- the count of bytes ended
pub line_far : (most seen : ℕ) (start kept now : List ℕ) (before after : Option (List ℕ)) (held : List ℕ) → start ≡ kept
    → HasSeen most seen start now before after held → 2 ^ 64 - 1 ≤ seen → (found : LineRead)
    → found ≡ found_by seen most
    → FindsLine found most kept now before after held
line_far most seen start kept now before after held same so_far far found finds =
    subst (λ (xs : List ℕ). FindsLine found most xs now before after held) same
    (found_line most seen start now before after held so_far.bytes so_far.many so_far.begins
    (far_next most seen start now before after held so_far far) found finds)

-- one byte more was kept
pub line_goes : (most seen : ℕ) (start mid now kept : List ℕ) (before between after : Option (List ℕ))
    (first mid_line held : List ℕ)
    → HasSeen most seen start mid before between first → (o : Option ℕ) (byte : ℕ) → o ≡ Some byte
    → (byte ≡ 10 → ⊥) → TakesByte o mid now between after → mid_line ≡ first → held ≡ keeps_byte most mid_line byte
    → kept ≡ now → HasSeen most (seen + 1) start kept before after held
line_goes most seen start mid now kept before between after first mid_line held so_far o byte some other takes same holds stays =
    let taken : HasByte byte mid now between after = subst
    (λ (p : Option ℕ). TakesByte p mid now between after) some takes in
    subst (λ (xs : List ℕ). HasSeen most (seen + 1) start xs before after held) (sym stays)
    (seen_more most seen start mid now before between after first held byte so_far taken other
    (holds ∙ ap (λ (xs : List ℕ). keeps_byte most xs byte) same))
