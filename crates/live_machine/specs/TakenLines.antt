-- Which lines the bytes are that were taken from a source.
use Rattle.std.proofs.Common.{◌≡◌, ℕ, ◌-◌, ◌^◌, ◌<◌, ◌≤◌, false, List, [], ◌∷◌, ◌++◌, length, Option, None, Some, refl, sym, ap, subst, ◌∙◌}
use Rattle.std.proofs.Common.{append_assoc, length-append, arith}
use Rattle.line_reader.specs.Reads.{HasRead, IsAtEnd}
use Rattle.line_reader.specs.Lines.{has_feed, IsEnding, AtFeed, AtEnd, TooFar, IsNextLine}

-- the bytes are these lines, each with its line feed. A line is cut only where it has 2^64 - 1 bytes
pub data AreLinesOf : List (List ℕ) → List ℕ → Type 0 where
  NoLines : AreLinesOf [] []
  FedLine : {lines : List (List ℕ)} {bytes : List ℕ} (line : List ℕ) → AreLinesOf lines bytes → has_feed line ≡ false
      → AreLinesOf (lines ++ line ∷ []) (bytes ++ (line ++ 10 ∷ []))
  CutLine : {lines : List (List ℕ)} {bytes : List ℕ} (line : List ℕ) → AreLinesOf lines bytes → has_feed line ≡ false
      → 2 ^ 64 - 1 ≤ length line → AreLinesOf (lines ++ line ∷ []) (bytes ++ line)

-- the bytes are these lines, with this behind them. Where nothing is, the last line may lack its line feed
pub data AreTaken : List (List ℕ) → List ℕ → List ℕ → Type 0 where
  WholeLines : {lines : List (List ℕ)} {bytes behind : List ℕ} → AreLinesOf lines bytes → AreTaken lines bytes behind
  EndsOpen : {lines : List (List ℕ)} {bytes : List ℕ} (line : List ℕ) → AreLinesOf lines bytes → has_feed line ≡ false
      → 0 < length line → AreTaken (lines ++ line ∷ []) (bytes ++ line) []

-- of all bytes these lines were taken; some were read and kept, and the others are left
pub record TakesFrom (all : List ℕ) (lines : List (List ℕ)) (kept : List ℕ) (rest : Option (List ℕ)) : Type 0 where
  pub left : List ℕ
  pub rest_is : rest ≡ Some left
  pub bytes : List ℕ
  pub are : AreTaken lines bytes (kept ++ left)
  pub whole : all ≡ bytes ++ (kept ++ left)

-- the same of what a source gives, where it tells it
abbrev pub HasTaken : Option (List ℕ) → List (List ℕ) → List ℕ → Option (List ℕ) → Type 0
HasTaken None lines kept rest = rest ≡ None
HasTaken (Some all) lines kept rest = TakesFrom all lines kept rest

pub none_taken : (told : Option (List ℕ)) → HasTaken told [] [] told
none_taken None = refl
none_taken (Some all) = record { left = all; rest_is = refl; bytes = []; are = WholeLines NoLines; whole = refl }

-- ---- one line more

-- the bytes so far, the line and its ending
longer : (bytes line ending behind behind_now : List ℕ) → behind ≡ line ++ (ending ++ behind_now) → bytes ++ behind ≡ (bytes ++ (line ++ ending)) ++ behind_now
longer bytes line ending behind behind_now is =
    ap (λ (b : List ℕ). bytes ++ b) (is ∙ sym (append_assoc line ending behind_now)) ∙ sym (append_assoc bytes (line ++ ending) behind_now)

no_byte : (line ending behind_now : List ℕ) → [] ≡ line ++ (ending ++ behind_now) → 0 < length (line ++ ending) → ⊥
no_byte line ending behind_now is some =
    let none = ap length is in
    omega (arith, none, some, length-append line (ending ++ behind_now), length-append ending behind_now, length-append line ending)

fed : (lines : List (List ℕ)) (bytes line behind behind_now : List ℕ) → AreTaken lines bytes behind → behind ≡ line ++ (10 ∷ behind_now) → has_feed line ≡ false
    → AreTaken (lines ++ line ∷ []) (bytes ++ (line ++ 10 ∷ [])) behind_now
fed lines bytes line behind behind_now (WholeLines are) is plain = WholeLines (FedLine line are plain)
fed _ _ line _ behind_now (EndsOpen last are unfed some) is plain =
    absurd (no_byte line (10 ∷ []) behind_now is (omega (arith, length-append line (10 ∷ []))))

cut : (lines : List (List ℕ)) (bytes line behind behind_now : List ℕ) → AreTaken lines bytes behind → behind ≡ line ++ behind_now → has_feed line ≡ false
    → 2 ^ 64 - 1 ≤ length line → AreTaken (lines ++ line ∷ []) (bytes ++ line) behind_now
cut lines bytes line behind behind_now (WholeLines are) is plain long = WholeLines (CutLine line are plain long)
cut _ _ line _ behind_now (EndsOpen last are unfed some) is plain long =
    absurd (no_byte line [] behind_now is (omega (arith, long, length-append line [])))

ended : (lines : List (List ℕ)) (bytes line behind : List ℕ) → AreTaken lines bytes behind → behind ≡ line ++ [] → has_feed line ≡ false
    → 0 < length line → AreTaken (lines ++ line ∷ []) (bytes ++ line) []
ended lines bytes line behind (WholeLines are) is plain some = EndsOpen line are plain some
ended _ _ line _ (EndsOpen last are unfed more) is plain some =
    absurd (no_byte line [] [] is (omega (arith, some, length-append line [])))

left_none : (rest : Option (List ℕ)) (left : List ℕ) → rest ≡ Some left → IsAtEnd rest → left ≡ []
left_none None left is none = absurd cc
left_none (Some bytes) left is none = let same : bytes ≡ left = cc is in sym same ∙ none

module _ (all : List ℕ) (lines : List (List ℕ)) (bytes line behind left : List ℕ) (are : AreTaken lines bytes behind) (whole : all ≡ bytes ++ behind) (plain : has_feed line ≡ false) where
  one_more : (ending kept : List ℕ) (rest : Option (List ℕ)) → rest ≡ Some left → behind ≡ line ++ (ending ++ (kept ++ left)) → IsEnding line ending kept rest
      → TakesFrom all (lines ++ line ∷ []) kept rest
  one_more _ kept rest rest_is is AtFeed = record {
    left = left;
    rest_is = rest_is;
    bytes = bytes ++ (line ++ 10 ∷ []);
    are = fed lines bytes line behind (kept ++ left) are is plain;
    whole = whole ∙ longer bytes line (10 ∷ []) behind (kept ++ left) is;
  }
  one_more _ _ rest rest_is is (AtEnd some at_end) =
      let none = left_none rest left rest_is at_end in
      record {
        left = left;
        rest_is = rest_is;
        bytes = bytes ++ line;
        are = subst (AreTaken (lines ++ line ∷ []) (bytes ++ line)) (sym none)
            (ended lines bytes line behind are (is ∙ ap (λ (l : List ℕ). line ++ l) none) plain some);
        whole = whole ∙ ap (λ (b : List ℕ). bytes ++ b) is ∙ sym (append_assoc bytes line left);
      }
  one_more _ kept rest rest_is is (TooFar long) = record {
    left = left;
    rest_is = rest_is;
    bytes = bytes ++ line;
    are = cut lines bytes line behind (kept ++ left) are is plain long;
    whole = whole ∙ ap (λ (b : List ℕ). bytes ++ b) is ∙ sym (append_assoc bytes line (kept ++ left));
  }

-- the bytes that are kept and left begin with the line and its ending
next_behind : (line kept kept_now read ending left left_now : List ℕ) → left ≡ read ++ left_now → kept ++ read ≡ line ++ (ending ++ kept_now) → kept ++ left ≡ line ++ (ending ++ (kept_now ++ left_now))
next_behind line kept kept_now read ending left left_now goes whole =
    ap (λ (l : List ℕ). kept ++ l) goes
    ∙ sym (append_assoc kept read left_now)
    ∙ ap (λ (l : List ℕ). l ++ left_now) whole
    ∙ append_assoc line (ending ++ kept_now) left_now
    ∙ ap (λ (l : List ℕ). line ++ l) (append_assoc ending kept_now left_now)

-- one line more was taken
pub taken_more : (told : Option (List ℕ)) (lines : List (List ℕ)) (line kept kept_now : List ℕ) (rest rest_now : Option (List ℕ)) → HasTaken told lines kept rest → IsNextLine line kept kept_now rest rest_now
    → HasTaken told (lines ++ line ∷ []) kept_now rest_now
taken_more None lines line kept kept_now rest rest_now none next = subst (λ (r : Option (List ℕ)). HasRead r next.read rest_now) none next.is_read
taken_more (Some all) lines line kept kept_now rest rest_now taken next =
    let front = subst (λ (r : Option (List ℕ)). HasRead r next.read rest_now) taken.rest_is next.is_read in
    one_more all lines taken.bytes line (kept ++ taken.left) front.behind taken.are taken.whole next.plain next.ending kept_now rest_now front.rest
    (next_behind line kept kept_now next.read next.ending taken.left front.behind front.whole next.whole) next.ends

-- no byte was read
pub taken_still : (told : Option (List ℕ)) (lines : List (List ℕ)) (kept kept_now : List ℕ) (rest rest_now : Option (List ℕ)) → HasTaken told lines kept rest → kept_now ≡ kept → HasRead rest [] rest_now
    → HasTaken told lines kept_now rest_now
taken_still None lines kept kept_now rest rest_now none same read = subst (λ (r : Option (List ℕ)). HasRead r [] rest_now) none read
taken_still (Some all) lines kept kept_now rest rest_now taken same read =
    let front = subst (λ (r : Option (List ℕ)). HasRead r [] rest_now) taken.rest_is read in
    let behind : kept ++ taken.left ≡ kept_now ++ front.behind = ap (λ (l : List ℕ). kept ++ l) front.whole ∙ ap (λ (k : List ℕ). k ++ front.behind) (sym same) in
    record {
      left = front.behind;
      rest_is = front.rest;
      bytes = taken.bytes;
      are = subst (AreTaken lines taken.bytes) behind taken.are;
      whole = taken.whole ∙ ap (λ (b : List ℕ). taken.bytes ++ b) behind;
    }
