-- Laws of the topmost: there is one choice, and it is the topmost.
use Rattle.std.proofs.Common.{◌≡◌, ℕ, zero, suc, ◌<◌, Bool, true, false, not, ◌&&◌, ◌||◌, eqb, Option, Some, None, refl, sym, ap, subst, arith, inl, inr}
use Rattle.std.proofs.lemmas.Bool.{cond_both, cases_eq, cases_Bool, both_ways, and_parts, and_from, or_cases, or_left, or_right, eq-eqb, eqb-true, not_from_false, not-true}
use Rattle.tier_model.specs.Ranks.{IsRanking}
use Rattle.tier_model.specs.Choices.{some_below, all_below, is_topmost, topmost, IsTopmost, Chooses, ChoosesBy, OrAnswers}

-- ---- what the recursions tell

-- a number below n that passes
record IsPassing (n : ℕ) (test : ℕ → Bool) (p : ℕ) : Type 0 where
  within : p < n
  passes : test p ≡ true

passing_more : (n : ℕ) (test : ℕ → Bool) (p : ℕ) → IsPassing n test p → IsPassing (suc n) test p
passing_more n test p is = record { within = let within = is.within in omega arith; passes = is.passes }

some-is : (n : ℕ) (test : ℕ → Bool) (p : ℕ) → some_below n test ≡ Some p → IsPassing n test p
unfolding some_below
some-is zero test p is = absurd (cc)
some-is (suc n) test p is =
    cond_both (test n) (Some n) (some_below n test) (λ (o : Option ℕ). o ≡ Some p → IsPassing (suc n) test p)
    (λ passes here. let same : n ≡ p = cc in record { within = omega arith; passes = subst (λ (k : ℕ). test k ≡ true) same passes })
    (λ fails later. passing_more n test p (some-is n test p later)) is

none-is : (n : ℕ) (test : ℕ → Bool) → some_below n test ≡ None → (p : ℕ) → p < n → test p ≡ false
unfolding some_below
none-is zero test is p within = absurd (omega arith)
none-is (suc n) test is p within =
    cond_both (test n) (Some n) (some_below n test) (λ (o : Option ℕ). o ≡ None → test p ≡ false)
    (λ passes here. absurd (cc))
    (λ fails later. elim (cases_eq p n) [
      | inl same ↦ subst (λ (k : ℕ). test k ≡ false) (sym same) fails
      | inr ne ↦ none-is n test later p (omega arith)
    ]) is

all-at : (n : ℕ) (test : ℕ → Bool) → all_below n test ≡ true → (q : ℕ) → q < n → test q ≡ true
unfolding all_below
all-at zero test all q within = absurd (omega arith)
all-at (suc n) test all q within =
    let parts = and_parts (test n) (all_below n test) all in
    elim (cases_eq q n) [
      | inl same ↦ subst (λ (k : ℕ). test k ≡ true) (sym same) parts.0
      | inr ne ↦ all-at n test parts.1 q (omega arith)
    ]

all-from : (n : ℕ) (test : ℕ → Bool) → ((q : ℕ) → q < n → test q ≡ true) → all_below n test ≡ true
unfolding all_below
all-from zero test each = refl
all-from (suc n) test each = and_from (test n) (all_below n test) (each n (omega arith)) (all-from n test (λ q within. each q (omega arith)))

-- ---- the test of the topmost

topmost-from_test : (n : ℕ) (fits : ℕ → Bool) (above : ℕ → ℕ → Bool) (p : ℕ) → IsPassing n (is_topmost n fits above) p → IsTopmost n fits above p
unfolding is_topmost
topmost-from_test n fits above p is =
    let parts = and_parts (fits p) (all_below n (λ q. not (fits q) || (eqb q p || above p q))) is.passes in
    record {
      within = is.within;
      passes = parts.0;
      beats = λ q within fit ne. elim (or_cases (not (fits q)) (eqb q p || above p q) (all-at n (λ q. not (fits q) || (eqb q p || above p q)) parts.1 q within)) [
        | inl never ↦ absurd (both_ways (fits q) (not-true (fits q) never) fit)
        | inr either ↦ elim (or_cases (eqb q p) (above p q) either) [
          | inl same ↦ absurd (ne (eqb-true q p same))
          | inr beats ↦ beats
        ]
      ];
    }

test-from_topmost : (n : ℕ) (fits : ℕ → Bool) (above : ℕ → ℕ → Bool) (p : ℕ) → IsTopmost n fits above p → is_topmost n fits above p ≡ true
unfolding is_topmost
test-from_topmost n fits above p is =
    and_from (fits p) (all_below n (λ q. not (fits q) || (eqb q p || above p q))) is.passes
    (all-from n (λ q. not (fits q) || (eqb q p || above p q)) (λ q within. elim (cases_Bool (fits q)) [
      | inr never ↦ or_left (not (fits q)) (eqb q p || above p q) (not_from_false (fits q) never)
      | inl fit ↦ or_right (not (fits q)) (eqb q p || above p q) (elim (cases_eq q p) [
        | inl same ↦ or_left (eqb q p) (above p q) (eq-eqb q p same)
        | inr ne ↦ or_right (eqb q p) (above p q) (is.beats q within fit ne)
      ])
    ]))

-- ---- there is one choice

-- two that each beat the other are one
pub one_topmost : (n : ℕ) (fits : ℕ → Bool) (above : ℕ → ℕ → Bool) (p q : ℕ) → IsRanking above → IsTopmost n fits above p → IsTopmost n fits above q → p ≡ q
one_topmost n fits above p q ranking first second =
    elim (cases_eq p q) [
      | inl same ↦ same
      | inr ne ↦ absurd (both_ways (above q p) (ranking.one_way p q (first.beats q second.within second.passes (λ same. ne (sym same)))) (second.beats p first.within first.passes ne))
    ]

is_choice : (n : ℕ) (fits : ℕ → Bool) (above : ℕ → ℕ → Bool) (o found : Option ℕ) → IsRanking above → Chooses n fits above o → some_below n (is_topmost n fits above) ≡ found → o ≡ found
is_choice n fits above None None ranking none is = refl
is_choice n fits above None (Some q) ranking none is =
    let top = topmost-from_test n fits above q (some-is n (is_topmost n fits above) q is) in
    absurd (both_ways (fits q) (none q top.within) top.passes)
is_choice n fits above (Some p) None ranking top is = absurd (both_ways (is_topmost n fits above p) (none-is n (is_topmost n fits above) is p top.within) (test-from_topmost n fits above p top))
is_choice n fits above (Some p) (Some q) ranking top is =
    ap (λ (k : ℕ). Some k) (one_topmost n fits above p q ranking top (topmost-from_test n fits above q (some-is n (is_topmost n fits above) q is)))

pub topmost-is : (n : ℕ) (fits : ℕ → Bool) (above : ℕ → ℕ → Bool) (o : Option ℕ) → IsRanking above → Chooses n fits above o → o ≡ topmost n fits above
unfolding topmost
topmost-is n fits above o ranking chooses = is_choice n fits above o (some_below n (is_topmost n fits above)) ranking chooses refl

-- ---- there is a choice

choice_without : (n : ℕ) (fits : ℕ → Bool) (above : ℕ → ℕ → Bool) (o : Option ℕ) → fits n ≡ false → Chooses n fits above o → Chooses (suc n) fits above o
choice_without n fits above None fails none =
    λ q within. elim (cases_eq q n) [
      | inl same ↦ subst (λ (k : ℕ). fits k ≡ false) (sym same) fails
      | inr ne ↦ none q (omega arith)
    ]
choice_without n fits above (Some p) fails top = record {
  within = let within = top.within in omega arith;
  passes = top.passes;
  beats = λ q within fit ne. elim (cases_eq q n) [
    | inl same ↦ absurd (both_ways (fits n) fails (subst (λ (k : ℕ). fits k ≡ true) same fit))
    | inr other ↦ top.beats q (omega arith) fit ne
  ];
}

-- n more stands above or below the one so far
choice_with : (n : ℕ) (fits : ℕ → Bool) (above : ℕ → ℕ → Bool) (o : Option ℕ) → IsRanking above → fits n ≡ true → Chooses n fits above o → (found : Option ℕ) × Chooses (suc n) fits above found
choice_with n fits above None ranking fit none = (
  Some n,
  record {
    within = omega arith;
    passes = fit;
    beats = λ q within fits_too ne. absurd (both_ways (fits q) (none q (omega arith)) fits_too);
  },
)
choice_with n fits above (Some p) ranking fit top =
    elim (ranking.either p n (let within = top.within in omega arith)) [
      | inl beats ↦ (
        Some p,
        record {
          within = let within = top.within in omega arith;
          passes = top.passes;
          beats = λ q within fits_too ne. elim (cases_eq q n) [
            | inl same ↦ subst (λ (k : ℕ). above p k ≡ true) (sym same) beats
            | inr other ↦ top.beats q (omega arith) fits_too ne
          ];
        },
      )
      | inr beaten ↦ (
        Some n,
        record {
          within = omega arith;
          passes = fit;
          beats = λ q within fits_too ne. elim (cases_eq q p) [
            | inl same ↦ subst (λ (k : ℕ). above n k ≡ true) (sym same) beaten
            | inr other ↦ ranking.chain n p q beaten (top.beats q (omega arith) fits_too other)
          ];
        },
      )
    ]

has_choice : (n : ℕ) (fits : ℕ → Bool) (above : ℕ → ℕ → Bool) → IsRanking above → (found : Option ℕ) × Chooses n fits above found
has_choice zero fits above ranking = (None, λ q within. absurd (omega arith))
has_choice (suc n) fits above ranking =
    let before = has_choice n fits above ranking in
    elim (cases_Bool (fits n)) [
      | inl fit ↦ choice_with n fits above before.0 ranking fit before.1
      | inr fails ↦ (before.0, choice_without n fits above before.0 fails before.1)
    ]

pub topmost-chooses : (n : ℕ) (fits : ℕ → Bool) (above : ℕ → ℕ → Bool) → IsRanking above → Chooses n fits above (topmost n fits above)
topmost-chooses n fits above ranking =
    let choice = has_choice n fits above ranking in
    subst (Chooses n fits above) (topmost-is n fits above choice.0 ranking choice.1) choice.1

-- ---- a choice by a test's answers

-- where the test can answer but one way, the choice by its answers is the choice
pub chooses-by_answers : (n : ℕ) (fits : ℕ → Bool) (answers : ℕ → Bool → Type 0) (above : ℕ → ℕ → Bool) (o : Option ℕ) → ((q : ℕ) (answer : Bool) → q < n → answers q answer → fits q ≡ answer) → ChoosesBy n answers above o → Chooses n fits above o
chooses-by_answers n fits answers above None one chooses = λ q within. one q false within (chooses q within)
chooses-by_answers n fits answers above (Some p) one chooses = record {
  within = chooses.within;
  passes = one p true chooses.within chooses.passes;
  beats = λ q within fit ne. elim (chooses.beats q within ne) [
    | inl refused ↦ absurd (both_ways (fits q) (one q false within refused) fit)
    | inr beats ↦ beats
  ];
}

-- where a test is asked, its answer is that of both tests
pub or_answers-is : (asked test : Bool) (answers : Bool → Type 0) (answer : Bool) → ((b : Bool) → answers b → test ≡ b) → OrAnswers asked answers answer → (asked && test) ≡ answer
or_answers-is true test answers answer one h = one answer h
or_answers-is false test answers answer one h = sym h
