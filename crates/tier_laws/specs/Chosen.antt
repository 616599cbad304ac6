-- What the candidate and the victim are: the tests as facts, and the highest and the lowest of those that pass.
use Rattle.std.proofs.Common.{◌≡◌, ◌≢◌, ℕ, ◌-◌, ◌<◌, ◌≤◌, Bool, true, false, not, ◌&&◌, ◌||◌, leb, ltb, Option, Some, None, subst, inl, inr}
use Rattle.std.proofs.lemmas.Bool.{cases_Bool, both_ways, and_parts, and_from, or_cases, or_left, or_right, not-true, not_from_false, leb-true, le-leb, ltb-true, lt-ltb}
use Rattle.std.proofs.lemmas.Option.{same_Some}
use Rattle.token_words.specs.declared.keeping.TheConstants.{LAST_EPOCH}
use Rattle.tier_model.specs.Places.{is_marked, is_coming}
use Rattle.tier_model.specs.Tiers.{TierState, count, size, kept_wish, is_held, pinned_bytes}
use Rattle.tier_model.specs.Ranks.{outranks, IsRanking}
use Rattle.tier_model.specs.Choices.{topmost, Chooses, ChoosesBy, OrAnswers, Told, is_missing, is_admissible, candidate, may_leave, victim}
use Rattle.tier_laws.specs.RankLaws.{outranks_is_ranking, turned_is_ranking}
use Rattle.tier_laws.specs.TopmostLaws.{topmost-is, topmost-chooses, chooses-by_answers, or_answers-is}

-- ---- the patches that may come

-- the patch is missing and admissible
pub record IsEligible (told : Told) (s : TierState) (p : ℕ) : Type 0 where
  pub wished : 0 < kept_wish s p
  pub not_base : is_marked s.base p ≡ false
  pub not_held : is_held s p ≡ false
  pub not_coming : is_coming s.coming p ≡ false
  pub not_aside : is_marked s.aside p ≡ false
  pub fits : size s p ≤ s.budget - pinned_bytes s
  pub has : told.has p ≡ true
  pub low : told.top ≡ true → told.epochs p < LAST_EPOCH

pub eligible_from_tests : (told : Told) (s : TierState) (p : ℕ) → (is_missing s p && is_admissible told s p) ≡ true → IsEligible told s p
eligible_from_tests told s p h =
    let both = and_parts (is_missing s p) (is_admissible told s p) h in
    let missing = and_parts (ltb 0 (kept_wish s p)) (not (is_marked s.base p) && (not (is_held s p) && (not (is_coming s.coming p) && not (is_marked s.aside p)))) both.0 in
    let apart = and_parts (not (is_marked s.base p)) (not (is_held s p) && (not (is_coming s.coming p) && not (is_marked s.aside p))) missing.1 in
    let away = and_parts (not (is_held s p)) (not (is_coming s.coming p) && not (is_marked s.aside p)) apart.1 in
    let idle = and_parts (not (is_coming s.coming p)) (not (is_marked s.aside p)) away.1 in
    let small = and_parts (leb (size s p) (s.budget - pinned_bytes s)) (told.has p && (not told.top || ltb (told.epochs p) LAST_EPOCH)) both.1 in
    let there = and_parts (told.has p) (not told.top || ltb (told.epochs p) LAST_EPOCH) small.1 in
    record {
      wished = ltb-true 0 (kept_wish s p) missing.0;
      not_base = not-true (is_marked s.base p) apart.0;
      not_held = not-true (is_held s p) away.0;
      not_coming = not-true (is_coming s.coming p) idle.0;
      not_aside = not-true (is_marked s.aside p) idle.1;
      fits = leb-true (size s p) (s.budget - pinned_bytes s) small.0;
      has = there.0;
      low = λ top. elim (or_cases (not told.top) (ltb (told.epochs p) LAST_EPOCH) there.1) [
        | inl lower ↦ absurd (both_ways told.top (not-true told.top lower) top)
        | inr low ↦ ltb-true (told.epochs p) LAST_EPOCH low
      ];
    }

pub tests_from_eligible : (told : Told) (s : TierState) (p : ℕ) → IsEligible told s p → (is_missing s p && is_admissible told s p) ≡ true
tests_from_eligible told s p is =
    and_from (is_missing s p) (is_admissible told s p)
    (and_from (ltb 0 (kept_wish s p)) (not (is_marked s.base p) && (not (is_held s p) && (not (is_coming s.coming p) && not (is_marked s.aside p)))) (lt-ltb 0 (kept_wish s p) is.wished)
    (and_from (not (is_marked s.base p)) (not (is_held s p) && (not (is_coming s.coming p) && not (is_marked s.aside p))) (not_from_false (is_marked s.base p) is.not_base)
    (and_from (not (is_held s p)) (not (is_coming s.coming p) && not (is_marked s.aside p)) (not_from_false (is_held s p) is.not_held)
    (and_from (not (is_coming s.coming p)) (not (is_marked s.aside p)) (not_from_false (is_coming s.coming p) is.not_coming) (not_from_false (is_marked s.aside p) is.not_aside)))))
    (and_from (leb (size s p) (s.budget - pinned_bytes s)) (told.has p && (not told.top || ltb (told.epochs p) LAST_EPOCH)) (le-leb (size s p) (s.budget - pinned_bytes s) is.fits)
    (and_from (told.has p) (not told.top || ltb (told.epochs p) LAST_EPOCH) is.has
    (elim (cases_Bool told.top) [
      | inr lower ↦ or_left (not told.top) (ltb (told.epochs p) LAST_EPOCH) (not_from_false told.top lower)
      | inl top ↦ or_right (not told.top) (ltb (told.epochs p) LAST_EPOCH) (lt-ltb (told.epochs p) LAST_EPOCH (is.low top))
    ])))

-- the patch is eligible, and outranks every other that is
pub record IsCandidate (told : Told) (s : TierState) (p : ℕ) : Type 0 where
  pub within : p < count s
  pub eligible : IsEligible told s p
  pub highest : (q : ℕ) → q < count s → IsEligible told s q → q ≢ p → outranks (kept_wish s) p q ≡ true

abbrev is_eligible : Told → TierState → ℕ → Bool
is_eligible told s p = is_missing s p && is_admissible told s p

-- a choice by the tests is the candidate
pub candidate-is : (told : Told) (s : TierState) (o : Option ℕ) → Chooses (count s) (λ p. is_missing s p && is_admissible told s p) (outranks (kept_wish s)) o → o ≡ candidate told s
unfolding candidate
candidate-is told s o chooses = topmost-is (count s) (is_eligible told s) (outranks (kept_wish s)) o (outranks_is_ranking (kept_wish s)) chooses

-- a choice by a test's answers is the candidate, where each answer tells whether the patch is admissible
pub candidate-by_answers : (told : Told) (s : TierState) (answers : ℕ → Bool → Type 0) (o : Option ℕ) → ((p : ℕ) (answer : Bool) → p < count s → answers p answer → is_admissible told s p ≡ answer) → ChoosesBy (count s) (λ p answer. OrAnswers (is_missing s p) (answers p) answer) (outranks (kept_wish s)) o → o ≡ candidate told s
candidate-by_answers told s answers o tells chooses =
    candidate-is told s o (chooses-by_answers (count s) (is_eligible told s) (λ p answer. OrAnswers (is_missing s p) (answers p) answer) (outranks (kept_wish s)) o
    (λ p answer within answered. or_answers-is (is_missing s p) (is_admissible told s p) (answers p) answer (λ b h. tells p b within h) answered) chooses)

candidate_from : (told : Told) (s : TierState) (o : Option ℕ) (p : ℕ) → Chooses (count s) (is_eligible told s) (outranks (kept_wish s)) o → o ≡ Some p → IsCandidate told s p
candidate_from told s None p chooses is = absurd (cc)
candidate_from told s (Some q) p chooses is =
    subst (IsCandidate told s) (same_Some q p is) (record {
      within = chooses.within;
      eligible = eligible_from_tests told s q chooses.passes;
      highest = λ r within eligible ne. chooses.beats r within (tests_from_eligible told s r eligible) ne;
    })

pub candidate_is_highest : (told : Told) (s : TierState) (p : ℕ) → candidate told s ≡ Some p → IsCandidate told s p
unfolding candidate
candidate_is_highest told s p is =
    candidate_from told s (topmost (count s) (is_eligible told s) (outranks (kept_wish s))) p
    (topmost-chooses (count s) (is_eligible told s) (outranks (kept_wish s)) (outranks_is_ranking (kept_wish s))) is

none_from : (told : Told) (s : TierState) (o : Option ℕ) (p : ℕ) → Chooses (count s) (is_eligible told s) (outranks (kept_wish s)) o → o ≡ None → p < count s → IsEligible told s p → ⊥
none_from told s None p chooses is within eligible = both_ways (is_eligible told s p) (chooses p within) (tests_from_eligible told s p eligible)
none_from told s (Some q) p chooses is within eligible = absurd (cc)

-- without a candidate no patch is eligible
pub no_candidate : (told : Told) (s : TierState) (p : ℕ) → candidate told s ≡ None → p < count s → IsEligible told s p → ⊥
unfolding candidate
no_candidate told s p is =
    none_from told s (topmost (count s) (is_eligible told s) (outranks (kept_wish s))) p
    (topmost-chooses (count s) (is_eligible told s) (outranks (kept_wish s)) (outranks_is_ranking (kept_wish s))) is

-- ---- the patches that may leave

-- the patch is held, neither pinned nor passed, and ranks below the candidate
pub record MayLeave (s : TierState) (c p : ℕ) : Type 0 where
  pub held : is_held s p ≡ true
  pub not_pinned : is_marked s.pinned p ≡ false
  pub not_passed : is_marked s.passed p ≡ false
  pub below : outranks (kept_wish s) c p ≡ true

pub may_leave_from_tests : (s : TierState) (c p : ℕ) → may_leave s c p ≡ true → MayLeave s c p
may_leave_from_tests s c p h =
    let held = and_parts (is_held s p) (not (is_marked s.pinned p) && (not (is_marked s.passed p) && outranks (kept_wish s) c p)) h in
    let free = and_parts (not (is_marked s.pinned p)) (not (is_marked s.passed p) && outranks (kept_wish s) c p) held.1 in
    let below = and_parts (not (is_marked s.passed p)) (outranks (kept_wish s) c p) free.1 in
    record { held = held.0; not_pinned = not-true (is_marked s.pinned p) free.0; not_passed = not-true (is_marked s.passed p) below.0; below = below.1 }

pub tests_from_may_leave : (s : TierState) (c p : ℕ) → MayLeave s c p → may_leave s c p ≡ true
tests_from_may_leave s c p may =
    and_from (is_held s p) (not (is_marked s.pinned p) && (not (is_marked s.passed p) && outranks (kept_wish s) c p)) may.held
    (and_from (not (is_marked s.pinned p)) (not (is_marked s.passed p) && outranks (kept_wish s) c p) (not_from_false (is_marked s.pinned p) may.not_pinned)
    (and_from (not (is_marked s.passed p)) (outranks (kept_wish s) c p) (not_from_false (is_marked s.passed p) may.not_passed) may.below))

-- the patch may leave, and every other that may outranks it
pub record IsVictim (s : TierState) (c v : ℕ) : Type 0 where
  pub within : v < count s
  pub may : MayLeave s c v
  pub lowest : (q : ℕ) → q < count s → MayLeave s c q → q ≢ v → outranks (kept_wish s) q v ≡ true

abbrev below : TierState → ℕ → ℕ → Bool
below s p q = outranks (kept_wish s) q p

below_is_ranking : (s : TierState) → IsRanking (below s)
below_is_ranking s = turned_is_ranking (outranks (kept_wish s)) (outranks_is_ranking (kept_wish s))

-- a choice by the tests is the victim
pub victim-is : (s : TierState) (c : ℕ) (o : Option ℕ) → Chooses (count s) (may_leave s c) (λ p q. outranks (kept_wish s) q p) o → o ≡ victim s c
unfolding victim
victim-is s c o chooses = topmost-is (count s) (may_leave s c) (below s) o (below_is_ranking s) chooses

victim_from : (s : TierState) (c : ℕ) (o : Option ℕ) (v : ℕ) → Chooses (count s) (may_leave s c) (below s) o → o ≡ Some v → IsVictim s c v
victim_from s c None v chooses is = absurd (cc)
victim_from s c (Some q) v chooses is =
    subst (IsVictim s c) (same_Some q v is) (record {
      within = chooses.within;
      may = may_leave_from_tests s c q chooses.passes;
      lowest = λ r within may ne. chooses.beats r within (tests_from_may_leave s c r may) ne;
    })

pub victim_is_lowest : (s : TierState) (c v : ℕ) → victim s c ≡ Some v → IsVictim s c v
unfolding victim
victim_is_lowest s c v is =
    victim_from s c (topmost (count s) (may_leave s c) (below s)) v (topmost-chooses (count s) (may_leave s c) (below s) (below_is_ranking s)) is

stays_from : (s : TierState) (c : ℕ) (o : Option ℕ) (p : ℕ) → Chooses (count s) (may_leave s c) (below s) o → o ≡ None → p < count s → MayLeave s c p → ⊥
stays_from s c None p chooses is within may = both_ways (may_leave s c p) (chooses p within) (tests_from_may_leave s c p may)
stays_from s c (Some q) p chooses is within may = absurd (cc)

-- without a victim no patch may leave
pub no_victim : (s : TierState) (c p : ℕ) → victim s c ≡ None → p < count s → MayLeave s c p → ⊥
unfolding victim
no_victim s c p is =
    stays_from s c (topmost (count s) (may_leave s c) (below s)) p (topmost-chooses (count s) (may_leave s c) (below s) (below_is_ranking s)) is
