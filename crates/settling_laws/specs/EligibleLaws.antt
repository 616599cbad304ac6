-- Which patches are eligible after a change of a tier.
use Rattle.std.proofs.Common.{◌≡◌, ◌≢◌, ℕ, Bool, true, false, List, [], None, is_some, refl, sym, ap, subst, ◌∙◌, arith}
use Rattle.std.specs.Prelude.{slice_index_or}
use Rattle.std.proofs.lemmas.Bool.{both_ways}
use Rattle.std.proofs.lemmas.List.{get_or-set_other}
use Rattle.file_model.specs.Lists.{SeenBody}
use Rattle.tier_model.specs.declared.turns.Abort.{Abort}
use Rattle.tier_model.specs.declared.turns.Abort.TheVariants as reasons
use Rattle.tier_model.specs.Places.{is_marked, is_coming}
use Rattle.tier_model.specs.Tiers.{TierState}
use Rattle.tier_model.specs.Changes.{reserved, arrived, aside_after, aborted, committed, dropped, passed_over}
use Rattle.tier_model.specs.Choices.{Told}
use Rattle.tier_laws.specs.ComingLaws.{reserved_comes, reserved_others, arrived_comes, gone_others}
use Rattle.tier_laws.specs.Chosen.{IsEligible}

-- ---- a patch that is eligible after a change

pub eligible-reserved : (told : Told) (s : TierState) (c q : ℕ) → IsEligible told (reserved s c) q → (q ≢ c) × IsEligible told s q
unfolding reserved
eligible-reserved told s c q is =
    let ne : q ≢ c = λ same. both_ways (is_coming (reserved s c).coming q) is.not_coming (subst (λ (n : ℕ). is_coming (reserved s c).coming n ≡ true) (sym same) (reserved_comes s.coming c)) in (
      ne,
      record {
        wished = is.wished;
        not_base = is.not_base;
        not_held = is.not_held;
        not_coming = sym (reserved_others s.coming c q ne) ∙ is.not_coming;
        not_aside = is.not_aside;
        fits = is.fits;
        has = is.has;
        low = is.low;
      },
    )

pub eligible-arrived : (told : Told) (s : TierState) (p : ℕ) (body : SeenBody) (q : ℕ) → IsEligible told (arrived s p body) q → IsEligible told s q
unfolding arrived
eligible-arrived told s p body q is = record {
  wished = is.wished;
  not_base = is.not_base;
  not_held = is.not_held;
  not_coming = sym (arrived_comes p s.coming q) ∙ is.not_coming;
  not_aside = is.not_aside;
  fits = is.fits;
  has = is.has;
  low = is.low;
}

aside_other : (aside : List Bool) (p : ℕ) (why : Abort) (q : ℕ) → q ≢ p → is_marked (aside_after aside p why) q ≡ is_marked aside q
unfolding aside_after
aside_other aside p reasons.Lost q ne = refl
aside_other aside p reasons.Fault q ne = get_or-set_other aside p q true false ne
aside_other aside p (reasons.Changed fault) q ne = get_or-set_other aside p q true false ne

pub eligible-aborted : (told : Told) (s : TierState) (p : ℕ) (why : Abort) (q : ℕ) → q ≢ p → IsEligible told (aborted s p why) q → IsEligible told s q
unfolding aborted
eligible-aborted told s p why q ne is = record {
  wished = is.wished;
  not_base = is.not_base;
  not_held = is.not_held;
  not_coming = sym (gone_others p s.coming q ne) ∙ is.not_coming;
  not_aside = sym (aside_other s.aside p why q ne) ∙ is.not_aside;
  fits = is.fits;
  has = is.has;
  low = is.low;
}

pub eligible-committed : (told : Told) (s : TierState) (p q : ℕ) → q ≢ p → IsEligible told (committed s p) q → IsEligible told s q
unfolding committed
eligible-committed told s p q ne is = record {
  wished = is.wished;
  not_base = is.not_base;
  not_held = sym (ap (λ o. is_some o) (get_or-set_other s.held p q (slice_index_or s.came p None) None ne)) ∙ is.not_held;
  not_coming = sym (gone_others p s.coming q ne) ∙ is.not_coming;
  not_aside = is.not_aside;
  fits = is.fits;
  has = is.has;
  low = is.low;
}

pub eligible-dropped : (told : Told) (s : TierState) (v q : ℕ) → q ≢ v → IsEligible told (dropped s v) q → IsEligible told s q
unfolding dropped
eligible-dropped told s v q ne is = record {
  wished = is.wished;
  not_base = is.not_base;
  not_held = sym (ap (λ o. is_some o) (get_or-set_other s.held v q None None ne)) ∙ is.not_held;
  not_coming = is.not_coming;
  not_aside = is.not_aside;
  fits = is.fits;
  has = is.has;
  low = is.low;
}

pub eligible-passed_over : (told : Told) (s : TierState) (v q : ℕ) → IsEligible told (passed_over s v) q → IsEligible told s q
unfolding passed_over
eligible-passed_over told s v q is = record {
  wished = is.wished;
  not_base = is.not_base;
  not_held = is.not_held;
  not_coming = is.not_coming;
  not_aside = is.not_aside;
  fits = is.fits;
  has = is.has;
  low = is.low;
}
