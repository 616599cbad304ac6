-- Laws of weights: where one falls and the others stay, the sum falls.
use Rattle.std.proofs.Common.{◌≡◌, ◌≢◌, ℕ, zero, suc, ◌+◌, ◌*◌, ◌<◌, ◌≤◌, Bool, true, false, refl, sym, ap, ap₂, subst, ◌∙◌, arith, mul-suc, inl, inr}
use Rattle.std.proofs.lemmas.Bool.{cases_eq}
use Rattle.tier_model.specs.Places.{is_coming, is_full}
use Rattle.tier_model.specs.Tiers.{TierState, count, is_held}
use Rattle.tier_model.specs.Choices.{Told}
use Rattle.settling_laws.specs.Stages.{Stage, Fixed, Free, Full, Bare, Away, stage_by, is_fixed, stage, weight_at, sum_below, weights}
use Rattle.settling_laws.specs.Underway.{AreSpentAbove, IsUnderway}

-- ---- sums

sum_same : (n : ℕ) (f g : ℕ → ℕ) → ((q : ℕ) → q < n → g q ≡ f q) → sum_below n g ≡ sum_below n f
unfolding sum_below
sum_same zero f g same = refl
sum_same (suc n) f g same = ap₂ (λ (a b : ℕ). a + b) (same n (omega arith)) (sum_same n f g (λ q within. same q (omega arith)))

-- one value falls, and the others stay
sum_falls : (n c : ℕ) (f g : ℕ → ℕ) → c < n → ((q : ℕ) → q ≢ c → g q ≡ f q) → g c + 1 ≤ f c → sum_below n g + 1 ≤ sum_below n f
unfolding sum_below
sum_falls zero c f g within same falls = absurd (omega arith)
sum_falls (suc n) c f g within same falls =
    elim (cases_eq c n) [
      | inl is ↦
          let rest = sum_same n f g (λ q below. same q (λ equal. omega arith)) in
          let here = subst (λ (k : ℕ). g k + 1 ≤ f k) is falls in
          omega arith
      | inr ne ↦
          let rest = sum_falls n c f g (omega arith) same falls in
          let here = same n (λ equal. ne (sym equal)) in
          omega arith
    ]

sum_at_most : (n most : ℕ) (f : ℕ → ℕ) → ((q : ℕ) → f q ≤ most) → sum_below n f ≤ most * n
unfolding sum_below
sum_at_most zero most f each = omega arith
sum_at_most (suc n) most f each =
    let here = each n in
    let rest = sum_at_most n most f each in
    let more = mul-suc most n in
    omega arith

at_most_six : (b : Bool) (at : Stage) → weight_at b at ≤ 6
unfolding weight_at
at_most_six false Fixed = omega arith
at_most_six false Free = omega arith
at_most_six false Full = omega arith
at_most_six false Bare = omega arith
at_most_six false Away = omega arith
at_most_six true Fixed = omega arith
at_most_six true Free = omega arith
at_most_six true Full = omega arith
at_most_six true Bare = omega arith
at_most_six true Away = omega arith

pub weights_at_most : (spent : ℕ → Bool) (s : TierState) → weights spent s ≤ 6 * count s
unfolding weights
weights_at_most spent s = sum_at_most (count s) 6 (λ p. weight_at (spent p) (stage s p)) (λ q. at_most_six (spent q) (stage s q))

-- ---- stages

-- the stage by what holds of the patch
pub stage_is : (s : TierState) (p : ℕ) (held fixed coming full : Bool) → is_held s p ≡ held → is_fixed s p ≡ fixed → is_coming s.coming p ≡ coming → is_full s.coming p ≡ full → stage s p ≡ stage_by held fixed coming full
unfolding stage
stage_is s p held fixed coming full a b c d =
    ap (λ (x : Bool). stage_by x (is_fixed s p) (is_coming s.coming p) (is_full s.coming p)) a
    ∙ ap (λ (x : Bool). stage_by held x (is_coming s.coming p) (is_full s.coming p)) b
    ∙ ap (λ (x : Bool). stage_by held fixed x (is_full s.coming p)) c
    ∙ ap (λ (x : Bool). stage_by held fixed coming x) d

pub stage_same : (s t : TierState) (p : ℕ) → is_held t p ≡ is_held s p → is_fixed t p ≡ is_fixed s p → is_coming t.coming p ≡ is_coming s.coming p → is_full t.coming p ≡ is_full s.coming p → stage t p ≡ stage s p
unfolding stage
stage_same s t p a b c d = stage_is t p (is_held s p) (is_fixed s p) (is_coming s.coming p) (is_full s.coming p) a b c d

-- ---- what a turn takes off

pub away_to_bare : (b : Bool) → b ≡ false → weight_at true Bare + 1 ≤ weight_at b Away
unfolding weight_at
away_to_bare b unspent = subst (λ (x : Bool). weight_at true Bare + 1 ≤ weight_at x Away) (sym unspent) (omega arith)

pub bare_to_full : (b : Bool) → weight_at b Full + 1 ≤ weight_at b Bare
unfolding weight_at
bare_to_full true = omega arith
bare_to_full false = omega arith

pub bare_to_away : (b : Bool) → weight_at b Away + 1 ≤ weight_at b Bare
unfolding weight_at
bare_to_away true = omega arith
bare_to_away false = omega arith

pub full_to_held : (b fixed : Bool) → weight_at b (stage_by true fixed false false) + 1 ≤ weight_at b Full
unfolding weight_at stage_by
full_to_held true true = omega arith
full_to_held true false = omega arith
full_to_held false true = omega arith
full_to_held false false = omega arith

pub free_to_away : (b : Bool) → b ≡ false → weight_at b Away + 1 ≤ weight_at b Free
unfolding weight_at
free_to_away b unspent = subst (λ (x : Bool). weight_at x Away + 1 ≤ weight_at x Free) (sym unspent) (omega arith)

pub free_to_fixed : (b : Bool) → b ≡ false → weight_at b Fixed + 1 ≤ weight_at b Free
unfolding weight_at
free_to_fixed b unspent = subst (λ (x : Bool). weight_at x Fixed + 1 ≤ weight_at x Free) (sym unspent) (omega arith)

-- ---- one turn more

-- the weight of one patch falls, and those of the others stay
pub underway-step : (told : Told) (s t : TierState) (spent later : ℕ → Bool) (turns p : ℕ) → count t ≡ count s → p < count s → AreSpentAbove told t later → ((q : ℕ) → q ≢ p → weight_at (later q) (stage t q) ≡ weight_at (spent q) (stage s q)) → weight_at (later p) (stage t p) + 1 ≤ weight_at (spent p) (stage s p) → weights spent s + turns ≤ 6 * count s → IsUnderway told t (turns + 1)
unfolding weights
underway-step told s t spent later turns p many within above others falls bound = record {
  spent = later;
  above = above;
  bound =
      let sum = sum_falls (count s) p (λ q. weight_at (spent q) (stage s q)) (λ q. weight_at (later q) (stage t q)) within others falls in
      let same : sum_below (count t) (λ q. weight_at (later q) (stage t q)) ≡ sum_below (count s) (λ q. weight_at (later q) (stage t q)) = ap (λ (n : ℕ). sum_below n (λ q. weight_at (later q) (stage t q))) many in
      omega arith;
}
