-- Each turn that goes well leaves a settling that goes well.
use Rattle.std.proofs.Common.{◌≡◌, ◌≢◌, ℕ, suc, ◌+◌, ◌<◌, ◌≤◌, Bool, true, false, ◌||◌, List, None, is_some, refl, sym, ap, ap₂, subst, ◌∙◌, arith, inl, inr}
use Rattle.std.specs.Prelude.{slice_index_or}
use Rattle.std.proofs.lemmas.Bool.{cases_eq, both_ways, or_left, or_right, false_from_ne_true, false≢true}
use Rattle.std.proofs.lemmas.List.{get_or-set_same, get_or-set_other}
use Rattle.token_words.specs.declared.keeping.TheConstants.{LAST_EPOCH}
use Rattle.file_model.specs.Lists.{SeenBody}
use Rattle.tier_model.specs.declared.turns.Abort.TheVariants as reasons
use Rattle.tier_model.specs.declared.turns.Coming.{Coming}
use Rattle.tier_model.specs.declared.turns.Turn.{Turn}
use Rattle.tier_model.specs.declared.turns.Turn.TheVariants.{Reserve, Evict, Kept, Got, Lost, Commit, Idle}
use Rattle.tier_model.specs.Places.{is_marked, is_coming, without}
use Rattle.tier_model.specs.Tiers.{TierState, count, is_held, IsTier}
use Rattle.tier_model.specs.Changes.{reserved, arrived, aside_after, aborted, committed, dropped, passed_over}
use Rattle.tier_model.specs.Ties.{risen, epochs_after}
use Rattle.tier_model.specs.Choices.{Told}
use Rattle.tier_model.specs.Turns.{Outcome}
use Rattle.tier_laws.specs.ComingLaws.{reserved_comes, reserved_others, arrived_comes, gone_comes, gone_others, gone_came}
use Rattle.tier_laws.specs.TieLaws.{risen_here, risen_other, epochs_rise}
use Rattle.tier_laws.specs.Follows.{Enters, Leaves, Follows, Reserves, Gets, Loses, Fails, Breaks, Commits, Evicts, Keeps, Rests}
use Rattle.settling_laws.specs.Underway.{IsLater, AreSpentAbove}
use Rattle.settling_laws.specs.FewTurns.{eligible_before}
use Rattle.settling_laws.specs.ChangeLaws.{spent_with, spent_here, spent_other, above-reserved, above-arrived, above-aborted, above-committed, above-dropped, above-passed_over, lost_is_never, victim_unspent, nothing_there, IsReady, ready_from, held-committed}
use Rattle.detail_laws.specs.Needs.{KeepsBase, IsCalm, GoesWell}
use Rattle.detail_laws.specs.Gathers.{rises_by, rises, is_there, Gathers, IsThen}

-- ---- what is common to all turns

later_from_then : (told later : Told) (answer : Turn) → IsThen told later answer → IsLater told later
later_from_then told later answer is = record {
  has = is.has;
  top = is.top;
  epochs = λ top p. let rise = epochs_rise answer told.epochs p in let same = is.epochs top p in omega arith;
}

-- what has to be shown of a turn that leaves tier t with these patches spent
record Leads (told : Told) (answer : Turn) (t : TierState) (used spent : ℕ → Bool) : Type 0 where
  above : AreSpentAbove told t spent
  there : (p : ℕ) → spent p ≡ true → (told.has p ≡ true) × (is_there t p ≡ true)
  low : told.top ≡ true → (p : ℕ) → p < count t → spent p ≡ false → epochs_after answer told.epochs p + rises t p < LAST_EPOCH
  keeps_base : KeepsBase t
  calm : IsCalm used t

gathers_then : (told later : Told) (answer : Turn) (t : TierState) (used spent : ℕ → Bool) → IsThen told later answer → Leads told answer t used spent → Gathers later t used spent
gathers_then told later answer t used spent is leads = record {
  above = λ p q marked within eligible. leads.above p q marked within (eligible_before told later t q (later_from_then told later answer is) eligible);
  there = λ p marked. (is.has p ∙ (leads.there p marked).0, (leads.there p marked).1);
  low = λ top p within unspent.
      let was : told.top ≡ true = sym is.top ∙ top in
      subst (λ (n : ℕ). n + rises t p < LAST_EPOCH) (sym (is.epochs was p)) (leads.low was p within unspent);
  keeps_base = leads.keeps_base;
  calm = leads.calm;
}

there_same : (s t : TierState) (q : ℕ) → is_held t q ≡ is_held s q → is_coming t.coming q ≡ is_coming s.coming q → is_there t q ≡ is_there s q
there_same s t q held coming = ap₂ (λ (a b : Bool). a || b) held coming

rises_same : (s t : TierState) (q : ℕ) → is_held t q ≡ is_held s q → is_coming t.coming q ≡ is_coming s.coming q → rises t q ≡ rises s q
rises_same s t q held coming = ap₂ rises_by held coming

rises_are : (s : TierState) (q : ℕ) (held coming : Bool) → is_held s q ≡ held → is_coming s.coming q ≡ coming → rises s q ≡ rises_by held coming
rises_are s q held coming a b = ap₂ rises_by a b

-- the bound stays where epoch and rises together don't grow
stays_low : (told : Told) (answer : Turn) (s t : TierState) (q : ℕ) → epochs_after answer told.epochs q + rises t q ≤ told.epochs q + rises s q → told.epochs q + rises s q < LAST_EPOCH → epochs_after answer told.epochs q + rises t q < LAST_EPOCH
stays_low told answer s t q less low = omega arith

-- ---- the candidate comes

pub base-reserved : (told : Told) (s : TierState) (c : ℕ) → Enters told s c → KeepsBase s → KeepsBase (reserved s c)
unfolding reserved
base-reserved told s c enters keeps = record {
  pins = keeps.pins;
  held = keeps.held;
  coming = λ q base. reserved_others s.coming c q (λ same. both_ways (is_marked s.base q) (subst (λ (n : ℕ). is_marked s.base n ≡ false) (sym same) enters.is_candidate.eligible.not_base) base) ∙ keeps.coming q base;
}

there-reserved : (s : TierState) (c q : ℕ) → (q ≡ c → ⊥) → is_there (reserved s c) q ≡ is_there s q
unfolding reserved
there-reserved s c q ne = there_same s (reserved s c) q refl (reserved_others s.coming c q ne)

there-reserved_here : (s : TierState) (c : ℕ) → is_there (reserved s c) c ≡ true
unfolding reserved
there-reserved_here s c = or_right (is_held s c) (is_coming (reserved s c).coming c) (reserved_comes s.coming c)

low-reserved : (told : Told) (s : TierState) (c q : ℕ) → q ≢ c → epochs_after (Reserve c) told.epochs q + rises (reserved s c) q ≤ told.epochs q + rises s q
unfolding reserved epochs_after
low-reserved told s c q ne = let same = rises_same s (reserved s c) q refl (reserved_others s.coming c q ne) in omega arith

calm-reserved : (used : ℕ → Bool) (s : TierState) (c : ℕ) → IsCalm used s → IsCalm used (reserved s c)
unfolding reserved
calm-reserved used s c calm = record { none_aside = calm.none_aside; passed = calm.passed }

count-reserved : (s : TierState) (c : ℕ) → count (reserved s c) ≡ count s
unfolding reserved
count-reserved s c = refl

-- what is unspent behind the reservation is another patch, and was unspent before
unspent_before : (c : ℕ) (spent : ℕ → Bool) (q : ℕ) → spent_with c spent q ≡ false → (q ≢ c) × (spent q ≡ false)
unspent_before c spent q unspent =
    let ne : q ≢ c = λ same. both_ways (spent_with c spent q) unspent (subst (λ (n : ℕ). spent_with c spent n ≡ true) (sym same) (spent_here c spent)) in
    (ne, sym (spent_other c spent q ne) ∙ unspent)

leads-reserved : (told : Told) (s : TierState) (used spent : ℕ → Bool) (c : ℕ) → Enters told s c → Gathers told s used spent → Leads told (Reserve c) (reserved s c) used (spent_with c spent)
leads-reserved told s used spent c enters gathers = record {
  above = above-reserved told s spent c enters gathers.above;
  there = λ q marked. elim (cases_eq q c) [
    | inl same ↦ (subst (λ (n : ℕ). told.has n ≡ true) (sym same) enters.is_candidate.eligible.has, subst (λ (n : ℕ). is_there (reserved s c) n ≡ true) (sym same) (there-reserved_here s c))
    | inr ne ↦
        let before = gathers.there q (sym (spent_other c spent q ne) ∙ marked) in
        (before.0, there-reserved s c q ne ∙ before.1)
  ];
  low = λ top q within unspent.
      let before = unspent_before c spent q unspent in
      stays_low told (Reserve c) s (reserved s c) q (low-reserved told s c q before.0) (gathers.low top q (subst (λ (n : ℕ). q < n) (count-reserved s c) within) before.1);
  keeps_base = base-reserved told s c enters gathers.keeps_base;
  calm = calm-reserved used s c gathers.calm;
}

-- ---- its body comes

leads-arrived : (told : Told) (s : TierState) (used spent : ℕ → Bool) (p : ℕ) (body : SeenBody) → Gathers told s used spent → Leads told (Got p) (arrived s p body) used spent
unfolding arrived epochs_after
leads-arrived told s used spent p body gathers = record {
  above = above-arrived told s spent p body gathers.above;
  there = λ q marked. let before = gathers.there q marked in (before.0, there_same s (arrived s p body) q refl (arrived_comes p s.coming q) ∙ before.1);
  low = λ top q within unspent.
      let same = rises_same s (arrived s p body) q refl (arrived_comes p s.coming q) in
      let low = gathers.low top q within unspent in
      omega arith;
  keeps_base = record { pins = gathers.keeps_base.pins; held = gathers.keeps_base.held; coming = λ q base. arrived_comes p s.coming q ∙ gathers.keeps_base.coming q base };
  calm = record { none_aside = gathers.calm.none_aside; passed = gathers.calm.passed };
}

-- ---- the tier below hasn't the patch

rises_fall : (held a b : Bool) → (a ≡ true → b ≡ true) → rises_by held a ≤ rises_by held b
unfolding rises_by
rises_fall true a b came = omega arith
rises_fall false true true came = omega arith
rises_fall false true false came = absurd (false≢true (came refl))
rises_fall false false true came = omega arith
rises_fall false false false came = omega arith

pub gone_stays_away : (p : ℕ) (cs : List Coming) (q : ℕ) → is_coming cs q ≡ false → is_coming (without p cs) q ≡ false
gone_stays_away p cs q away = false_from_ne_true (is_coming (without p cs) q) (λ comes. both_ways (is_coming cs q) away (gone_came p cs q comes))

leads-lost : (told : Told) (s : TierState) (used spent : ℕ → Bool) (p : ℕ) → told.has p ≡ false → Gathers told s used spent → Leads told (Lost p) (aborted s p reasons.Lost) used spent
unfolding aborted aside_after epochs_after
leads-lost told s used spent p has gathers = record {
  above = above-aborted told s spent p reasons.Lost (lost_is_never told s p has) gathers.above;
  there = λ q marked.
      let before = gathers.there q marked in
      let ne : q ≢ p = λ same. both_ways (told.has q) (subst (λ (n : ℕ). told.has n ≡ false) (sym same) has) before.0 in
      (before.0, there_same s (aborted s p reasons.Lost) q refl (gone_others p s.coming q ne) ∙ before.1);
  low = λ top q within unspent.
      let fall = rises_fall (is_held s q) (is_coming (without p s.coming) q) (is_coming s.coming q) (gone_came p s.coming q) in
      let low = gathers.low top q within unspent in
      omega arith;
  keeps_base = record { pins = gathers.keeps_base.pins; held = gathers.keeps_base.held; coming = λ q base. gone_stays_away p s.coming q (gathers.keeps_base.coming q base) };
  calm = record { none_aside = gathers.calm.none_aside; passed = gathers.calm.passed };
}

-- ---- it is held

held-committed_other : (s : TierState) (p q : ℕ) → q ≢ p → is_held (committed s p) q ≡ is_held s q
unfolding committed
held-committed_other s p q ne = ap (λ o. is_some o) (get_or-set_other s.held p q (slice_index_or s.came p None) None ne)

there-committed : (s : TierState) (p q : ℕ) → IsTier s → IsReady s p → is_there s q ≡ true → is_there (committed s p) q ≡ true
unfolding committed
there-committed s p q tier ready there =
    elim (cases_eq q p) [
      | inl same ↦ subst (λ (n : ℕ). is_there (committed s p) n ≡ true) (sym same) (or_left (is_held (committed s p) p) (is_coming (committed s p).coming p) (held-committed s p tier ready))
      | inr ne ↦ there_same s (committed s p) q (held-committed_other s p q ne) (gone_others p s.coming q ne) ∙ there
    ]

low-committed : (told : Told) (s : TierState) (p q : ℕ) → IsTier s → IsReady s p → epochs_after (Commit p) told.epochs q + rises (committed s p) q ≤ told.epochs q + rises s q
unfolding committed epochs_after rises_by
low-committed told s p q tier ready =
    elim (cases_eq q p) [
      | inl same ↦ subst (λ (n : ℕ). risen p told.epochs n + rises (committed s p) n ≤ told.epochs n + rises s n) (sym same)
          (let after = rises_are (committed s p) p true false (held-committed s p tier ready) (gone_comes p s.coming) in
          let before = rises_are s p false true ready.away ready.comes in
          let here = risen_here p told.epochs in
          omega arith)
      | inr ne ↦
          let same = rises_same s (committed s p) q (held-committed_other s p q ne) (gone_others p s.coming q ne) in
          let other = risen_other p told.epochs q ne in
          omega arith
    ]

pub base-committed : (s : TierState) (p : ℕ) → IsReady s p → KeepsBase s → KeepsBase (committed s p)
unfolding committed
base-committed s p ready keeps = record {
  pins = keeps.pins;
  held = λ q base held.
      let ne : q ≢ p = λ same. both_ways (is_coming s.coming q) (keeps.coming q base) (subst (λ (n : ℕ). is_coming s.coming n ≡ true) (sym same) ready.comes) in
      keeps.held q base (sym (held-committed_other s p q ne) ∙ held);
  coming = λ q base. gone_stays_away p s.coming q (keeps.coming q base);
}

calm-committed : (used : ℕ → Bool) (s : TierState) (p : ℕ) → IsCalm used s → IsCalm used (committed s p)
unfolding committed
calm-committed used s p calm = record { none_aside = calm.none_aside; passed = calm.passed }

count-committed : (s : TierState) (p : ℕ) → count (committed s p) ≡ count s
unfolding committed
count-committed s p = refl

leads-committed : (told : Told) (s : TierState) (used spent : ℕ → Bool) (p : ℕ) → IsTier s → IsReady s p → Gathers told s used spent → Leads told (Commit p) (committed s p) used spent
leads-committed told s used spent p tier ready gathers = record {
  above = above-committed told s spent p tier ready gathers.above;
  there = λ q marked. let before = gathers.there q marked in (before.0, there-committed s p q tier ready before.1);
  low = λ top q within unspent. stays_low told (Commit p) s (committed s p) q (low-committed told s p q tier ready) (gathers.low top q (subst (λ (n : ℕ). q < n) (count-committed s p) within) unspent);
  keeps_base = base-committed s p ready gathers.keeps_base;
  calm = calm-committed used s p gathers.calm;
}

-- ---- it leaves, or is passed over

held-dropped_other : (s : TierState) (v q : ℕ) → q ≢ v → is_held (dropped s v) q ≡ is_held s q
unfolding dropped
held-dropped_other s v q ne = ap (λ o. is_some o) (get_or-set_other s.held v q None None ne)

held-dropped_here : (s : TierState) (v : ℕ) → IsTier s → v < count s → is_held (dropped s v) v ≡ false
unfolding dropped
held-dropped_here s v tier within = ap (λ o. is_some o) (get_or-set_same s.held v None None (let sized = tier.sized.held in omega arith))

coming-dropped : (s : TierState) (v q : ℕ) → is_coming (dropped s v).coming q ≡ is_coming s.coming q
unfolding dropped
coming-dropped s v q = refl

low-dropped : (told : Told) (s : TierState) (v q : ℕ) → IsTier s → Leaves told s v → epochs_after (Evict v) told.epochs q + rises (dropped s v) q ≤ told.epochs q + rises s q
unfolding epochs_after rises_by
low-dropped told s v q tier leaves =
    elim (cases_eq q v) [
      | inl same ↦ subst (λ (n : ℕ). risen v told.epochs n + rises (dropped s v) n ≤ told.epochs n + rises s n) (sym same)
          (let away = (nothing_there s v leaves.none_comes).0 in
          let after = rises_are (dropped s v) v false false (held-dropped_here s v tier leaves.is_victim.within) (coming-dropped s v v ∙ away) in
          let before = rises_are s v true false leaves.is_victim.may.held away in
          let here = risen_here v told.epochs in
          omega arith)
      | inr ne ↦
          let same = rises_same s (dropped s v) q (held-dropped_other s v q ne) (coming-dropped s v q) in
          let other = risen_other v told.epochs q ne in
          omega arith
    ]

pub base-dropped : (told : Told) (s : TierState) (v : ℕ) → Leaves told s v → KeepsBase s → KeepsBase (dropped s v)
unfolding dropped
base-dropped told s v leaves keeps = record {
  pins = keeps.pins;
  held = λ q base held. elim (cases_eq q v) [
    | inl same ↦ keeps.held q base (subst (λ (n : ℕ). is_held s n ≡ true) (sym same) leaves.is_victim.may.held)
    | inr ne ↦ keeps.held q base (sym (held-dropped_other s v q ne) ∙ held)
  ];
  coming = keeps.coming;
}

calm-dropped : (used : ℕ → Bool) (s : TierState) (v : ℕ) → IsCalm used s → IsCalm used (dropped s v)
unfolding dropped
calm-dropped used s v calm = record { none_aside = calm.none_aside; passed = calm.passed }

count-dropped : (s : TierState) (v : ℕ) → count (dropped s v) ≡ count s
unfolding dropped
count-dropped s v = refl

leads-dropped : (told : Told) (s : TierState) (used spent : ℕ → Bool) (v : ℕ) → IsTier s → Leaves told s v → Gathers told s used spent → Leads told (Evict v) (dropped s v) used spent
leads-dropped told s used spent v tier leaves gathers = record {
  above = above-dropped told s spent v leaves gathers.above;
  there = λ q marked.
      let before = gathers.there q marked in
      let ne : q ≢ v = λ same. both_ways (spent q) (subst (λ (n : ℕ). spent n ≡ false) (sym same) (victim_unspent told s spent v gathers.above leaves)) marked in
      (before.0, there_same s (dropped s v) q (held-dropped_other s v q ne) (coming-dropped s v q) ∙ before.1);
  low = λ top q within unspent. stays_low told (Evict v) s (dropped s v) q (low-dropped told s v q tier leaves) (gathers.low top q (subst (λ (n : ℕ). q < n) (count-dropped s v) within) unspent);
  keeps_base = base-dropped told s v leaves gathers.keeps_base;
  calm = calm-dropped used s v gathers.calm;
}

leads-passed_over : (told : Told) (s : TierState) (used spent : ℕ → Bool) (v uses : ℕ) → used v ≡ true → Gathers told s used spent → Leads told (Kept v uses) (passed_over s v) used spent
unfolding passed_over epochs_after
leads-passed_over told s used spent v uses in_use gathers = record {
  above = above-passed_over told s spent v gathers.above;
  there = gathers.there;
  low = gathers.low;
  keeps_base = record { pins = gathers.keeps_base.pins; held = gathers.keeps_base.held; coming = gathers.keeps_base.coming };
  calm = record {
    none_aside = gathers.calm.none_aside;
    passed = λ q passed. elim (cases_eq q v) [
      | inl same ↦ subst (λ (n : ℕ). used n ≡ true) (sym same) in_use
      | inr ne ↦ gathers.calm.passed q (sym (get_or-set_other s.passed v q true false ne) ∙ passed)
    ];
  };
}

-- ---- each turn

-- some patches are spent, and the settling goes well
pub record IsGathering (told : Told) (s : TierState) (used : ℕ → Bool) : Type 0 where
  pub spent : ℕ → Bool
  pub gathers : Gathers told s used spent

gathering : (told later : Told) (answer : Turn) (t : TierState) (used spent : ℕ → Bool) → IsThen told later answer → Leads told answer t used spent → IsGathering later t used
gathering told later answer t used spent is leads = record { spent = spent; gathers = gathers_then told later answer t used spent is leads }

pub gathering-followed : (told later : Told) (s : TierState) (o : Outcome) (x : Turn × TierState) (used : ℕ → Bool) → IsTier s → Follows told s o x → x.0 ≢ Idle → GoesWell used x.0 → IsThen told later x.0 → IsGathering told s used → IsGathering later x.1 used
gathering-followed told later s o x used tier (Reserves c enters) on well is way =
    gathering told later (Reserve c) (reserved s c) used (spent_with c way.spent) is (leads-reserved told s used way.spent c enters way.gathers)
gathering-followed told later s o x used tier (Gets p body none bare has came) on well is way =
    gathering told later (Got p) (arrived s p body) used way.spent is (leads-arrived told s used way.spent p body way.gathers)
gathering-followed told later s o x used tier (Loses p none bare has) on well is way =
    gathering told later (Lost p) (aborted s p reasons.Lost) used way.spent is (leads-lost told s used way.spent p has way.gathers)
gathering-followed told later s o x used tier (Fails p none bare has failed) on well is way = absurd well
gathering-followed told later s o x used tier (Breaks p fault none bare has broken) on well is way = absurd well
gathering-followed told later s o x used tier (Commits p none bare first) on well is way =
    gathering told later (Commit p) (committed s p) used way.spent is (leads-committed told s used way.spent p tier (ready_from s p tier bare first) way.gathers)
gathering-followed told later s o x used tier (Evicts v none victim leaves unused) on well is way =
    gathering told later (Evict v) (dropped s v) used way.spent is (leads-dropped told s used way.spent v tier leaves way.gathers)
gathering-followed told later s o x used tier (Keeps v uses none victim leaves top found) on well is way =
    gathering told later (Kept v (suc uses)) (passed_over s v) used way.spent is (leads-passed_over told s used way.spent v (suc uses) well way.gathers)
gathering-followed told later s o x used tier (Rests rest) on well is way = absurd (on refl)
