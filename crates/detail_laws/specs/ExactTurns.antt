-- Where no patch has to leave, each turn but the idle one takes one off the turns that are left.
use Rattle.std.proofs.Common.{◌≡◌, ◌≢◌, ℕ, zero, suc, ◌+◌, ◌*◌, ◌<◌, ◌≤◌, Bool, true, false, not, ◌&&◌, cond, ltb, List, [], length, Some, None, is_some, refl, sym, ap, subst, ◌∙◌, arith, inl, inr}
use Rattle.std.specs.Prelude.{slice_get, slice_index, slice_index_or}
use Rattle.std.proofs.lemmas.Bool.{cases_Bool, cases_eq, both_ways, and_from, and_parts, false_from_ne_true, ltb-true, lt-ltb, not-true, not_from_false}
use Rattle.std.proofs.lemmas.List.{get_or-set_other}
use Rattle.std.proofs.lemmas.Option.{same_Some}
use Rattle.file_model.specs.Lists.{SeenBody}
use Rattle.token_words.specs.declared.keeping.TheConstants.{LAST_EPOCH}
use Rattle.tier_model.specs.declared.turns.Turn.{Turn}
use Rattle.tier_model.specs.declared.turns.Turn.TheVariants.{Idle}
use Rattle.tier_model.specs.Places.{is_marked, is_coming, is_full, first_bare}
use Rattle.tier_model.specs.Tiers.{TierState, count, kept_wish, is_held, IsTier}
use Rattle.tier_model.specs.Changes.{reserved, arrived, committed}
use Rattle.tier_model.specs.Choices.{Told}
use Rattle.tier_model.specs.Turns.{Outcome, Board, begun, paired, outcome_in, entering}
use Rattle.tier_model.specs.Chains.{Chain, told_at}
use Rattle.tier_model.specs.Settling.{TurnsAt, TurnsToIdle, Last, More}
use Rattle.tier_laws.specs.ComingLaws.{full_comes, bare_comes, bare_not_full, reserved_comes, reserved_others, reserved_full, arrived_comes, arrived_full, arrived_others, gone_comes, gone_came, gone_others, gone_full, gone_full_others}
use Rattle.tier_laws.specs.BodyLaws.{away_not_there}
use Rattle.tier_laws.specs.TierLaws.{comes_within, IsTier-begun}
use Rattle.tier_laws.specs.Follows.{AtRest, Enters, Leaves, Follows, Reserves, Gets, Loses, Fails, Breaks, Commits, Evicts, Keeps, Rests}
use Rattle.tier_laws.specs.TurnLaws.{alike-followed, begun_same, turn_follows, version-turned, IsTier-turned}
use Rattle.tier_laws.specs.ChainLaws.{tier_here}
use Rattle.settling_laws.specs.Stages.{sum_below}
use Rattle.settling_laws.specs.ChangeLaws.{nothing_there, IsReady, ready_from, held-committed}
use Rattle.detail_laws.specs.Needs.{IsTierReady, GoesWell, GoWell}
use Rattle.detail_laws.specs.Gathers.{Gathers, IsThen}
use Rattle.detail_laws.specs.GatherLaws.{IsGathering, gathering-followed}
use Rattle.detail_laws.specs.AtRest.{HasRoom, room_for_candidate, wished_is_needed, rest-holds}
use Rattle.detail_laws.specs.Settled.{gathering-begins, room-begins, then_after, room_alike, idle_rests}
use Rattle.detail_laws.specs.TurnsLeft.{is_due, turns_by, turns_of_patch, turns_left, HoldsNeeded}

-- ---- sums

same_sum : (n : ℕ) (f g : ℕ → ℕ) → ((q : ℕ) → q < n → g q ≡ f q) → sum_below n g ≡ sum_below n f
unfolding sum_below
same_sum zero f g same = refl
same_sum (suc n) f g same = let here = same n (omega arith) in let rest = same_sum n f g (λ q within. same q (omega arith)) in omega arith

no_sum : (n : ℕ) (f : ℕ → ℕ) → ((q : ℕ) → q < n → f q ≡ 0) → sum_below n f ≡ 0
unfolding sum_below
no_sum zero f none = refl
no_sum (suc n) f none = let here = none n (omega arith) in let rest = no_sum n f (λ q within. none q (omega arith)) in omega arith

one_off : (n c : ℕ) (f g : ℕ → ℕ) → c < n → ((q : ℕ) → q ≢ c → g q ≡ f q) → g c + 1 ≡ f c → sum_below n g + 1 ≡ sum_below n f
unfolding sum_below
one_off zero c f g within same here = absurd (omega arith)
one_off (suc n) c f g within same here =
    elim (cases_eq c n) [
      | inl is ↦
          let rest = same_sum n f g (λ q below. same q (λ equal. omega arith)) in
          let last = subst (λ (k : ℕ). g k + 1 ≡ f k) is here in
          omega arith
      | inr ne ↦
          let rest = one_off n c f g (omega arith) same here in
          let last = same n (λ equal. ne (sym equal)) in
          omega arith
    ]

-- ---- the turns of one patch

turns_are : (told : Told) (s : TierState) (p : ℕ) (held coming full due : Bool) → is_held s p ≡ held → is_coming s.coming p ≡ coming → is_full s.coming p ≡ full → is_due told s p ≡ due → turns_of_patch told s p ≡ turns_by held coming full due
turns_are told s p held coming full due a b c d =
    ap (λ (x : Bool). turns_by x (is_coming s.coming p) (is_full s.coming p) (is_due told s p)) a
    ∙ ap (λ (x : Bool). turns_by held x (is_full s.coming p) (is_due told s p)) b
    ∙ ap (λ (x : Bool). turns_by held coming x (is_due told s p)) c
    ∙ ap (λ (x : Bool). turns_by held coming full x) d

-- the tier and what it is told say the same of what is due
record AreDue (told later : Told) (s t : TierState) : Type 0 where
  same : (p : ℕ) → is_due later t p ≡ is_due told s p
  many : count t ≡ count s

left_falls : (told later : Told) (s t : TierState) (p : ℕ) → AreDue told later s t → p < count s → ((q : ℕ) → q ≢ p → turns_of_patch later t q ≡ turns_of_patch told s q) → turns_of_patch later t p + 1 ≡ turns_of_patch told s p → turns_left later t + 1 ≡ turns_left told s
unfolding turns_left
left_falls told later s t p due within others here =
    let off = one_off (count s) p (turns_of_patch told s) (turns_of_patch later t) within others here in
    let same = ap (λ (n : ℕ). sum_below n (turns_of_patch later t)) due.many in
    omega arith

turns_same : (told later : Told) (s t : TierState) (q : ℕ) → AreDue told later s t → is_held t q ≡ is_held s q → is_coming t.coming q ≡ is_coming s.coming q → is_full t.coming q ≡ is_full s.coming q → turns_of_patch later t q ≡ turns_of_patch told s q
turns_same told later s t q due held coming full = turns_are later t q (is_held s q) (is_coming s.coming q) (is_full s.coming q) (is_due told s q) held coming full (due.same q)

due_parts : (told : Told) (s : TierState) (p : ℕ) → is_due told s p ≡ true → (0 < kept_wish s p) × (is_marked s.base p ≡ false) × (told.has p ≡ true)
due_parts told s p due =
    let both = and_parts (ltb 0 (kept_wish s p)) (not (is_marked s.base p) && told.has p) due in
    let rest = and_parts (not (is_marked s.base p)) (told.has p) both.1 in
    (ltb-true 0 (kept_wish s p) both.0, not-true (is_marked s.base p) rest.0, rest.1)

due_from : (told : Told) (s : TierState) (p : ℕ) → 0 < kept_wish s p → is_marked s.base p ≡ false → told.has p ≡ true → is_due told s p ≡ true
due_from told s p wished not_base has =
    and_from (ltb 0 (kept_wish s p)) (not (is_marked s.base p) && told.has p) (lt-ltb 0 (kept_wish s p) wished)
    (and_from (not (is_marked s.base p)) (told.has p) (not_from_false (is_marked s.base p) not_base) has)

not_full : (s : TierState) (p : ℕ) → is_coming s.coming p ≡ false → is_full s.coming p ≡ false
not_full s p away = false_from_ne_true (is_full s.coming p) (λ is. both_ways (is_coming s.coming p) away (full_comes s.coming p is))

-- ---- each turn

-- one turn less is left, and still each held patch is needed and each that comes is due
record TakesOne (told later : Told) (used : ℕ → Bool) (s t : TierState) : Type 0 where
  one : turns_left later t + 1 ≡ turns_left told s
  needed : HoldsNeeded later used t

one-reserved : (told later : Told) (used : ℕ → Bool) (s : TierState) (c : ℕ) → AreDue told later s (reserved s c) → Enters told s c → HoldsNeeded told used s → TakesOne told later used s (reserved s c)
unfolding reserved turns_by
one-reserved told later used s c due enters needed =
    let eligible = enters.is_candidate.eligible in
    let is_due_here = due_from told s c eligible.wished eligible.not_base eligible.has in
    let bare = not_full s c eligible.not_coming in
    let before = turns_are told s c false false false true eligible.not_held eligible.not_coming bare is_due_here in
    let after = turns_are later (reserved s c) c false true false true eligible.not_held (reserved_comes s.coming c) (reserved_full s.coming c c ∙ bare) (due.same c ∙ is_due_here) in
    record {
      one = left_falls told later s (reserved s c) c due enters.is_candidate.within
          (λ q ne. turns_same told later s (reserved s c) q due refl (reserved_others s.coming c q ne) (reserved_full s.coming c q))
          (omega arith);
      needed = record {
        held = needed.held;
        coming = λ q comes. due.same q ∙ elim (cases_eq q c) [
          | inl same ↦ subst (λ (n : ℕ). is_due told s n ≡ true) (sym same) is_due_here
          | inr ne ↦ needed.coming q (sym (reserved_others s.coming c q ne) ∙ comes)
        ];
      };
    }

one-arrived : (told later : Told) (used : ℕ → Bool) (s : TierState) (p : ℕ) (body : SeenBody) → IsTier s → AreDue told later s (arrived s p body) → first_bare s.coming ≡ Some p → HoldsNeeded told used s → TakesOne told later used s (arrived s p body)
unfolding arrived turns_by
one-arrived told later used s p body tier due bare needed =
    let comes = bare_comes s.coming p bare in
    let away = away_not_there s.held p (tier.coming.away p comes) in
    let is_due_here = needed.coming p comes in
    let before = turns_are told s p false true false true away comes (bare_not_full s.coming p tier.coming.apart bare) is_due_here in
    let after = turns_are later (arrived s p body) p false true true true away (arrived_comes p s.coming p ∙ comes) (arrived_full p s.coming comes) (due.same p ∙ is_due_here) in
    record {
      one = left_falls told later s (arrived s p body) p due (comes_within s p tier comes)
          (λ q ne. turns_same told later s (arrived s p body) q due refl (arrived_comes p s.coming q) (arrived_others p s.coming q ne))
          (omega arith);
      needed = record { held = needed.held; coming = λ q coming. due.same q ∙ needed.coming q (sym (arrived_comes p s.coming q) ∙ coming) };
    }

held_other : (s : TierState) (p q : ℕ) → q ≢ p → is_held (committed s p) q ≡ is_held s q
unfolding committed
held_other s p q ne = ap (λ o. is_some o) (get_or-set_other s.held p q (slice_index_or s.came p None) None ne)

needed-committed : (told later : Told) (used : ℕ → Bool) (s : TierState) (p : ℕ) → AreDue told later s (committed s p) → IsReady s p → HoldsNeeded told used s → HoldsNeeded later used (committed s p)
unfolding committed
needed-committed told later used s p due ready needed = record {
  held = λ q below held. elim (cases_eq q p) [
    | inl same ↦
        let parts = due_parts told s q (needed.coming q (subst (λ (n : ℕ). is_coming s.coming n ≡ true) (sym same) ready.comes)) in
        wished_is_needed s used q parts.1 parts.0
    | inr ne ↦ needed.held q below (sym (held_other s p q ne) ∙ held)
  ];
  coming = λ q comes. due.same q ∙ needed.coming q (gone_came p s.coming q comes);
}

one-committed : (told later : Told) (used : ℕ → Bool) (s : TierState) (p : ℕ) → IsTier s → AreDue told later s (committed s p) → IsReady s p → HoldsNeeded told used s → TakesOne told later used s (committed s p)
unfolding committed turns_by
one-committed told later used s p tier due ready needed =
    let is_due_here = needed.coming p ready.comes in
    let before = turns_are told s p false true true true ready.away ready.comes ready.full is_due_here in
    let after = turns_are later (committed s p) p true false false true (held-committed s p tier ready) (gone_comes p s.coming) (gone_full p s.coming) (due.same p ∙ is_due_here) in
    record {
      one = left_falls told later s (committed s p) p due ready.within
          (λ q ne. turns_same told later s (committed s p) q due (held_other s p q ne) (gone_others p s.coming q ne) (gone_full_others p s.coming q ne))
          (omega arith);
      needed = needed-committed told later used s p due ready needed;
    }

none_leaves : (told : Told) (s : TierState) (used : ℕ → Bool) (v : ℕ) → 1 ≤ s.width → entering told s ≡ None → Leaves told s v → HasRoom used s → HoldsNeeded told used s → ⊥
none_leaves told s used v wide none leaves room needed = room_for_candidate told s used leaves.ahead wide none leaves.none_comes leaves.chosen room needed.held

due_after : (told later : Told) (s : TierState) (o : Outcome) (x : Turn × TierState) → Follows told s o x → IsThen told later x.0 → AreDue told later s x.1
due_after told later s o x follows is =
    let alike = alike-followed told s o x follows in
    record {
      same = λ p. ap (λ (wishes : List ℕ). ltb 0 (slice_index wishes p) && (not (is_marked x.1.base p) && later.has p)) alike.wishes
          ∙ ap (λ (base : List Bool). ltb 0 (kept_wish s p) && (not (is_marked base p) && later.has p)) alike.base
          ∙ ap (λ (b : Bool). ltb 0 (kept_wish s p) && (not (is_marked s.base p) && b)) (is.has p);
      many = ap (λ (sizes : List ℕ). length sizes) alike.sizes;
    }

one-followed : (told later : Told) (s : TierState) (o : Outcome) (x : Turn × TierState) (used : ℕ → Bool) → IsTier s → Follows told s o x → AreDue told later s x.1 → x.0 ≢ Idle → GoesWell used x.0 → HasRoom used s → HoldsNeeded told used s → TakesOne told later used s x.1
one-followed told later s o x used tier (Reserves c enters) due on well room needed = one-reserved told later used s c due enters needed
one-followed told later s o x used tier (Gets p body none bare has came) due on well room needed = one-arrived told later used s p body tier due bare needed
one-followed told later s o x used tier (Loses p none bare has) due on well room needed = absurd (both_ways (told.has p) has (due_parts told s p (needed.coming p (bare_comes s.coming p bare))).2)
one-followed told later s o x used tier (Fails p none bare has failed) due on well room needed = absurd well
one-followed told later s o x used tier (Breaks p fault none bare has broken) due on well room needed = absurd well
one-followed told later s o x used tier (Commits p none bare first) due on well room needed = one-committed told later used s p tier due (ready_from s p tier bare first) needed
one-followed told later s o x used tier (Evicts v none victim leaves unused) due on well room needed = absurd (none_leaves told s used v tier.wide.some_come none leaves room needed)
one-followed told later s o x used tier (Keeps v uses none victim leaves top found) due on well room needed = absurd (none_leaves told s used v tier.wide.some_come none leaves room needed)
one-followed told later s o x used tier (Rests rest) due on well room needed = absurd (on refl)

-- ---- at rest none is left

none_left : (told : Told) (s : TierState) (used spent : ℕ → Bool) → 1 ≤ s.width → AtRest told s → Gathers told s used spent → HasRoom used s → turns_left told s ≡ 0
unfolding turns_left turns_by
none_left told s used spent wide rest gathers room = no_sum (count s) (turns_of_patch told s) (λ q within.
    let none = nothing_there s q rest.none_comes in
    elim (cases_Bool (is_held s q)) [
      | inl held ↦ turns_are told s q true false false (is_due told s q) held none.0 none.1 refl
      | inr away ↦
          let not_due : is_due told s q ≡ false = false_from_ne_true (is_due told s q) (λ due.
          let parts = due_parts told s q due in
          both_ways (is_held s q) away (rest-holds told s used spent q wide rest gathers room within parts.1 parts.0 parts.2)) in
          turns_are told s q false false false false away none.0 none.1 not_due
    ])

-- ---- a settling of one tier

-- a settling of tier k that goes well, in which no patch has to leave
pub record IsStraight (board : Board) (k : ℕ) (a : Chain) (used : ℕ → Bool) (s : TierState) : Type 0 where
  pub is_tier : IsTier s
  pub gathering : IsGathering (told_at a k) (begun board s) used
  pub room : HasRoom used (begun board s)
  pub needed : HoldsNeeded (told_at a k) used (begun board s)

-- a tier that is ready, and holds and brings what is needed alone, settles so
pub straight-begins : (board : Board) (k : ℕ) (a : Chain) (used : ℕ → Bool) (s : TierState) → IsTierReady board used s → ((p : ℕ) → p < count s → a.epochs p + 2 < LAST_EPOCH) → HoldsNeeded (told_at a k) used (begun board s) → IsStraight board k a used s
straight-begins board k a used s ready low needed = record {
  is_tier = ready.is_tier;
  gathering = gathering-begins board (told_at a k) used s ready low;
  room = room-begins board used s ready;
  needed = needed;
}

-- one turn less is left, and the settling stays straight
record GoesStraight (board : Board) (k : ℕ) (a b : Chain) (used : ℕ → Bool) (s t : TierState) : Type 0 where
  one : turns_left (told_at b k) (begun board t) + 1 ≡ turns_left (told_at a k) (begun board s)
  straight : IsStraight board k b used t

straight-turned : (board : Board) (k : ℕ) (answer : Turn) (a b : Chain) (used : ℕ → Bool) (turn : TurnsAt board k answer a b) → answer ≢ Idle → GoesWell used answer → IsStraight board k a used turn.before → GoesStraight board k a b used turn.before turn.after
straight-turned board k answer a b used turn on well straight =
    let s = begun board turn.before in
    let t = turn.after in
    let follows = turn_follows board (told_at a k) turn.before answer t turn.turns in
    let alike = alike-followed (told_at a k) s (outcome_in answer t) (paired answer t) follows in
    let same : begun board t ≡ t = begun_same board t (sym (version-turned board (told_at a k) turn.before answer t turn.turns)) in
    let next = then_after board k answer a b turn in
    let tier = IsTier-begun board turn.before straight.is_tier in
    let due = due_after (told_at a k) (told_at b k) s (outcome_in answer t) (paired answer t) follows next in
    let takes = one-followed (told_at a k) (told_at b k) s (outcome_in answer t) (paired answer t) used tier follows due on well straight.room straight.needed in
    record {
      one = subst (λ (u : TierState). turns_left (told_at b k) u + 1 ≡ turns_left (told_at a k) s) (sym same) takes.one;
      straight = record {
        is_tier = IsTier-turned board (told_at a k) turn.before answer t straight.is_tier turn.turns turn.body;
        gathering = subst (λ (u : TierState). IsGathering (told_at b k) u used) (sym same)
            (gathering-followed (told_at a k) (told_at b k) s (outcome_in answer t) (paired answer t) used tier follows on well next straight.gathering);
        room = subst (HasRoom used) (sym same) (room_alike used s t alike straight.room);
        needed = subst (HoldsNeeded (told_at b k) used) (sym same) takes.needed;
      };
    }

none_left_at_idle : (board : Board) (k : ℕ) (a b : Chain) (used : ℕ → Bool) (turn : TurnsAt board k Idle a b) → IsStraight board k a used turn.before → turns_left (told_at a k) (begun board turn.before) ≡ 0
none_left_at_idle board k a b used turn straight =
    let s = begun board turn.before in
    let rested = idle_rests (told_at a k) s (outcome_in Idle turn.after) (paired Idle turn.after) (turn_follows board (told_at a k) turn.before Idle turn.after turn.turns) refl in
    let tier = IsTier-begun board turn.before straight.is_tier in
    none_left (told_at a k) s used straight.gathering.spent tier.wide.some_come rested.rest straight.gathering.gathers straight.room

pub exact_turns : (board : Board) (used : ℕ → ℕ → Bool) (k : ℕ) (a b : Chain) (log : List (ℕ × Turn)) (s : TierState) → TurnsToIdle board k a log b → slice_get a.tiers k ≡ Some s → GoWell used log → IsStraight board k a (used k) s → length log ≡ turns_left (told_at a k) (begun board s) + 1
exact_turns board used k a b log s (Last turn) at well straight =
    let same = same_Some s turn.before (sym at ∙ turn.was) in
    let none = none_left_at_idle board k a b (used k) turn (subst (IsStraight board k a (used k)) same straight) in
    let is = ap (λ (u : TierState). turns_left (told_at a k) (begun board u)) same in
    omega arith
exact_turns board used k a c log s (More {b = b} {log = later} answer on turn rest) at well straight =
    let same = same_Some s turn.before (sym at ∙ turn.was) in
    let goes = straight-turned board k answer a b (used k) turn on well.0 (subst (IsStraight board k a (used k)) same straight) in
    let rest_is = exact_turns board used k b c later turn.after rest (tier_here board k answer a b turn) well.1 goes.straight in
    let one = goes.one in
    let is = ap (λ (u : TierState). turns_left (told_at a k) (begun board u)) same in
    omega arith

-- ---- before the first turn

threefold : (n : ℕ) (f g : ℕ → ℕ) → ((q : ℕ) → q < n → f q ≡ 3 * g q) → sum_below n f ≡ 3 * sum_below n g
unfolding sum_below
threefold zero f g each = refl
threefold (suc n) f g each = let here = each n (omega arith) in let rest = threefold n f g (λ q within. each q (omega arith)) in omega arith

no_turns : (held : Bool) → turns_by held false false false ≡ 0
unfolding turns_by
no_turns true = refl
no_turns false = refl

-- where nothing comes and no due patch is held, three turns are left for each due patch
pub turns_at_first : (told : Told) (s : TierState) → s.coming ≡ [] → ((p : ℕ) → is_due told s p ≡ true → is_held s p ≡ false) → turns_left told s ≡ 3 * sum_below (count s) (λ p. cond (is_due told s p) 1 0)
unfolding turns_left turns_by
turns_at_first told s empty away = threefold (count s) (turns_of_patch told s) (λ p. cond (is_due told s p) 1 0) (λ q within.
    let none = nothing_there s q empty in
    elim (cases_Bool (is_due told s q)) [
      | inl due ↦
          let turns = turns_are told s q false false false true (away q due) none.0 none.1 due in
          let one : cond {A = ℕ} (is_due told s q) 1 0 ≡ 1 = ap (λ (b : Bool). cond {A = ℕ} b 1 0) due in
          omega arith
      | inr never ↦
          let turns = turns_are told s q (is_held s q) false false false refl none.0 none.1 never in
          let nothing : cond {A = ℕ} (is_due told s q) 1 0 ≡ 0 = ap (λ (b : Bool). cond {A = ℕ} b 1 0) never in
          let zero_turns = no_turns (is_held s q) in
          omega arith
    ])

threefold_with : (n : ℕ) (f g : ℕ → ℕ) → ((q : ℕ) → q < n → f q + 3 * g q ≡ 3) → sum_below n f + 3 * sum_below n g ≡ 3 * n
unfolding sum_below
threefold_with zero f g each = refl
threefold_with (suc n) f g each = let here = each n (omega arith) in let rest = threefold_with n f g (λ q within. each q (omega arith)) in omega arith

-- a tier to which nothing comes, which holds its base patches alone, and is to hold all patches that there are
pub record BeginsWithBase (told : Told) (s : TierState) : Type 0 where
  pub none_comes : s.coming ≡ []
  pub held : (p : ℕ) → p < count s → is_held s p ≡ is_marked s.base p
  pub wished : (p : ℕ) → p < count s → is_marked s.base p ≡ false → 0 < kept_wish s p
  pub has : (p : ℕ) → p < count s → is_marked s.base p ≡ false → told.has p ≡ true

-- three turns are left for each patch but the base
pub turns_beside_base : (told : Told) (s : TierState) → BeginsWithBase told s → turns_left told s + 3 * sum_below (count s) (λ p. cond (is_marked s.base p) 1 0) ≡ 3 * count s
unfolding turns_left turns_by
turns_beside_base told s begins = threefold_with (count s) (turns_of_patch told s) (λ p. cond (is_marked s.base p) 1 0) (λ q within.
    let none = nothing_there s q begins.none_comes in
    elim (cases_Bool (is_marked s.base q)) [
      | inl base ↦
          let turns = turns_are told s q true false false (is_due told s q) (begins.held q within ∙ base) none.0 none.1 refl in
          let one : cond {A = ℕ} (is_marked s.base q) 1 0 ≡ 1 = ap (λ (b : Bool). cond {A = ℕ} b 1 0) base in
          omega arith
      | inr free ↦
          let due = due_from told s q (begins.wished q within free) free (begins.has q within free) in
          let turns = turns_are told s q false false false true (begins.held q within ∙ free) none.0 none.1 due in
          let nothing : cond {A = ℕ} (is_marked s.base q) 1 0 ≡ 0 = ap (λ (b : Bool). cond {A = ℕ} b 1 0) free in
          omega arith
    ])
