-- Each return, against its rule.
use Rattle.std.proofs.Common.{◌≡◌, ◌+◌, ◌<◌, ◌≤◌, Some, None, MatchOption, IfOk, ap, sym, subst, refl, ◌∙◌, append-nil}
use Rattle.std.specs.Option.{option_and_then}
use Rattle.tier_model.specs.declared.turns.Turn.TheVariants.{Reserve, Idle}
use Rattle.tier_model.specs.Places.{first_coming, first_bare, Needs}
use Rattle.tier_model.specs.Tiers.{TierState, count, size, load, places}
use Rattle.tier_model.specs.Changes.{reserved, committed, calmed}
use Rattle.tier_model.specs.Choices.{victim}
use Rattle.tier_model.specs.Turns.{paired, fetching, fetched_in, evicting, uses_in}
use Rattle.tier_laws.specs.ComingLaws.{none_comes}
use Rattle.transfer_step.specs.TurnWords.{told_of, misses_in}
use Rattle.transfer_step.proofs.RuleSteps.{sought_within, entering_by, reserve_needs, reserve_room, reserve_turn, fetch_turn, commit_turn, leave_turn}
use Rattle.transfer_step.proofs.FetchWords.{fetched_epochs, fetched_misses}
use Rattle.transfer_step.proofs.WordLaws.{reserve_epochs}
use Rattle.transfer_step.proofs.rules.do_rule.Goals as goal

pub fitting-requires-clause-within : goal.fitting-requires-clause-within
fitting-requires-clause-within g c =
    let told = told_of (g.B.Supply.has (g.B.Supply.place c.args.below.now)) g.K.Keeper.has_words (g.K.Keeper.epochs c.args.keeper.now) in
    subst (λ (t : TierState). MatchOption c.seek-ahead.result (Unit {0}) (λ p. p < count t)) (sym c.seek-ahead.ensures.same)
    (sought_within told c.args.tier.now.state c.seek-ahead.result c.seek-ahead.ensures.sought)

pub reserve-requires-clause-needs : goal.reserve-requires-clause-needs
reserve-requires-clause-needs g c =
    let told = told_of (g.B.Supply.has (g.B.Supply.place c.args.below.now)) g.K.Keeper.has_words (g.K.Keeper.epochs c.args.keeper.now) in
    let s = c.args.tier.now.state in
    let enters = entering_by told s c.seek-ahead.new.tier.state c.seek-ahead.result (Some c.in-Some.patch) (Some c.in-Some.patch) c.seek-ahead.ensures.same c.seek-ahead.ensures.sought c.in-Some.ensures refl in
    subst (λ (t : TierState). Needs t.width t.pinned (places t) (Reserve c.in-Some.patch)) (sym c.seek-ahead.ensures.same)
    (reserve_needs told s c.in-Some.patch c.budget.ensures.kept enters)

pub reserve-requires-clause-room : goal.reserve-requires-clause-room
reserve-requires-clause-room g c =
    let told = told_of (g.B.Supply.has (g.B.Supply.place c.args.below.now)) g.K.Keeper.has_words (g.K.Keeper.epochs c.args.keeper.now) in
    let s = c.args.tier.now.state in
    let enters = entering_by told s c.seek-ahead.new.tier.state c.seek-ahead.result (Some c.in-Some.patch) (Some c.in-Some.patch) c.seek-ahead.ensures.same c.seek-ahead.ensures.sought c.in-Some.ensures refl in
    subst (λ (t : TierState). load t + size t c.in-Some.patch ≤ t.budget) (sym c.seek-ahead.ensures.same) (reserve_room told s c.in-Some.patch enters)

pub returns-in-Some-clause-answer : goal.returns-in-Some-clause-answer
returns-in-Some-clause-answer g c =
    let told = told_of (g.B.Supply.has (g.B.Supply.place c.args.below.now)) g.K.Keeper.has_words (g.K.Keeper.epochs c.args.keeper.now) in
    let s = c.args.tier.now.state in
    let enters = entering_by told s c.seek-ahead.new.tier.state c.seek-ahead.result (Some c.in-Some.patch) (Some c.in-Some.patch) c.seek-ahead.ensures.same c.seek-ahead.ensures.sought c.in-Some.ensures refl in
    reserve_turn told s c.reserve.new.self.state c.in-Some.patch enters (c.reserve.ensures.state ∙ ap (λ (t : TierState). reserved t c.in-Some.patch) c.seek-ahead.ensures.same)

pub returns-in-Some-clause-epochs : goal.returns-in-Some-clause-epochs
returns-in-Some-clause-epochs g c = reserve_epochs g.K.Keeper.has_words c.in-Some.patch (g.K.Keeper.epochs c.args.keeper.now)

pub returns-in-Some-clause-misses : goal.returns-in-Some-clause-misses
unfolding misses_in
returns-in-Some-clause-misses g c = λ tells. sym (append-nil (g.K.Keeper.misses c.args.keeper.now))

pub returns-in-Some-first_without_body-clause-answer : goal.returns-in-Some-first_without_body-clause-answer
returns-in-Some-first_without_body-clause-answer g c =
    let told = told_of (g.B.Supply.has (g.B.Supply.place c.args.below.now)) g.K.Keeper.has_words (g.K.Keeper.epochs c.args.keeper.now) in
    let s = c.args.tier.now.state in
    let p = c.in-Some-first_without_body.patch in
    let none = entering_by told s c.seek-ahead.new.tier.state c.seek-ahead.result c.fitting.result None c.seek-ahead.ensures.same c.seek-ahead.ensures.sought c.fitting.ensures c.in_default.is in
    let bare = sym (c.in-Some-first_without_body.ensures ∙ ap first_bare c.coming.ensures ∙ ap (λ (t : TierState). first_bare t.coming) c.seek-ahead.ensures.same) in
    fetch_turn told s c.fetch_patch.new.tier.state p c.fetch_patch.result none bare
    (subst (λ (t : TierState). IfOk c.fetch_patch.result (λ a. paired a c.fetch_patch.new.tier.state ≡ fetching (told.has p) t p (fetched_in a c.fetch_patch.new.tier.state))) c.seek-ahead.ensures.same c.fetch_patch.ensures.answer)

pub returns-in-Some-first_without_body-clause-epochs : goal.returns-in-Some-first_without_body-clause-epochs
returns-in-Some-first_without_body-clause-epochs g c = fetched_epochs g.K.Keeper.has_words (g.K.Keeper.epochs c.args.keeper.now) c.fetch_patch.result c.fetch_patch.ensures.kind

pub returns-in-Some-first_without_body-clause-misses : goal.returns-in-Some-first_without_body-clause-misses
returns-in-Some-first_without_body-clause-misses g c = λ tells. fetched_misses (g.K.Keeper.misses c.args.keeper.now) c.fetch_patch.result c.fetch_patch.ensures.kind

pub returns-in-Some-first_patch-clause-answer : goal.returns-in-Some-first_patch-clause-answer
returns-in-Some-first_patch-clause-answer g c =
    let told = told_of (g.B.Supply.has (g.B.Supply.place c.args.below.now)) g.K.Keeper.has_words (g.K.Keeper.epochs c.args.keeper.now) in
    let s = c.args.tier.now.state in
    let p = c.in-Some-first_patch.patch in
    let none = entering_by told s c.seek-ahead.new.tier.state c.seek-ahead.result c.fitting.result None c.seek-ahead.ensures.same c.seek-ahead.ensures.sought c.fitting.ensures c.in_default.is in
    let bare = sym (c.first_without_body.ensures ∙ ap first_bare c.coming.ensures ∙ ap (λ (t : TierState). first_bare t.coming) c.seek-ahead.ensures.same) ∙ c.in_default-first_without_body.is in
    let first = sym (c.in-Some-first_patch.ensures ∙ ap first_coming c.coming-2.ensures ∙ ap (λ (t : TierState). first_coming t.coming) c.seek-ahead.ensures.same) in
    commit_turn told s c.commit_patch.new.tier.state p none bare first (c.commit_patch.ensures.state ∙ ap (λ (t : TierState). committed t p) c.seek-ahead.ensures.same)

pub returns-in-Some-first_patch-clause-misses : goal.returns-in-Some-first_patch-clause-misses
unfolding misses_in
returns-in-Some-first_patch-clause-misses g c = λ tells. c.commit_patch.ensures.misses tells ∙ sym (append-nil (g.K.Keeper.misses c.args.keeper.now))

pub evict_or_rest-requires-clause-ahead : goal.evict_or_rest-requires-clause-ahead
evict_or_rest-requires-clause-ahead g c =
    let told = told_of (g.B.Supply.has (g.B.Supply.place c.args.below.now)) g.K.Keeper.has_words (g.K.Keeper.epochs c.args.keeper.now) in
    subst (λ (t : TierState). MatchOption c.seek-ahead.result (Unit {0}) (λ p. p < count t)) (sym c.seek-ahead.ensures.same)
    (sought_within told c.args.tier.now.state c.seek-ahead.result c.seek-ahead.ensures.sought)

pub evict_or_rest-requires-clause-none_come : goal.evict_or_rest-requires-clause-none_come
evict_or_rest-requires-clause-none_come g c =
    none_comes c.seek-ahead.new.tier.state.coming (sym (c.first_patch.ensures ∙ ap first_coming c.coming-2.ensures) ∙ c.in_default-first_patch.is)

pub returns-clause-answer : goal.returns-clause-answer
returns-clause-answer g c =
    let told = told_of (g.B.Supply.has (g.B.Supply.place c.args.below.now)) g.K.Keeper.has_words (g.K.Keeper.epochs c.args.keeper.now) in
    let s = c.args.tier.now.state in
    let a = c.evict_or_rest.result in
    let after = c.evict_or_rest.new.tier.state in
    let none = entering_by told s c.seek-ahead.new.tier.state c.seek-ahead.result c.fitting.result None c.seek-ahead.ensures.same c.seek-ahead.ensures.sought c.fitting.ensures c.in_default.is in
    let empty = none_comes s.coming (sym (c.first_patch.ensures ∙ ap first_coming c.coming-2.ensures ∙ ap (λ (t : TierState). first_coming t.coming) c.seek-ahead.ensures.same) ∙ c.in_default-first_patch.is) in
    leave_turn told s after a c.seek-ahead.result c.budget.ensures.kept none empty c.seek-ahead.ensures.sought
    (subst (λ (t : TierState). MatchOption (option_and_then (victim t) c.seek-ahead.result) (paired a after ≡ paired Idle (calmed t)) (λ p. paired a after ≡ evicting told.top t p (uses_in a))) c.seek-ahead.ensures.same c.evict_or_rest.ensures.answer)
