-- The turned tier is the last before the split, and the next is the first behind it.
use Rattle.std.proofs.Common.{◌≡◌, ◌∙◌, sym, subst, suc, Some, None}
use Rattle.std.proofs.lemmas.Option.{same_Some}
use Rattle.view_outside.specs.Files.{file_bytes}
use Rattle.tier_model.specs.Tiers.{TierState}
use Rattle.tier_model.specs.Ties.{IsTied}
use Rattle.transfer_step.specs.TurnWords.{board_of}
use Rattle.cache_chain.specs.ChainStates.{states_of, IsFileBody, FindsChanged}
use Rattle.cache_chain.specs.WordTurns.{TurnsStore}
use Rattle.cache_chain.proofs.ListParts.{tier_split, next_is, none_next, set_split, written_is}
use Rattle.cache_chain.proofs.Neighbours.{over_tier, over_file}
use Rattle.cache_chain.proofs.among_tiers.turn_among.Goals as goal

pub turn_over_tier-requires-clause-sizes : goal.turn_over_tier-requires-clause-sizes
turn_over_tier-requires-clause-sizes g c = sym (c.requires.sizes.each c.args.tier _ (tier_split c.args.tiers.now _ _ c.args.tier c.split_at_mut-upper.ensures.value c.split_at_mut-upper.ensures.front_len c.index-upper-place.result))

pub turn_over_tier-requires-clause-below : goal.turn_over_tier-requires-clause-below
turn_over_tier-requires-clause-below g c = c.requires.sizes.each (suc c.args.tier) _ (next_is c.args.tiers.now _ _ c.args.tier c.split_at_mut-upper.ensures.value c.split_at_mut-upper.ensures.front_len c.in-Some.below.now c.in-Some.ensures.value)

pub turn_over_tier-requires-clause-wishes : goal.turn_over_tier-requires-clause-wishes
turn_over_tier-requires-clause-wishes g c = c.requires.wishes.each c.args.tier _ (tier_split c.args.tiers.now _ _ c.args.tier c.split_at_mut-upper.ensures.value c.split_at_mut-upper.ensures.front_len c.index-upper-place.result)

pub turn_over_tier-requires-clause-tied : goal.turn_over_tier-requires-clause-tied
turn_over_tier-requires-clause-tied g c = λ has. c.requires.tied has _ (tier_split c.args.tiers.now _ _ c.args.tier c.split_at_mut-upper.ensures.value c.split_at_mut-upper.ensures.front_len c.index-upper-place.result)

pub turn_over_file-requires-clause-sizes : goal.turn_over_file-requires-clause-sizes
turn_over_file-requires-clause-sizes g c = sym (c.requires.sizes.each c.args.tier _ (tier_split c.args.tiers.now _ _ c.args.tier c.split_at_mut-upper.ensures.value c.split_at_mut-upper.ensures.front_len c.index-upper-place.result))

pub turn_over_file-requires-clause-wishes : goal.turn_over_file-requires-clause-wishes
turn_over_file-requires-clause-wishes g c = c.requires.wishes.each c.args.tier _ (tier_split c.args.tiers.now _ _ c.args.tier c.split_at_mut-upper.ensures.value c.split_at_mut-upper.ensures.front_len c.index-upper-place.result)

pub turn_over_file-requires-clause-tied : goal.turn_over_file-requires-clause-tied
turn_over_file-requires-clause-tied g c = λ has. c.requires.tied has _ (tier_split c.args.tiers.now _ _ c.args.tier c.split_at_mut-upper.ensures.value c.split_at_mut-upper.ensures.front_len c.index-upper-place.result)

pub returns-in-Some-clause-turned : goal.returns-in-Some-clause-turned
returns-in-Some-clause-turned g c =
    let k = c.args.tier in
    let all = c.args.tiers.now in
    let front = c.split_at_mut-upper.result.0.now in
    let back = c.split_at_mut-upper.result.1.now in
    let is = c.split_at_mut-upper.ensures.value in
    let many = c.split_at_mut-upper.ensures.front_len in
    over_tier (board_of (g.W.Wishes.wish_of c.args.wishes.now) (g.W.Wishes.version_of c.args.wishes.now)) g.K.Keeper.has_words (g.K.Keeper.epochs c.args.keeper.now) (IsFileBody c.args.index.now (file_bytes (g.S.Store.files c.args.store.now) c.args.file)) c.turn_over_tier.result
    (states_of all) _ k _ c.turn_over_tier.new.tier.state c.in-Some.below.now.state (next_is all front back k is many c.in-Some.below.now c.in-Some.ensures.value) (tier_split all front back k is many c.index-upper-place.result) (set_split all front back k is many c.turn_over_tier.new.tier) c.turn_over_tier.ensures.turns

pub returns-in-Some-clause-lowest : goal.returns-in-Some-clause-lowest
returns-in-Some-clause-lowest g c = λ none s at.
    let next = next_is c.args.tiers.now c.split_at_mut-upper.result.0.now c.split_at_mut-upper.result.1.now c.args.tier c.split_at_mut-upper.ensures.value c.split_at_mut-upper.ensures.front_len c.in-Some.below.now c.in-Some.ensures.value in
    let never : Some c.in-Some.below.now.state ≡ None = sym next ∙ none in
    absurd (cc)

pub returns-in-Some-clause-tied : goal.returns-in-Some-clause-tied
returns-in-Some-clause-tied g c = λ has s at.
    subst (λ (t : TierState). IsTied t (g.K.Keeper.epochs c.turn_over_tier.new.keeper) (g.K.Keeper.pinned c.turn_over_tier.new.keeper))
    (written_is c.args.tiers.now c.split_at_mut-upper.result.0.now c.split_at_mut-upper.result.1.now c.args.tier c.split_at_mut-upper.ensures.value c.split_at_mut-upper.ensures.front_len c.turn_over_tier.new.tier s at) (c.turn_over_tier.ensures.tied has)

pub returns-in-None-clause-turned : goal.returns-in-None-clause-turned
returns-in-None-clause-turned g c =
    let k = c.args.tier in
    let all = c.args.tiers.now in
    let front = c.split_at_mut-upper.result.0.now in
    let back = c.split_at_mut-upper.result.1.now in
    let is = c.split_at_mut-upper.ensures.value in
    let many = c.split_at_mut-upper.ensures.front_len in
    over_file (board_of (g.W.Wishes.wish_of c.args.wishes.now) (g.W.Wishes.version_of c.args.wishes.now)) g.K.Keeper.has_words (g.K.Keeper.epochs c.args.keeper.now) (IsFileBody c.args.index.now (file_bytes (g.S.Store.files c.args.store.now) c.args.file)) c.turn_over_file.result
    (states_of all) _ k _ c.turn_over_file.new.tier.state (none_next all front back k is many c.in-None.ensures.value) (tier_split all front back k is many c.index-upper-place.result) (set_split all front back k is many c.turn_over_file.new.tier) c.turn_over_file.ensures.turns

pub returns-in-None-clause-lowest : goal.returns-in-None-clause-lowest
returns-in-None-clause-lowest g c = λ none s at.
    let here = tier_split c.args.tiers.now c.split_at_mut-upper.result.0.now c.split_at_mut-upper.result.1.now c.args.tier c.split_at_mut-upper.ensures.value c.split_at_mut-upper.ensures.front_len c.index-upper-place.result in
    subst (λ (t : TierState). TurnsStore (FindsChanged c.args.index.now (file_bytes (g.S.Store.files c.args.store.now) c.args.file)) t c.turn_over_file.result (g.S.Store.faults c.args.store.now) (g.S.Store.faults c.turn_over_file.new.store) (g.S.Store.taken c.args.store.now) (g.S.Store.taken c.turn_over_file.new.store))
    (same_Some _ s (sym here ∙ at)) c.turn_over_file.ensures.store

pub returns-in-None-clause-upper : goal.returns-in-None-clause-upper
returns-in-None-clause-upper g c = λ t at.
    let next = none_next c.args.tiers.now c.split_at_mut-upper.result.0.now c.split_at_mut-upper.result.1.now c.args.tier c.split_at_mut-upper.ensures.value c.split_at_mut-upper.ensures.front_len c.in-None.ensures.value in
    let never : None ≡ Some t = sym next ∙ at in
    absurd (cc)

pub returns-in-None-clause-tied : goal.returns-in-None-clause-tied
returns-in-None-clause-tied g c = λ has s at.
    subst (λ (t : TierState). IsTied t (g.K.Keeper.epochs c.turn_over_file.new.keeper) (g.K.Keeper.pinned c.turn_over_file.new.keeper))
    (written_is c.args.tiers.now c.split_at_mut-upper.result.0.now c.split_at_mut-upper.result.1.now c.args.tier c.split_at_mut-upper.ensures.value c.split_at_mut-upper.ensures.front_len c.turn_over_file.new.tier s at) (c.turn_over_file.ensures.tied has)
