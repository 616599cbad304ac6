-- What the turn keeps, from how it begins.
use Rattle.std.proofs.Common.{◌≡◌, ◌≤◌, ◌++◌, ℕ, List, length, IfOk, MatchResult, subst, sym, ◌∙◌}
use Rattle.view_outside.specs.Taken.{RisesAtMost}
use Rattle.tier_model.specs.Tiers.{TierState}
use Rattle.tier_model.specs.Turns.{BringsBody}
use Rattle.tier_model.specs.Counts.{entries_of}
use Rattle.tier_model.specs.Ties.{IsTied}
use Rattle.tier_laws.specs.TieLaws.{tied-begun}
use Rattle.transfer_step.specs.TurnWords.{told_of, board_of, next_size, TurnTakes}
use Rattle.transfer_step.proofs.WholeTurns.{turn_is, turn_setup, turn_wishes, begun_sizes, begun_journal, begun_next_size}
use Rattle.transfer_step.proofs.turns.turn.Goals as goal

pub ranked_turn-requires-clause-index : goal.ranked_turn-requires-clause-index
ranked_turn-requires-clause-index g c =
    let board = board_of (g.W.Wishes.wish_of c.args.wishes.now) (g.W.Wishes.version_of c.args.wishes.now) in
    c.requires.index ∙ sym (begun_sizes board c.args.tier.now.state c.take_wishes.new.tier.state c.take_wishes.ensures.state)

pub ranked_turn-requires-clause-supply : goal.ranked_turn-requires-clause-supply
ranked_turn-requires-clause-supply g c =
    let board = board_of (g.W.Wishes.wish_of c.args.wishes.now) (g.W.Wishes.version_of c.args.wishes.now) in
    c.requires.supply ∙ sym (begun_sizes board c.args.tier.now.state c.take_wishes.new.tier.state c.take_wishes.ensures.state)

pub ranked_turn-requires-clause-words : goal.ranked_turn-requires-clause-words
ranked_turn-requires-clause-words g c = λ has.
    let board = board_of (g.W.Wishes.wish_of c.args.wishes.now) (g.W.Wishes.version_of c.args.wishes.now) in
    subst (λ (sizes : List ℕ). length sizes ≤ g.K.Keeper.patches c.args.keeper.now) (sym (begun_sizes board c.args.tier.now.state c.take_wishes.new.tier.state c.take_wishes.ensures.state)) (c.requires.words has)

pub ranked_turn-requires-clause-tied : goal.ranked_turn-requires-clause-tied
ranked_turn-requires-clause-tied g c = λ has.
    let board = board_of (g.W.Wishes.wish_of c.args.wishes.now) (g.W.Wishes.version_of c.args.wishes.now) in
    subst (λ (s : TierState). IsTied s (g.K.Keeper.epochs c.args.keeper.now) (g.K.Keeper.pinned c.args.keeper.now)) (sym c.take_wishes.ensures.state)
    (tied-begun board c.args.tier.now.state (g.K.Keeper.epochs c.args.keeper.now) (g.K.Keeper.pinned c.args.keeper.now) (c.requires.tied has))

pub returns-clause-answer : goal.returns-clause-answer
returns-clause-answer g c =
    let board = board_of (g.W.Wishes.wish_of c.args.wishes.now) (g.W.Wishes.version_of c.args.wishes.now) in
    let told = told_of (g.B.Supply.has (g.B.Supply.place c.args.below.now)) g.K.Keeper.has_words (g.K.Keeper.epochs c.args.keeper.now) in
    turn_is board told c.args.tier.now.state c.take_wishes.new.tier.state c.ranked_turn.new.tier.state c.ranked_turn.result c.take_wishes.ensures.state c.ranked_turn.ensures.answer

pub returns-clause-same : goal.returns-clause-same
returns-clause-same g c =
    let board = board_of (g.W.Wishes.wish_of c.args.wishes.now) (g.W.Wishes.version_of c.args.wishes.now) in
    turn_setup board c.args.tier.now.state c.take_wishes.new.tier.state c.ranked_turn.new.tier.state c.take_wishes.ensures.state c.ranked_turn.ensures.same

pub returns-clause-wishes : goal.returns-clause-wishes
returns-clause-wishes g c =
    let board = board_of (g.W.Wishes.wish_of c.args.wishes.now) (g.W.Wishes.version_of c.args.wishes.now) in
    let told = told_of (g.B.Supply.has (g.B.Supply.place c.args.below.now)) g.K.Keeper.has_words (g.K.Keeper.epochs c.args.keeper.now) in
    turn_wishes board told c.args.tier.now.state c.take_wishes.new.tier.state c.ranked_turn.new.tier.state c.ranked_turn.result c.take_wishes.ensures.state c.requires.wishes c.ranked_turn.ensures.answer c.ranked_turn.ensures.none

pub returns-clause-journal : goal.returns-clause-journal
returns-clause-journal g c =
    let board = board_of (g.W.Wishes.wish_of c.args.wishes.now) (g.W.Wishes.version_of c.args.wishes.now) in
    subst (λ (journal : List _). IfOk c.ranked_turn.result (λ a. c.ranked_turn.new.tier.state.journal ≡ journal ++ entries_of a))
    (begun_journal board c.args.tier.now.state c.take_wishes.new.tier.state c.take_wishes.ensures.state) c.ranked_turn.ensures.journal

pub returns-clause-brings : goal.returns-clause-brings
returns-clause-brings g c =
    let board = board_of (g.W.Wishes.wish_of c.args.wishes.now) (g.W.Wishes.version_of c.args.wishes.now) in
    subst (λ (sizes : List ℕ). IfOk c.ranked_turn.result (λ a. BringsBody sizes a c.ranked_turn.new.tier.state))
    (begun_sizes board c.args.tier.now.state c.take_wishes.new.tier.state c.take_wishes.ensures.state) c.ranked_turn.ensures.brings

pub returns-clause-taken : goal.returns-clause-taken
returns-clause-taken g c = λ tells.
    let board = board_of (g.W.Wishes.wish_of c.args.wishes.now) (g.W.Wishes.version_of c.args.wishes.now) in
    let before = g.B.Supply.taken c.args.below.now in
    let now = g.B.Supply.taken c.ranked_turn.new.below in
    subst (λ (n : ℕ). MatchResult c.ranked_turn.result (λ a. TurnTakes c.args.tier.now.state.sizes a before now) (λ _. RisesAtMost before now n))
    (begun_next_size board c.args.tier.now.state c.take_wishes.new.tier.state c.take_wishes.ensures.state)
    (subst (λ (sizes : List ℕ). MatchResult c.ranked_turn.result (λ a. TurnTakes sizes a before now) (λ _. RisesAtMost before now (next_size c.take_wishes.new.tier.state)))
    (begun_sizes board c.args.tier.now.state c.take_wishes.new.tier.state c.take_wishes.ensures.state) (c.ranked_turn.ensures.taken tells))
