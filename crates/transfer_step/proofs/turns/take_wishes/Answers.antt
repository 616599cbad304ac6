-- The tier begins with the wishes where the versions differ.
use Rattle.std.proofs.Common.{ap, sym, ◌∙◌}
use Rattle.tier_model.specs.Tiers.{TierState}
use Rattle.tier_model.specs.Changes.{renewed}
use Rattle.tier_laws.specs.TurnLaws.{begun_same}
use Rattle.transfer_step.specs.TurnWords.{board_of}
use Rattle.transfer_step.proofs.WholeTurns.{begun_anew}
use Rattle.transfer_step.proofs.turns.take_wishes.Goals as goal

pub returns-then-version-clause-state : goal.returns-then-version-clause-state
returns-then-version-clause-state g c =
    let board = board_of (g.W.Wishes.wish_of c.args.wishes.now) (g.W.Wishes.version_of c.args.wishes.now) in
    c.renew.ensures.state
    ∙ ap (λ (s : TierState). renewed s c.version-version.result) c.rank.ensures.state
    ∙ ap (renewed _) c.version-version.ensures
    ∙ begun_anew board c.args.tier.now.state (λ same. c.if-version.true (c.version-version.ensures ∙ same ∙ sym c.version.ensures))

pub returns-else-version-clause-state : goal.returns-else-version-clause-state
returns-else-version-clause-state g c =
    let board = board_of (g.W.Wishes.wish_of c.args.wishes.now) (g.W.Wishes.version_of c.args.wishes.now) in
    sym (begun_same board c.args.tier.now.state (sym c.version-version.ensures ∙ c.if-version.false ∙ c.version.ensures))
