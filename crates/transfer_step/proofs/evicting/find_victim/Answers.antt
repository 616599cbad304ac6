-- The least that may leave is the victim.
use Rattle.std.proofs.Common.{ap, sym, ◌∙◌}
use Rattle.std.specs.Option.{option_and_then}
use Rattle.tier_model.specs.Choices.{victim}
use Rattle.tier_laws.specs.Chosen.{victim-is}
use Rattle.transfer_step.proofs.evicting.find_victim.Goals as goal

pub returns : goal.returns
returns c =
    let s = c.args.tier.now.state in
    victim-is s c.in_ok-ahead.field-0 c.least_held.result c.least_held.ensures ∙ ap (option_and_then (victim s)) (sym c.in_ok-ahead.was)
