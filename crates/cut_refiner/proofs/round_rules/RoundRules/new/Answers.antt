-- The scores are those of the want.
use Rattle.cut_refiner.proofs.RuleLaws.{are_rules, rules_are}
use Rattle.cut_refiner.proofs.round_rules.RoundRules.new.Goals as goal

pub invariant_of-result : goal.invariant_of-result
invariant_of-result g c =
    are_rules c.args.mesh.now.lists c.in_ok-scores.scores.items (g.W.Want.scores c.args.want.now c.args.mesh.now.lists) c.threshold-threshold.result (g.W.Want.least c.args.want.now) c.args.limit
    c.index-index.ensures.facts c.in_ok-scores.ensures c.threshold-threshold.ensures (g.met.W.Want.as_many c.args.want.now c.args.mesh.now.lists) (g.met.W.Want.falls c.args.want.now c.args.mesh.now.lists c.args.limit c.index-index.ensures.facts)

pub returns : goal.returns
returns g c =
    rules_are c.args.mesh.now.lists c.in_ok-scores.scores.items (g.W.Want.scores c.args.want.now c.args.mesh.now.lists) c.threshold-threshold.result (g.W.Want.least c.args.want.now) c.args.limit c.in_ok-scores.ensures c.threshold-threshold.ensures
