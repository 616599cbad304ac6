-- Every try so far was granted, so nothing is owed.
use Rattle.std.proofs.Common.{◌≡◌, ◌-◌, [], length}
use Rattle.std.specs.List.{AllByRecursion}
use Rattle.still_texts.specs.Full.{want_rules}
use Rattle.still_texts.proofs.rounds.granted_round.Given as goal

abbrev pub invariant-loop-round : goal.invariant-loop-round
invariant-loop-round g l = record {
  rules : l.round.rules ≡ want_rules (g.W.Want.scores l.want) (g.W.Want.least l.want) l.limit l.mesh.lists;
  owed : l.round.owed ≡ [];
  granted : AllByRecursion (λ answer. answer.epoch ≡ 1) l.round.tries;
}

abbrev pub decreases-loop-round : goal.decreases-loop-round
decreases-loop-round g l = length l.round.rules.mesh.index.fields - length l.round.tries
