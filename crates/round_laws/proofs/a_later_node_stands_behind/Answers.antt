use Rattle.round_laws.specs.Passing.{gone_before, rest_behind, stands_behind}
use Rattle.round_laws.proofs.a_later_node_stands_behind.Goals as goal

pub returns-clause-in_front : goal.returns-clause-in_front
returns-clause-in_front c = gone_before

pub returns-clause-rest : goal.returns-clause-rest
returns-clause-rest c = rest_behind

pub returns-clause-behind : goal.returns-clause-behind
returns-clause-behind c = stands_behind
