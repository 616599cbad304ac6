use Rattle.round_laws.specs.Ascending.{order_has, order_permutes, order_is_inner, order_ascends}
use Rattle.round_laws.proofs.each_inner_node_is_tried_once.Goals as goal

pub returns-clause-permuted : goal.returns-clause-permuted
returns-clause-permuted c = order_permutes

pub returns-clause-each : goal.returns-clause-each
returns-clause-each c = order_has

pub returns-clause-inner : goal.returns-clause-inner
returns-clause-inner c = order_is_inner

pub returns-clause-ascending : goal.returns-clause-ascending
returns-clause-ascending c = order_ascends
