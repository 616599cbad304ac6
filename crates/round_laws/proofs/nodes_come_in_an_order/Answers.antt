use Rattle.round_laws.specs.Before.{before_transitive, before_never_itself, before_total}
use Rattle.round_laws.proofs.nodes_come_in_an_order.Goals as goal

pub returns-clause-transitive : goal.returns-clause-transitive
returns-clause-transitive c = before_transitive

pub returns-clause-never_itself : goal.returns-clause-never_itself
returns-clause-never_itself c = before_never_itself

pub returns-clause-total : goal.returns-clause-total
returns-clause-total c = before_total
