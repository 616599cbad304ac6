-- The node's last body was added, and its sums are compared.
use Rattle.std.proofs.Common.{arith}
use Rattle.dag_check.specs.NodeSums.{last}
use Rattle.dag_check.proofs.node_sums.NodeSums.take.Goals as goal

pub returns : goal.returns
returns c = last (omega arith) c.grow.new.self c.in_ok-grow.ensures (omega arith) c.settle.ensures.dropped c.settle.ensures.compared
