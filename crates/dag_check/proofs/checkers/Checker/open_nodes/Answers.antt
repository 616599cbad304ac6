-- The nodes that are under way are the open ones.
use Rattle.dag_check.specs.AllNodeSums.{all_sums_of}
use Rattle.dag_check.proofs.OpenLaws.{open_count}
use Rattle.dag_check.proofs.checkers.Checker.open_nodes.Goals as goal

pub returns : goal.returns
returns c = rw (← c.self.view_is) (open_count c.self.inside.index c.self.inside.next (all_sums_of c.self.inside.all_sums) c.self.invariant.all_sums)
