use Rattle.std.proofs.Common.{refl, arith}
use Rattle.std.proofs.lemmas.Iterator.{YieldsList-from_range, items_from_collect}
use Rattle.mesh_graph.proofs.levels.all_nodes.Goals as goal

pub returns : goal.returns
returns c =
    rw c.in_ok-collect.was at (items_from_collect c.collect.result c.collect.ensures.ran (YieldsList-from_range 0 c.args.nodes c.args.nodes refl (omega arith)))
