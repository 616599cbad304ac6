use Rattle.grid_vertex.proofs.RootLemmas.{root_of-is}
use Rattle.std.proofs.Common.{sym}
use Rattle.grid_vertex.proofs.roots.isqrt.Goals as goal

pub returns-clause-value : goal.returns-clause-value
returns-clause-value c = sym (root_of-is c.args.n c.raised.result c.raised.ensures.square c.raised.ensures.next)
