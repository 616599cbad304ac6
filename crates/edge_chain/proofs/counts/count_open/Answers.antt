use Rattle.std.proofs.Common.{sym, ap, length, List, ℤ}
use Rattle.edge_chain.specs.declared.edges.Edge.{Edge}
use Rattle.edge_chain.specs.Edges.{edge_cmp, edge_cmp_total, edge_cmp_exact}
use Rattle.edge_chain.proofs.TotalLaws.{normal_itself}
use Rattle.edge_chain.proofs.counts.count_open.Goals as goal

pub returns-then-gathered : goal.returns-then-gathered
returns-then-gathered c = ap (λ (es : List (Edge × ℤ)). length es) (sym (normal_itself edge_cmp edge_cmp_total edge_cmp_exact c.args.sums.now (c.requires.tight c.if-gathered.true)))
