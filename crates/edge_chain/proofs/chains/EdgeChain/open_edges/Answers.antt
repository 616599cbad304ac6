use Rattle.edge_chain.specs.NetLaws.{open_from_net}
use Rattle.edge_chain.proofs.chains.EdgeChain.open_edges.Goals as goal

pub returns-clause-nets : goal.returns-clause-nets
returns-clause-nets c = λ triangles h. open_from_net triangles c.args.self.now h
