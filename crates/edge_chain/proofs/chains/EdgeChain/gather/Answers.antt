use Rattle.std.proofs.Common.{◌∙◌}
use Rattle.edge_chain.proofs.ViewLaws.{gathered_chain}
use Rattle.edge_chain.proofs.chains.EdgeChain.gather.Goals as goal

pub returns-then-not-self : goal.returns-then-not-self
returns-then-not-self c = gathered_chain c.self.inside.sums.items c.gather_sums.new.sums.items c.self.inside.triangles c.gather_sums.ensures ∙ c.self.view_is
