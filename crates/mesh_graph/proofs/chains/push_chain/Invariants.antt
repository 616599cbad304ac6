use Rattle.std.proofs.Common.{◌≡◌, List, ℕ, ◌++◌}
use Rattle.mesh_graph.specs.Chains.{IsChain}
use Rattle.mesh_graph.proofs.ChainLaws.{steps_left}
use Rattle.mesh_graph.proofs.chains.push_chain.Given as goal

-- what is left of the chain comes behind what was appended
abbrev pub invariant-loop-at : goal.invariant-loop-at
invariant-loop-at l = record {
  left : (rest : List ℕ) × IsChain l.next l.at rest;
  appended : (chain : List ℕ) → IsChain l.next l.fn.start chain → (rest : List ℕ) × IsChain l.next l.at rest × (l.patches.items ++ rest ≡ l.fn.patches.items ++ chain);
}

abbrev pub decreases-loop-at : goal.decreases-loop-at
decreases-loop-at l = steps_left l.next l.at
