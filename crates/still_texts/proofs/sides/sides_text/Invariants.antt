-- The nodes before this one have their lines.
use Rattle.still_texts.proofs.SideLemmas.{AreLinesBefore}
use Rattle.still_texts.proofs.sides.sides_text.Given as goal

abbrev pub invariant-loop-node : goal.invariant-loop-node
invariant-loop-node l = AreLinesBefore l.plane l.mesh.lists.index.nodes l.node l.text.items
