-- What is kept and what is still to come have the net of all keys.
use Rattle.body_edges.proofs.DropLaws.{Drops}
use Rattle.body_edges.proofs.keys.drop_opposites.Given as goal

abbrev pub invariant-loop-place : goal.invariant-loop-place
invariant-loop-place l = Drops l.kept l.place l.keys.items l.fn.keys.items
