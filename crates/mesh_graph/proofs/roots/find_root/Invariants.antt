use Rattle.std.proofs.Common.{length}
use Rattle.mesh_graph.specs.Adjacency.{is_bare_at}
use Rattle.mesh_graph.proofs.RootLaws.{HasFound}
use Rattle.mesh_graph.proofs.roots.find_root.Given as goal

-- the roots so far, and those to come
abbrev pub invariant-loop-node : goal.invariant-loop-node
invariant-loop-node l = HasFound (is_bare_at l.incoming) (length l.incoming) l.node l.found
