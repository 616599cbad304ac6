use Rattle.std.proofs.Common.{◌≡◌, ◌+◌, ◌*◌, ◌<◌, length}
use Rattle.std.specs.Prelude.{All}
use Rattle.mesh_graph.specs.Levels.{AreLevels, AreWaiting, levels_missing}
use Rattle.mesh_graph.proofs.levels.levels_of.Given as goal

-- the levels so far are true, and who has none waits or has a parent without one
abbrev pub invariant-loop-node : goal.invariant-loop-node
invariant-loop-node l = record {
  as_many : length l.levels.items ≡ length l.incoming;
  places : length l.places.items ≡ length l.incoming;
  levels : AreLevels l.fields l.levels.items;
  waiting : AreWaiting l.fields l.levels.items l.waiting.items;
  nodes : All (λ v. v < length l.incoming) l.waiting.items;
}

abbrev pub decreases-loop-node : goal.decreases-loop-node
decreases-loop-node l = 65537 * levels_missing l.levels.items + length l.waiting.items
