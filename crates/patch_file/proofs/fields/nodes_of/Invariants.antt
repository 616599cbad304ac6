use Rattle.std.proofs.Common.{◌≡◌, ◌-◌}
use Rattle.file_model.specs.Reading.{node_at, many_at}
use Rattle.patch_file.proofs.Many.{with_front}
use Rattle.patch_file.proofs.fields.nodes_of.Given as goal

abbrev pub invariant-loop-v : goal.invariant-loop-v
invariant-loop-v l = with_front l.nodes.items (many_at (node_at l.end) (l.count - l.v) l.v l.rest) ≡ many_at (node_at l.end) l.count 0 l.bytes
