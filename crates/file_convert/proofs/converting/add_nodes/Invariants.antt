use Rattle.std.proofs.Common.{◌≡◌, take}
use Rattle.file_convert.specs.Held.{with_all_nodes}
use Rattle.file_convert.proofs.converting.add_nodes.Given as goal

abbrev pub invariant-loop-node : goal.invariant-loop-node
invariant-loop-node l = l.parts ≡ with_all_nodes l.fn.parts (take l.node-index l.nodes)
