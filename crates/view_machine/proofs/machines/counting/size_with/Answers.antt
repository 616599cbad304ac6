use Rattle.std.proofs.Common.{length, sym, ap, ◌∙◌}
use Rattle.std.specs.Map.{keys_of}
use Rattle.std.proofs.lemmas.Map.Entries.{length-keys_of}
use Rattle.edge_chain.specs.NetLaws.{open_from_net}
use Rattle.view_machine.proofs.machines.counting.size_with.Goals as goal

pub returns : goal.returns
returns c = λ frame cut patches net. record {
  nodes = ap length cut;
  patches = ap length patches;
  triangles = sym net.count ∙ sym c.triangles.ensures;
  open_edges = record { pairs = keys_of c.args.edges.now.entries; are_open = open_from_net frame.triangles c.args.edges.now net; number = length-keys_of c.args.edges.now.entries ∙ sym c.open_edges.ensures.pairs };
}
