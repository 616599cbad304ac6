use Rattle.mesh_maker.proofs.Grown.{all_nodes}
use Rattle.mesh_maker.proofs.nodes.add_nodes.Goals as goal

pub returns : goal.returns
returns c = all_nodes c.add_node-2.result c.args.parts.now c.add_node.new.self c.add_squares.new.parts c.add_edges.new.parts c.add_node-2.new.self c.root_node.result c.sink_node.result c.args.columns c.in_ok-add_node.ensures.ok c.in_ok-add_squares.ensures c.in_ok-add_edges.ensures c.root_node.ensures c.sink_node.ensures c.add_node-2.ensures.ok
