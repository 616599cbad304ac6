use Rattle.std.proofs.Common.{◌≡◌, length, arith}
use Rattle.view_planes.specs.NodeBalls.{centre_in_grid, radius_bound}
use Rattle.still_texts.specs.Sides.{sides_of}
use Rattle.still_texts.proofs.SideLemmas.{line_more, lines_whole}
use Rattle.still_texts.proofs.sides.sides_text.Goals as goal

pub side-requires-clause-centre : goal.side-requires-clause-centre
side-requires-clause-centre c =
    centre_in_grid c.args.mesh.now.lists.index.nodes c.index-in-loop-node.ensures.facts.rules.nodes c.loop-node.node c.node.result (rw (← c.index-in-loop-node.ensures.value) c.node.ensures)

pub side-requires-clause-radius : goal.side-requires-clause-radius
side-requires-clause-radius c =
    radius_bound c.args.mesh.now.lists.index.nodes c.index-in-loop-node.ensures.facts.rules.nodes c.loop-node.node c.node.result (rw (← c.index-in-loop-node.ensures.value) c.node.ensures)

pub loop-node-preserved : goal.loop-node-preserved
loop-node-preserved c =
    line_more c.args.plane.now c.args.mesh.now.lists.index.nodes c.loop-node.node c.node.result c.loop-node.text.items c.add_side.new.text.items
    (rw (← c.index-in-loop-node.ensures.value) c.node.ensures) c.loop-node.invariant (rw c.side.ensures at c.in_ok-add_side.ensures)

pub returns-clause-of_file : goal.returns-clause-of_file
returns-clause-of_file c = λ file is.
    let count = rw c.index.ensures.value at c.node_count-node-end.ensures.value in
    let all : c.loop-node.node ≡ length c.args.mesh.now.lists.index.nodes = omega (arith, count, c.loop-node-test.false, c.loop-node.auto.node-end) in
    rw is.index (lines_whole c.args.plane.now c.args.mesh.now.lists.index.nodes c.loop-node.node c.loop-node.text.items all c.loop-node.invariant)

pub returns-clause-lines : goal.returns-clause-lines
returns-clause-lines c =
    let count = rw c.index.ensures.value at c.node_count-node-end.ensures.value in
    let all : c.loop-node.node ≡ length c.args.mesh.now.lists.index.nodes = omega (arith, count, c.loop-node-test.false, c.loop-node.auto.node-end) in
    record {
      sides = sides_of c.args.plane.now c.args.mesh.now.lists.index.nodes;
      is = lines_whole c.args.plane.now c.args.mesh.now.lists.index.nodes c.loop-node.node c.loop-node.text.items all c.loop-node.invariant;
    }
