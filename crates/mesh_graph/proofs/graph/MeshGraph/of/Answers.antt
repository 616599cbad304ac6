use Rattle.std.proofs.Common.{◌∙◌, length}
use Rattle.mesh_graph.specs.NearGrid.{near_grid}
use Rattle.mesh_graph.proofs.RuleLaws.{tails_in, heads_in}
use Rattle.mesh_graph.proofs.graph.MeshGraph.of.Goals as goal

pub of-requires-clause-ends : goal.of-requires-clause-ends
of-requires-clause-ends c = heads_in (length c.args.nodes.now) c.args.fields.now c.requires.fields

pub of-requires-2-clause-ends : goal.of-requires-2-clause-ends
of-requires-2-clause-ends c = tails_in (length c.args.nodes.now) c.args.fields.now c.requires.fields

pub levels_of-requires-clause-tails : goal.levels_of-requires-clause-tails
levels_of-requires-clause-tails c = rw c.in_ok-incoming.ensures.as_many (tails_in (length c.args.nodes.now) c.args.fields.now c.requires.fields)

pub levels_of-requires-clause-heads : goal.levels_of-requires-clause-heads
levels_of-requires-clause-heads c = rw c.in_ok-incoming.ensures.as_many (heads_in (length c.args.nodes.now) c.args.fields.now c.requires.fields)

pub verdict_of-verdict-requires-clause-tails : goal.verdict_of-verdict-requires-clause-tails
verdict_of-verdict-requires-clause-tails c = tails_in (length c.args.nodes.now) c.args.fields.now c.requires.fields

pub verdict_of-verdict-requires-clause-heads : goal.verdict_of-verdict-requires-clause-heads
verdict_of-verdict-requires-clause-heads c = heads_in (length c.args.nodes.now) c.args.fields.now c.requires.fields

pub verdict_of-verdict-requires-clause-near : goal.verdict_of-verdict-requires-clause-near
verdict_of-verdict-requires-clause-near c = near_grid c.args.nodes.now c.requires.nodes

pub returns : goal.returns
returns c version = record {
  incoming_count = c.in_ok-incoming.ensures.as_many;
  outgoing_count = c.in_ok-outgoing.ensures.as_many;
  level_count = c.in_ok-levels.ensures.as_many ∙ c.in_ok-incoming.ensures.as_many;
  incoming_is = c.in_ok-incoming.ensures.each;
  outgoing_is = c.in_ok-outgoing.ensures.each;
  level_is = c.in_ok-levels.ensures.found;
  no_level_is = c.in_ok-levels.ensures.ungrounded;
  verdict_is = c.verdict_of-verdict.ensures version;
}
