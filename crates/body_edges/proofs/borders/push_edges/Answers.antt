-- One edge more.
use Rattle.body_edges.proofs.BorderLaws.{edges_more}
use Rattle.body_edges.proofs.borders.push_edges.Goals as goal

pub loop-key-preserved : goal.loop-key-preserved
loop-key-preserved c =
    edges_more c.args.body.now.lists.points c.args.keys.now c.loop-key.key-index c.loop-key.edges.items c.push.new.self.items
    (record { from = c.point.result; to = c.point-in-loop-key.result }) c.from_place.result c.to_place.result
    c.loop-key-test.true c.loop-key.invariant c.in_ok-push.ensures.items c.from_place.ensures c.to_place.ensures c.point.ensures.there c.point-in-loop-key.ensures.there
