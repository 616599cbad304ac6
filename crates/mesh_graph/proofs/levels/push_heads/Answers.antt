use Rattle.std.proofs.Common.{sym}
use Rattle.mesh_graph.specs.Levels.{head_of}
use Rattle.mesh_graph.proofs.ArcLaws.{head_is, heads_more}
use Rattle.mesh_graph.proofs.levels.push_heads.Goals as goal

pub loop-patch-preserved : goal.loop-patch-preserved
loop-patch-preserved c =
    heads_more (head_of c.args.fields.now) c.args.waiting.now.items c.loop-patch.waiting.items c.push.new.self.items c.args.patches.now c.loop-patch.patch-index _ c.loop-patch-test.true c.loop-patch.invariant c.in_ok-push.ensures.items
    (sym (head_is c.args.fields.now _ _ (c.requires c.loop-patch.patch-index 0 c.loop-patch-test.true)))
