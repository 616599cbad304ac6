-- One more patch is added.
use Rattle.std.proofs.Common.{List, sym, subst, arith}
use Rattle.grid_vertex.specs.declared.triangles.Triangle.{Triangle}
use Rattle.edge_chain.specs.Chains.{IsNetOf}
use Rattle.frame_writer.proofs.FrameLemmas.{triangles_in-take_more}
use Rattle.run_model.specs.Lines.{top_body}
use Rattle.view_machine.proofs.machines.counting.top_edges.Goals as goal

pub loop-patch-preserved : goal.loop-patch-preserved
loop-patch-preserved g c =
    let more = triangles_in-take_more (top_body c.args.chain.now.tiers) c.args.patches.now c.loop-patch.patch-index 0 c.loop-patch-test.true in
    record {
      few = omega (arith, c.in_ok-add_patch.ensures.few, c.loop-patch.invariant.few);
      nets = subst (λ (ts : List Triangle). IsNetOf ts c.add_patch.new.edges) (sym more) (c.in_ok-add_patch.ensures.nets _ c.loop-patch.invariant.nets);
    }
