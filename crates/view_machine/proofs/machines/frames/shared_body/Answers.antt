use Rattle.std.specs.Arc.{arc_value}
use Rattle.view_machine.specs.FrameLines.{body_not_missing}
use Rattle.view_machine.proofs.machines.frames.shared_body.Goals as goal

pub unreachable-requires : goal.unreachable-requires
unreachable-requires g c = body_not_missing c.args.chain.now.mesh.lists.index.fields c.args.chain.now.tiers c.args.patch c.requires (λ body. arc_value body.now) c.top_body.result c.top_body.ensures c.in-None.is
