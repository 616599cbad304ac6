use Rattle.std.proofs.Common.{length, ap, ◌∙◌}
use Rattle.file_model.specs.Lists.{IndexLists}
use Rattle.session_locks.proofs.PartLaws.{opened_parts, opened_seen}
use Rattle.session_locks.proofs.sessions.Session.open.Goals as goal

pub invariant_of-result : goal.invariant_of-result
invariant_of-result c = opened_parts c.args.mesh.now.lists c.args.number c.patch_count-patches.result c.in_ok-locked.locked c.index.ensures.facts c.in_ok-locked.ensures (c.patch_count-patches.ensures.value ∙ ap (λ (index : IndexLists). length index.fields) c.index.ensures.value)

pub returns : goal.returns
returns c = opened_seen c.args.mesh.now.lists c.args.number c.patch_count-patches.result c.in_ok-locked.locked c.in_ok-locked.ensures (c.patch_count-patches.ensures.value ∙ ap (λ (index : IndexLists). length index.fields) c.index.ensures.value)
