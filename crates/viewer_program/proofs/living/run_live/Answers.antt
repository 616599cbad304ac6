use Rattle.viewer_program.specs.Outside.{store_seen}
use Rattle.viewer_program.proofs.living.run_live.Goals as goal

pub returns-in-Ok-clause-ends : goal.returns-in-Ok-clause-ends
returns-in-Ok-clause-ends g c =
    c.drive_opened.ensures.ends c.args.name.now (store_seen (g.S.Store.files c.args.store.now) (g.S.Store.faults c.args.store.now) (g.S.Store.taken c.args.store.now)) c.in-Ok.ensures.found
