use Rattle.std.proofs.lemmas.Result.{on_ok_weaker}
use Rattle.shared_sessions.specs.LineLaws.{closed_line}
use Rattle.session_runs.proofs.lines.close.Goals as goal

pub returns-clause-ok : goal.returns-clause-ok
returns-clause-ok g c =
    let freed = c.free_seat-unlocks in
    on_ok_weaker c.add_closed-closed.result
    (λ adds w.
    closed_line c.args.table.now w c.args.number c.args.seat c.args.out.now.items c.add_closed-closed.new.out.items
    freed.new.seat c.args.session freed.new.session freed.result freed.ensures.idle freed.ensures.steps
    freed.ensures.tries adds)
    c.add_closed-closed.ensures.ok
