use Rattle.std.proofs.lemmas.Result.{on_ok_weaker}
use Rattle.shared_sessions.specs.LineLaws.{freed_line}
use Rattle.shared_sessions.proofs.lines.free_session.Goals as goal

pub returns-clause-ok : goal.returns-clause-ok
returns-clause-ok c =
    let freed = c.free_seat-unlocks in
    on_ok_weaker c.add_freed.result
    (λ adds w over.
    freed_line c.args.table.now w c.args.number c.args.seat.now c.args.out.now.items c.add_freed.new.out.items
    freed.new.seat c.args.session.now freed.new.session freed.result over c.requires.number freed.ensures.pass
    freed.ensures.facts freed.ensures.steps freed.ensures.tries adds)
    c.add_freed.ensures.ok
