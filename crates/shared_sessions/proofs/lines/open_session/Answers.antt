use Rattle.shared_sessions.specs.LineLaws.{opened_line}
use Rattle.shared_sessions.proofs.lines.open_session.Goals as goal

pub returns-clause-ok : goal.returns-clause-ok
returns-clause-ok c = λ table w seat over idle many.
    opened_line table w c.args.number seat c.args.out.now.items c.add_open.new.out.items c.args.mesh.now.lists
    c.in_ok-session.session over idle many c.in_ok-session.ensures c.number-number.ensures.facts
    c.in_ok-add_open.ensures.ok
