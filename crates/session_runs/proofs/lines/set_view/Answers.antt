use Rattle.std.proofs.lemmas.Result.{on_ok_weaker}
use Rattle.shared_sessions.specs.LineLaws.{viewed_line}
use Rattle.session_runs.proofs.lines.set_view.Goals as goal

pub returns-clause-ok : goal.returns-clause-ok
returns-clause-ok g c =
    on_ok_weaker c.add_view.result
    (λ adds table w seat over pass.
    viewed_line table w c.args.number seat c.args.out.now.items c.add_view.new.out.items c.args.session.now
    c.set_view.new.self c.args.view over c.requires.number pass c.number-number.ensures.facts c.set_view.ensures.state
    c.set_view.ensures.same c.number-number-2.ensures.facts adds)
    c.add_view.ensures.ok
