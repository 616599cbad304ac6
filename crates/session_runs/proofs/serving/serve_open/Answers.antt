use Rattle.session_runs.proofs.serving.serve_open.Goals as goal

pub returns-in-View-clause-pass : goal.returns-in-View-clause-pass
returns-in-View-clause-pass g c = c.set_view-end.ensures.pass c.args.table.now c.args.seat c.requires.seated.pass
