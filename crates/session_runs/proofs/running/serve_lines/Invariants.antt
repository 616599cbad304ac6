-- The lines before this one were served.
use Rattle.shared_sessions.specs.SessionLines.{IsUnderWay}
use Rattle.session_runs.specs.SetupWorlds.{setup_world}
use Rattle.session_runs.proofs.running.serve_lines.Given as goal

abbrev pub invariant-loop-line : goal.invariant-loop-line
invariant-loop-line g l =
    IsUnderWay l.table (setup_world g.N.Naming.setup l.mesh.lists) l.number l.lines l.line-index l.initial.seat l.seat
    l.session l.initial.out.items l.out.items
