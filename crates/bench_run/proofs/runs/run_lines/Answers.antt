-- The lines are those of a bench run.
use Rattle.std.proofs.Common.{ℕ, ◌<◌, ◌^◌, List, Option, sym, subst}
use Rattle.session_seats.specs.Seats.{SeatsSeen, HasView}
use Rattle.view_machine.specs.LineEnds.{frames_at}
use Rattle.bench_run.specs.Ran.{runs_bench}
use Rattle.bench_run.proofs.runs.run_lines.Goals as goal

pub count_frame-requires-clause-view : goal.count_frame-requires-clause-view
count_frame-requires-clause-view c = subst (λ (seats : SeatsSeen). HasView seats.sessions 1) (sym c.in_ok-turns.ensures.seats) c.in_ok-begin.ensures.view

pub count_frame-requires-clause-few : goal.count_frame-requires-clause-few
count_frame-requires-clause-few c = subst (λ (seats : SeatsSeen). frames_at seats.sessions 1 < 2 ^ 63) (sym c.in_ok-turns.ensures.seats) c.in_ok-begin.ensures.few

pub returns : goal.returns
returns c =
    runs_bench c.args.columns c.requires.least c.requires.most c.args.machine.now c.begin.new.machine c.settle.new.machine c.count_frame.new.self c.in_ok-turns.turns c.in_ok-frame.frame c.requires.opens c.in_ok-begin.ensures c.in_ok-turns.ensures c.in_ok-frame.ensures.line
