use Rattle.run_laws.specs.PrintedFrames.{prints_frame, prints_along}
use Rattle.run_laws.proofs.lines.each_frame_shows_a_whole_round.Goals as goal

pub returns-clause-line : goal.returns-clause-line
returns-clause-line c = prints_frame

pub returns-clause-run : goal.returns-clause-run
returns-clause-run c = prints_along
