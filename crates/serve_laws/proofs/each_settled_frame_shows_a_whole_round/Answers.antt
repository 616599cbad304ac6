use Rattle.run_laws.specs.PrintedFrames.{prints_along}
use Rattle.serve_model.specs.ServeTexts.{last_orders}
use Rattle.serve_laws.proofs.each_settled_frame_shows_a_whole_round.Goals as goal

pub returns : goal.returns
returns c w bodies lines text is_told world is = prints_along w bodies is.left is.last (last_orders is.sessions) is.dids is_told world is.is_left.safe is.runs
