use Rattle.resumed_detail.specs.DetailLaws.{settled_show}
use Rattle.resumed_detail.proofs.settled_frames_show_what_is_wanted.Goals as goal

pub returns : goal.returns
returns c = λ w bodies is_told world. settled_show w bodies is_told world
