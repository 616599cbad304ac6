use Rattle.live_model.specs.LiveLaws.{lines_give}
use Rattle.live_model.proofs.laws.bodies_are_the_files.Goals as goal

pub returns : goal.returns
returns c = lines_give
