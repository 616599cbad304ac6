use Rattle.level_model.specs.LevelLaws.{level_begun}
use Rattle.level_model.proofs.turns.a_level_takes_wishes.Goals as goal

pub returns : goal.returns
returns c = level_begun
