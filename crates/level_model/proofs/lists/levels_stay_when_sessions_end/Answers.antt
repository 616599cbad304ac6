use Rattle.level_model.specs.LevelLists.{levels_later}
use Rattle.level_model.proofs.lists.levels_stay_when_sessions_end.Goals as goal

pub returns : goal.returns
returns c = levels_later
