use Rattle.level_model.specs.LevelLists.{levels_start}
use Rattle.level_model.proofs.lists.a_chain_begins_with_levels.Goals as goal

pub returns : goal.returns
returns c = levels_start
