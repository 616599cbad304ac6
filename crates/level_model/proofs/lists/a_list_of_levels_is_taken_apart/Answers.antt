use Rattle.level_model.specs.LevelLists.{one_level, levels_below, level_above_again, lower_again}
use Rattle.level_model.proofs.lists.a_list_of_levels_is_taken_apart.Goals as goal

pub returns : goal.returns
returns c = record { one = one_level; below = levels_below; above = level_above_again; lower = lower_again }
