use Rattle.level_model.specs.FirstLevels.{level_starts, level_moves, top_starts, top_of_opened, top_journal}
use Rattle.level_model.proofs.turns.a_level_begins.Goals as goal

pub returns : goal.returns
returns c = record { starts = level_starts; still = level_moves; top = top_starts; opened = top_of_opened; journal = top_journal }
