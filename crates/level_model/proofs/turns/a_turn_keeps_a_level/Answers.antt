use Rattle.level_model.specs.KeptTops.{seated_kept}
use Rattle.level_model.specs.LevelLaws.{level_over_store, level_over_tier}
use Rattle.level_model.proofs.turns.a_turn_keeps_a_level.Goals as goal

pub returns : goal.returns
returns c = record { over_store = level_over_store; over_tier = level_over_tier; seat = seated_kept }
