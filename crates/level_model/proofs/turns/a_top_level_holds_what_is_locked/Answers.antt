use Rattle.level_model.specs.LevelFacts.{level_body, top_holds}
use Rattle.level_model.proofs.turns.a_top_level_holds_what_is_locked.Goals as goal

pub returns : goal.returns
returns c = record { holds = top_holds; body = level_body }
