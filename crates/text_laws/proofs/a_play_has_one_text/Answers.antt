use Rattle.text_laws.specs.Plays.{world_is_one, play_text_is_one}
use Rattle.text_laws.proofs.a_play_has_one_text.Goals as goal

pub returns-clause-worlds : goal.returns-clause-worlds
returns-clause-worlds c = world_is_one

pub returns-clause-texts : goal.returns-clause-texts
returns-clause-texts c = play_text_is_one
