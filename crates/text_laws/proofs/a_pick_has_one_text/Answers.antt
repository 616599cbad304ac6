use Rattle.text_laws.specs.Picks.{pick_text_is_one}
use Rattle.text_laws.proofs.a_pick_has_one_text.Goals as goal

pub returns : goal.returns
returns c = pick_text_is_one
