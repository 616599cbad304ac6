use Rattle.text_laws.specs.Texts.{base_text_is_one}
use Rattle.text_laws.proofs.a_base_has_one_text.Goals as goal

pub returns : goal.returns
returns c = base_text_is_one
