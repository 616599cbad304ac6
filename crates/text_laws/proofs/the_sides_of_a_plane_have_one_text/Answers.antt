use Rattle.text_laws.specs.Texts.{sides_text_is_one}
use Rattle.text_laws.proofs.the_sides_of_a_plane_have_one_text.Goals as goal

pub returns : goal.returns
returns c = sides_text_is_one
