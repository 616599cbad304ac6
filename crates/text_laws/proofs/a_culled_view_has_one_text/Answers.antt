use Rattle.view_planes.specs.Planes.{planes_rules}
use Rattle.text_laws.specs.Texts.{round_text_is_one}
use Rattle.text_laws.proofs.a_culled_view_has_one_text.Goals as goal

pub returns : goal.returns
returns c = λ seen. round_text_is_one (planes_rules seen)
