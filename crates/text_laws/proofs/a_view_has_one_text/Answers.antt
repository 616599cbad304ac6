use Rattle.round_model.specs.Views.{view_rules}
use Rattle.text_laws.specs.Meshes.{mesh_is_one}
use Rattle.text_laws.specs.Rounds.{granted_is_one}
use Rattle.text_laws.specs.Texts.{round_text_is_one}
use Rattle.text_laws.proofs.a_view_has_one_text.Goals as goal

pub returns-clause-rounds : goal.returns-clause-rounds
returns-clause-rounds c = granted_is_one

pub returns-clause-meshes : goal.returns-clause-meshes
returns-clause-meshes c = mesh_is_one

pub returns-clause-texts : goal.returns-clause-texts
returns-clause-texts c = λ view. round_text_is_one (view_rules view)
