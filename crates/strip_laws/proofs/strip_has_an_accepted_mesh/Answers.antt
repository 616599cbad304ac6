use Rattle.strip_laws.specs.StripRules.{strip_is_accepted}
use Rattle.strip_laws.proofs.strip_has_an_accepted_mesh.Goals as goal

pub returns : goal.returns
returns c = strip_is_accepted
