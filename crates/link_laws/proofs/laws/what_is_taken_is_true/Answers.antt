use Rattle.link_laws.specs.CoreLaws.{taken_true}
use Rattle.link_laws.proofs.laws.what_is_taken_is_true.Goals as goal

pub returns : goal.returns
returns c = taken_true
