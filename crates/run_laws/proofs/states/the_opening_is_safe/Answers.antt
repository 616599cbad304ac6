use Rattle.run_laws.specs.OpeningLaws.{opening_safe}
use Rattle.run_laws.proofs.states.the_opening_is_safe.Goals as goal

pub returns : goal.returns
returns c = λ w body world holds bodies. opening_safe w world holds body bodies
