use Rattle.session_laws.specs.FinishLaws.{finished_tries}
use Rattle.session_laws.proofs.a_finished_round_has_the_tries_that_were_made.Goals as goal

pub returns : goal.returns
returns c = finished_tries
