use Rattle.session_laws.specs.FreeLaws.{freed_has_no_use, freed_has_no_round}
use Rattle.session_laws.proofs.a_freed_session_has_no_use.Goals as goal

pub returns-clause-uses : goal.returns-clause-uses
returns-clause-uses c = freed_has_no_use

pub returns-clause-round : goal.returns-clause-round
returns-clause-round c = freed_has_no_round
