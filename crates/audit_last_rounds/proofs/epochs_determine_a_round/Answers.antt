use Rattle.audit_last_rounds.specs.LastRoundLaws.{finishes_so, finishes_is}
use Rattle.audit_last_rounds.proofs.epochs_determine_a_round.Goals as goal

pub returns-clause-finishes : goal.returns-clause-finishes
returns-clause-finishes c = finishes_so

pub returns-clause-one : goal.returns-clause-one
returns-clause-one c = finishes_is
