use Rattle.audit_sessions.specs.Served.{prints_whole, done_is_answered}
use Rattle.audit_sessions.proofs.answers_determine_a_round.Goals as goal

pub returns-clause-can : goal.returns-clause-can
returns-clause-can c = prints_whole

pub returns-clause-round : goal.returns-clause-round
returns-clause-round c = done_is_answered
