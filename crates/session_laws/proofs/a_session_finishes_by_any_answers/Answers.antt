use Rattle.session_laws.specs.GivenAnswers.{finish_by, whole_finishes}
use Rattle.session_laws.proofs.a_session_finishes_by_any_answers.Goals as goal

pub returns-clause-given : goal.returns-clause-given
returns-clause-given c = finish_by

pub returns-clause-whole : goal.returns-clause-whole
returns-clause-whole c = whole_finishes
