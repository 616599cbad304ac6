use Rattle.round_laws.specs.Steps.{after_refusal, after_grant, after_last_grant}
use Rattle.round_laws.proofs.an_answer_moves_a_round_on.Goals as goal

pub returns-clause-refused : goal.returns-clause-refused
returns-clause-refused c = after_refusal

pub returns-clause-granted : goal.returns-clause-granted
returns-clause-granted c = after_grant

pub returns-clause-granted_last : goal.returns-clause-granted_last
returns-clause-granted_last c = after_last_grant
