use Rattle.round_laws.specs.Answers.{tried_epochs, tried_more, tried_open}
use Rattle.round_laws.proofs.tries_use_epochs_in_order.Goals as goal

pub returns-clause-epochs : goal.returns-clause-epochs
returns-clause-epochs c = tried_epochs

pub returns-clause-answered : goal.returns-clause-answered
returns-clause-answered c = tried_more

pub returns-clause-stands : goal.returns-clause-stands
returns-clause-stands c = tried_open
