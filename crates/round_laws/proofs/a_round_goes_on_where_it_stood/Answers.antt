use Rattle.round_laws.specs.Epochs.{round_epochs, round_through, round_stands}
use Rattle.round_laws.proofs.a_round_goes_on_where_it_stood.Goals as goal

pub returns-clause-epochs : goal.returns-clause-epochs
returns-clause-epochs c = round_epochs

pub returns-clause-through : goal.returns-clause-through
returns-clause-through c = round_through

pub returns-clause-stands : goal.returns-clause-stands
returns-clause-stands c = round_stands
