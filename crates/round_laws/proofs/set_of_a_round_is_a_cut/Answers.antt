use Rattle.round_laws.specs.Cuts.{round_is_cut, round_members, round_within_limit, round_as_many}
use Rattle.round_laws.proofs.set_of_a_round_is_a_cut.Goals as goal

pub returns-clause-cut : goal.returns-clause-cut
returns-clause-cut c = round_is_cut

pub returns-clause-members : goal.returns-clause-members
returns-clause-members c = round_members

pub returns-clause-limit : goal.returns-clause-limit
returns-clause-limit c = round_within_limit

pub returns-clause-flags : goal.returns-clause-flags
returns-clause-flags c = round_as_many
