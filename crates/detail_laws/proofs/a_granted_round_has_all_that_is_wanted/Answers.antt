use Rattle.round_laws.specs.FullRounds.{full_round, tries_are_of_wanted}
use Rattle.detail_laws.proofs.a_granted_round_has_all_that_is_wanted.Goals as goal

pub returns : goal.returns
returns c = record { full = full_round; wanted = tries_are_of_wanted }
