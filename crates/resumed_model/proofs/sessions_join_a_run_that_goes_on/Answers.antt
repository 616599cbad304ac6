use Rattle.resumed_model.specs.RejoinLaws.{rejoined_goes_on, rejoin_both, rejoined_chain, rejoined_unused, all_stand, all_apart, rejoined_one}
use Rattle.resumed_model.proofs.sessions_join_a_run_that_goes_on.Goals as goal

pub returns-clause-goes_on : goal.returns-clause-goes_on
returns-clause-goes_on c = rejoined_goes_on

pub returns-clause-more : goal.returns-clause-more
returns-clause-more c = rejoin_both

pub returns-clause-chain : goal.returns-clause-chain
returns-clause-chain c = rejoined_chain

pub returns-clause-unused : goal.returns-clause-unused
returns-clause-unused c = rejoined_unused

pub returns-clause-stand : goal.returns-clause-stand
returns-clause-stand c = all_stand

pub returns-clause-apart : goal.returns-clause-apart
returns-clause-apart c = all_apart

pub returns-clause-one : goal.returns-clause-one
returns-clause-one c = rejoined_one
