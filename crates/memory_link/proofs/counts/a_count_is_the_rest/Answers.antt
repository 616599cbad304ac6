use Rattle.memory_link.specs.CountLaws.{counted-rest, counted-multiple}
use Rattle.memory_link.proofs.counts.a_count_is_the_rest.Goals as goal

pub returns-clause-rest : goal.returns-clause-rest
returns-clause-rest c = counted-rest

pub returns-clause-multiple : goal.returns-clause-multiple
returns-clause-multiple c = counted-multiple
