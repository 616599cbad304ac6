use Rattle.strip_laws.specs.StripCounts.{bodies_size_1, bodies_size_2}
use Rattle.strip_laws.specs.StripRules.{file_length_1, file_length_2}
use Rattle.strip_laws.proofs.strip_has_so_many_bytes.Goals as goal

pub returns-clause-bodies_1 : goal.returns-clause-bodies_1
returns-clause-bodies_1 c = bodies_size_1

pub returns-clause-bodies_2 : goal.returns-clause-bodies_2
returns-clause-bodies_2 c = bodies_size_2

pub returns-clause-file_1 : goal.returns-clause-file_1
returns-clause-file_1 c = file_length_1

pub returns-clause-file_2 : goal.returns-clause-file_2
returns-clause-file_2 c = file_length_2
