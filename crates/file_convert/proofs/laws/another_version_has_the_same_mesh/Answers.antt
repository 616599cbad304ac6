use Rattle.file_convert.specs.ConvertLaws.{converted_accepted, accepted_converted}
use Rattle.file_convert.proofs.laws.another_version_has_the_same_mesh.Goals as goal

pub returns-clause-accepted : goal.returns-clause-accepted
returns-clause-accepted c = converted_accepted

pub returns-clause-back : goal.returns-clause-back
returns-clause-back c = accepted_converted
