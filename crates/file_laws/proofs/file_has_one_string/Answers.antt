use Rattle.file_laws.specs.Files.{same_string}
use Rattle.file_laws.proofs.file_has_one_string.Goals as goal

pub returns : goal.returns
returns c = same_string
