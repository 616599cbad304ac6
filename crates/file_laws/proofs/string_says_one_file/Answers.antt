use Rattle.file_laws.specs.Files.{same_file}
use Rattle.file_laws.proofs.string_says_one_file.Goals as goal

pub returns : goal.returns
returns c = same_file
