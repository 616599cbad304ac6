use Rattle.file_laws.specs.Numbers.{same_bytes}
use Rattle.file_laws.proofs.number_has_one_string.Goals as goal

pub returns : goal.returns
returns c = same_bytes
