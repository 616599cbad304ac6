use Rattle.strip_laws.specs.StripRules.{strip_is_file}
use Rattle.strip_laws.proofs.strip_is_a_patch_file.Goals as goal

pub returns : goal.returns
returns c = strip_is_file
