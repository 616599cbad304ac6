use Rattle.file_convert.specs.Whole.{loaded_is_file}
use Rattle.file_convert.proofs.loaded_bodies_are_the_files.Goals as goal

pub returns : goal.returns
returns c = loaded_is_file
