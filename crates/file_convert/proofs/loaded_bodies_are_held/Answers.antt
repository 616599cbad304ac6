use Rattle.file_convert.specs.Loaded.{loaded_are_held}
use Rattle.file_convert.proofs.loaded_bodies_are_held.Goals as goal

pub returns : goal.returns
returns c = loaded_are_held
