use Rattle.file_laws.specs.Files.{file_text-in, file_in-text}
use Rattle.file_laws.proofs.reading_is_exact.Goals as goal

pub returns : goal.returns
returns c = λ file bytes fits. (file_text-in file bytes fits, file_in-text file bytes)
