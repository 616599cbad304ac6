use Rattle.std.proofs.Common.{[], refl}
use Rattle.file_model.specs.declared.faults.FileFault.TheVariants.{Truncated}
use Rattle.file_laws.specs.Growing.{file_fault}
use Rattle.file_laws.proofs.truncated_tells_the_length.Goals as goal

pub returns : goal.returns
returns c = λ bytes end is. (file_fault bytes [] (Truncated end) is).0 end refl
