use Rattle.file_laws.specs.Growing.{file_fault}
use Rattle.file_laws.proofs.fault_stays_whatever_follows.Goals as goal

pub returns : goal.returns
returns c = λ bytes more fault is. (file_fault bytes more fault is).1
