use Rattle.mesh_laws.specs.Verdicts.{one_root, not_both, one_fault}
use Rattle.mesh_laws.proofs.verdicts.a_file_has_one_verdict.Goals as goal

pub returns-clause-one_root : goal.returns-clause-one_root
returns-clause-one_root c = one_root

pub returns-clause-not_both : goal.returns-clause-not_both
returns-clause-not_both c = not_both

pub returns-clause-one_fault : goal.returns-clause-one_fault
returns-clause-one_fault c = one_fault
