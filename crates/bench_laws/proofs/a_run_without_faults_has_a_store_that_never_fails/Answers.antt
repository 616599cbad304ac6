use Rattle.bench_laws.specs.Faultless.{lines_gave}
use Rattle.bench_laws.proofs.a_run_without_faults_has_a_store_that_never_fails.Goals as goal

pub returns : goal.returns
returns c = lines_gave
