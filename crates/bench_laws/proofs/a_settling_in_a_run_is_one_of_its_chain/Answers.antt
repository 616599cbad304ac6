use Rattle.bench_laws.specs.SettlingRuns.{has_settled}
use Rattle.bench_laws.proofs.a_settling_in_a_run_is_one_of_its_chain.Goals as goal

pub returns : goal.returns
returns c = has_settled
