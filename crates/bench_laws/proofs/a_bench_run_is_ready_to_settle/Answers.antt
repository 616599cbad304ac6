use Rattle.bench_laws.specs.BenchLaws.{bench_is_ready}
use Rattle.bench_laws.proofs.a_bench_run_is_ready_to_settle.Goals as goal

pub returns : goal.returns
returns c = bench_is_ready
