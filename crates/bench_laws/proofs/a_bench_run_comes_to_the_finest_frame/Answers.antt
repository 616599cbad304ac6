use Rattle.bench_laws.specs.BenchLaws.{bench_comes_to}
use Rattle.bench_laws.proofs.a_bench_run_comes_to_the_finest_frame.Goals as goal

pub returns : goal.returns
returns c = bench_comes_to
