use Rattle.bench_laws.specs.BenchTexts.{bench_counts_are, bench_text_is}
use Rattle.bench_laws.proofs.a_bench_run_has_one_summary.Goals as goal

pub returns : goal.returns
returns c = record { counts = bench_counts_are; text = bench_text_is }
