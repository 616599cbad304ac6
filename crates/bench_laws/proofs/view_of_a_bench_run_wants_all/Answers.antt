use Rattle.bench_laws.specs.StripViews.{all_are_wanted, no_others, fits_all}
use Rattle.bench_laws.proofs.view_of_a_bench_run_wants_all.Goals as goal

pub returns : goal.returns
returns c = record { wanted = all_are_wanted; no_others = no_others; fits = fits_all }
