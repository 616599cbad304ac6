use Rattle.bench_laws.specs.DetailAlong.{detail_along}
use Rattle.bench_laws.proofs.a_frame_behind_a_settling_shows_what_is_wanted.Goals as goal

pub returns : goal.returns
returns c = λ w bodies is_told world. detail_along w bodies is_told world
