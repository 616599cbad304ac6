use Rattle.bench_laws.specs.FinishedTries.{finished_answered}
use Rattle.bench_laws.proofs.a_finished_round_is_answered_by_epochs.Goals as goal

pub returns : goal.returns
returns c = finished_answered
