use Rattle.std.proofs.Common.{Ok, Err}
use Rattle.bench_run.specs.StripChecks.{index_answer}
use Rattle.bench_run.proofs.strips.strip_index.Goals as goal

pub memory_of_read-requires : goal.memory_of_read-requires
memory_of_read-requires c = index_answer c.args.columns c.requires.least c.requires.most c.args.store.now.files c.requires.file (Err c.in-Err.refusal) c.in-Err.ensures.exact c.in-Err.ensures.store.cause

pub returns-in-Ok-clause-index : goal.returns-in-Ok-clause-index
returns-in-Ok-clause-index c = index_answer c.args.columns c.requires.least c.requires.most c.args.store.now.files c.requires.file (Ok c.in-Ok.index) c.in-Ok.ensures.exact tt
