use Rattle.std.proofs.Common.{Ok, Err, ◌∙◌}
use Rattle.bench_run.specs.StripChecks.{index_told, check_answer}
use Rattle.bench_run.proofs.strips.strip_mesh.Goals as goal

pub check-requires-clause-told : goal.check-requires-clause-told
check-requires-clause-told c =
    index_told c.args.columns c.requires.least c.requires.most c.strip_index.new.store.files (c.strip_index.ensures.files ∙ c.requires.file) c.in_ok-index.index c.in_ok-index.ensures.index

pub memory_of_check-requires : goal.memory_of_check-requires
memory_of_check-requires c =
    check_answer c.args.columns c.requires.least c.requires.most c.strip_index.new.store.files (c.strip_index.ensures.files ∙ c.requires.file) (Err c.in-Err.refusal) c.in-Err.ensures.told c.in-Err.ensures.store.cause

pub returns-in-Ok-clause-mesh : goal.returns-in-Ok-clause-mesh
returns-in-Ok-clause-mesh c =
    check_answer c.args.columns c.requires.least c.requires.most c.strip_index.new.store.files (c.strip_index.ensures.files ∙ c.requires.file) (Ok c.in-Ok.mesh) c.in-Ok.ensures.told tt
