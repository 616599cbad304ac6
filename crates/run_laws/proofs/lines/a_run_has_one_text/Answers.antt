use Rattle.run_laws.specs.OneRun.{run_text_is_one}
use Rattle.run_laws.proofs.lines.a_run_has_one_text.Goals as goal

pub returns : goal.returns
returns c = run_text_is_one
