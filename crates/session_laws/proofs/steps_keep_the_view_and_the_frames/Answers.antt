use Rattle.session_laws.specs.ToldLaws.{told_steps, told_finishes, told_frees}
use Rattle.session_laws.proofs.steps_keep_the_view_and_the_frames.Goals as goal

pub returns-clause-steps : goal.returns-clause-steps
returns-clause-steps c = told_steps

pub returns-clause-finishes : goal.returns-clause-finishes
returns-clause-finishes c = told_finishes

pub returns-clause-freed : goal.returns-clause-freed
returns-clause-freed c = told_frees
