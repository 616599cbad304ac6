use Rattle.session_laws.specs.StepLaws.{step_is}
use Rattle.session_laws.specs.FreeLaws.{free_step_is}
use Rattle.session_laws.proofs.each_step_does_what_it_says.Goals as goal

pub returns-clause-does : goal.returns-clause-does
returns-clause-does c = λ mesh accepted s is epoch. (step_is mesh accepted s is epoch).does

pub returns-clause-keeps : goal.returns-clause-keeps
returns-clause-keeps c = λ mesh accepted s is epoch. (step_is mesh accepted s is epoch).keeps

pub returns-clause-freed : goal.returns-clause-freed
returns-clause-freed c = λ mesh accepted s is. (free_step_is mesh accepted s is).does

pub returns-clause-keeps_freed : goal.returns-clause-keeps_freed
returns-clause-keeps_freed c = λ mesh accepted s is. (free_step_is mesh accepted s is).keeps
