use Rattle.session_laws.specs.StepLaws.{step_is}
use Rattle.session_laws.specs.FreeLaws.{free_step_is}
use Rattle.session_laws.specs.DoneLaws.{step_done}
use Rattle.session_laws.proofs.steps_come_to_an_end.Goals as goal

pub returns-clause-steps : goal.returns-clause-steps
returns-clause-steps c = λ mesh accepted s is epoch. (step_is mesh accepted s is epoch).lowers

pub returns-clause-done : goal.returns-clause-done
returns-clause-done c = λ mesh s is view viewed epoch. step_done mesh epoch s is view viewed

pub returns-clause-freed : goal.returns-clause-freed
returns-clause-freed c = λ mesh accepted s is. (free_step_is mesh accepted s is).frees
