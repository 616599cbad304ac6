use Rattle.run_laws.specs.SafeLaws.{events_keep_safe}
use Rattle.run_laws.proofs.states.reaching_keeps_a_state_safe.Goals as goal

pub returns : goal.returns
returns c = events_keep_safe
