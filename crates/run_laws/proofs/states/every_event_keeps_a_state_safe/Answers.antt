use Rattle.run_laws.specs.SafeLaws.{event_keeps_safe}
use Rattle.run_laws.proofs.states.every_event_keeps_a_state_safe.Goals as goal

pub returns : goal.returns
returns c = event_keeps_safe
