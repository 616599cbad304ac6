use Rattle.link_laws.specs.TieLaws.{sent_is_event, received_is_event}
use Rattle.link_laws.proofs.laws.steps_are_events.Goals as goal

pub returns-clause-sends : goal.returns-clause-sends
returns-clause-sends c = sent_is_event

pub returns-clause-receives : goal.returns-clause-receives
returns-clause-receives c = received_is_event
