use Rattle.serve_laws.specs.OneServed.{serve_one}
use Rattle.serve_laws.proofs.a_served_session_does_one_thing.Goals as goal

pub returns : goal.returns
returns c = serve_one
