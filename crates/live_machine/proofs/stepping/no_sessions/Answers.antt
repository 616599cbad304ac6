use Rattle.live_machine.specs.Stepping.{none_open}
use Rattle.live_machine.proofs.stepping.no_sessions.Goals as goal

pub returns : goal.returns
returns g c = none_open c.args.machine.now c.new.result c.requires c.new.ensures
