use Rattle.detail_laws.specs.Reached.{reached_detail}
use Rattle.detail_laws.proofs.settling_reaches_the_wanted_detail.Goals as goal

pub returns : goal.returns
returns c = record { reached = reached_detail }
