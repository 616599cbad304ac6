use Rattle.detail_laws.specs.Settled.{settled-holds}
use Rattle.detail_laws.proofs.settling_brings_what_is_wished.Goals as goal

pub returns : goal.returns
returns c = record { holds = settled-holds }
