use Rattle.round_laws.specs.Cuts.{round_boundary}
use Rattle.round_laws.proofs.frame_of_a_round_has_the_boundary.Goals as goal

pub returns : goal.returns
returns c = record { boundary = round_boundary }
