use Rattle.ring_laws.specs.Ring.{ring}
use Rattle.ring_laws.proofs.equal_terms_have_one_value.Goals as goal

pub returns : goal.returns
returns c = ring
