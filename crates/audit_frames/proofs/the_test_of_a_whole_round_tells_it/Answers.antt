use Rattle.audit_frames.specs.WholeRounds.{whole_is, whole_from}
use Rattle.audit_frames.proofs.the_test_of_a_whole_round_tells_it.Goals as goal

pub returns : goal.returns
returns c = λ rules tries. (whole_is rules tries, whole_from rules tries)
