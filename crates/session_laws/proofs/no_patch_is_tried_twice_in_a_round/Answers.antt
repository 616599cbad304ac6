use Rattle.session_laws.specs.AskedPatches.{never_tried}
use Rattle.session_laws.proofs.no_patch_is_tried_twice_in_a_round.Goals as goal

pub returns : goal.returns
returns c = never_tried
