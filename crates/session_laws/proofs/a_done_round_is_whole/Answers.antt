use Rattle.session_laws.specs.WholeLaws.{done_is_whole}
use Rattle.session_laws.proofs.a_done_round_is_whole.Goals as goal

pub returns : goal.returns
returns c = done_is_whole
