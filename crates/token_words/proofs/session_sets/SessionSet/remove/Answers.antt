use Rattle.std.proofs.Common.{arith}
use Rattle.token_words.proofs.Masks.{has_session-without}
use Rattle.token_words.proofs.session_sets.SessionSet.remove.Goals as goal

pub returns : goal.returns
returns c = has_session-without _ _ (omega arith) c.requires
