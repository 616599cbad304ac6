use Rattle.token_words.proofs.Masks.{has_session-with}
use Rattle.token_words.proofs.session_sets.SessionSet.insert.Goals as goal

pub returns : goal.returns
returns c = has_session-with _ _ c.requires
