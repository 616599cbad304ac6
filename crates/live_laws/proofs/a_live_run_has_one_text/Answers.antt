use Rattle.live_laws.specs.OneLive.{live_dids_are_one, live_text_is_one}
use Rattle.live_laws.proofs.a_live_run_has_one_text.Goals as goal

pub returns-clause-dids : goal.returns-clause-dids
returns-clause-dids c = live_dids_are_one

pub returns-clause-text : goal.returns-clause-text
returns-clause-text c = live_text_is_one
