use Rattle.audit_frames.specs.RisingAnswers.{rises_from, rises_to}
use Rattle.audit_frames.proofs.none_falls_where_all_rise.Goals as goal

pub returns : goal.returns
returns c = λ earlier tries rise. (rises_from earlier tries rise, rises_to earlier tries)
