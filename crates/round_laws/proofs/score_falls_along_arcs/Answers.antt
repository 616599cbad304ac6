use Rattle.round_laws.specs.Falls.{score_falls}
use Rattle.round_laws.specs.Parents.{falls_from_eye}
use Rattle.round_laws.proofs.score_falls_along_arcs.Goals as goal

pub returns-clause-falls : goal.returns-clause-falls
returns-clause-falls c = score_falls

pub returns-clause-along_arcs : goal.returns-clause-along_arcs
returns-clause-along_arcs c = falls_from_eye
