use Rattle.left_runs.specs.LeftRests.{left_world, levels_rest, left_bases}
use Rattle.left_runs.proofs.levels_leave_tiers_at_rest.Goals as goal

pub returns-clause-world : goal.returns-clause-world
returns-clause-world c = left_world

pub returns-clause-rest : goal.returns-clause-rest
returns-clause-rest c = levels_rest

pub returns-clause-bases : goal.returns-clause-bases
returns-clause-bases c = left_bases
