use Rattle.left_runs.specs.LeftMachines.{world_is_left, levels_are_tiers, left_rests}
use Rattle.left_runs.proofs.a_machine_goes_on_over_what_is_left.Goals as goal

pub returns-clause-world : goal.returns-clause-world
returns-clause-world c = world_is_left

pub returns-clause-tiers : goal.returns-clause-tiers
returns-clause-tiers c = levels_are_tiers

pub returns-clause-rests : goal.returns-clause-rests
returns-clause-rests c = left_rests
