use Rattle.round_laws.specs.Parents.{levels_rise, parent_before, inner_parent_first}
use Rattle.round_laws.proofs.parents_are_tried_first.Goals as goal

pub returns-clause-levels : goal.returns-clause-levels
returns-clause-levels c = levels_rise

pub returns-clause-before : goal.returns-clause-before
returns-clause-before c = parent_before

pub returns-clause-first : goal.returns-clause-first
returns-clause-first c = inner_parent_first
