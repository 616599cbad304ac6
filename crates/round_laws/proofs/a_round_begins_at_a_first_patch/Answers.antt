use Rattle.round_laws.specs.Passing.{passes, begins_at, has_first_patch}
use Rattle.round_laws.proofs.a_round_begins_at_a_first_patch.Goals as goal

pub returns-clause-passes : goal.returns-clause-passes
returns-clause-passes c = passes

pub returns-clause-begins : goal.returns-clause-begins
returns-clause-begins c = begins_at

pub returns-clause-first : goal.returns-clause-first
returns-clause-first c = has_first_patch
