use Rattle.std.proofs.Common.{arith}
use Rattle.settling_laws.specs.FewTurns.{few_turns}
use Rattle.settling_laws.proofs.a_tier_settles_in_few_turns.Goals as goal

pub returns-clause-few : goal.returns-clause-few
returns-clause-few c = few_turns

pub returns-clause-fewer : goal.returns-clause-fewer
returns-clause-fewer c = λ board k a b log s turns at tier. let few = few_turns board k a b log s turns at tier in omega arith
