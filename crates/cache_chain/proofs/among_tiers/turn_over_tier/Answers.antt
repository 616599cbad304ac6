-- The turn's clauses, put together. What lies below is a tier, whose count of faults never rises.
use Rattle.std.proofs.Common.{arith}
use Rattle.view_outside.specs.Faults.{Rose}
use Rattle.cache_chain.specs.AnswerMaps.{result_fault_more}
use Rattle.cache_chain.proofs.among_tiers.turn_over_tier.Goals as goal

pub returns-clause-turns : goal.returns-clause-turns
returns-clause-turns g c = record {
  answer = c.turn.ensures.answer;
  none = c.turn.ensures.none;
  tier = c.turn.ensures.kept;
  same = c.turn.ensures.same;
  keeps = c.turn.ensures.wishes;
  brings = c.turn.ensures.brings;
  got = c.turn.ensures.got;
  lost = c.turn.ensures.lost;
}

pub returns-clause-never : goal.returns-clause-never
returns-clause-never g c = record {
  fault = result_fault_more (λ _. Rose 0 0) (λ _. ⊥) (λ p rose. let never : Rose 0 0 = rose in omega arith) c.turn.result c.turn.ensures.fault;
  changed = c.turn.ensures.changed;
}

pub returns-clause-words : goal.returns-clause-words
returns-clause-words g c = record {
  epochs = c.turn.ensures.epochs;
  free = c.turn.ensures.free;
  found = c.turn.ensures.found;
  misses = c.turn.ensures.misses;
  pins = c.turn.ensures.pins;
  users = c.turn.ensures.use_sets;
  lockers = c.turn.ensures.lock_sets;
  patches = c.turn.ensures.keeper.1;
}
