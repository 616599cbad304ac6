-- There is a tier for each budget before this one.
use Rattle.std.proofs.Common.{◌≡◌, map, take}
use Rattle.arrayvec.specs.ArrayVec.{array_vec_len}
use Rattle.tier_model.specs.Changes.{fresh}
use Rattle.cache_chain.specs.ChainStates.{states_of}
use Rattle.cache_chain.proofs.opening.empty_tiers.Given as goal

abbrev pub invariant-loop-budget : goal.invariant-loop-budget
invariant-loop-budget l = record {
  tiers : states_of l.tiers.items ≡ map (λ budget. fresh l.index budget l.width) (take l.budget-index l.budgets);
  many : array_vec_len l.tiers ≡ l.budget-index;
}
