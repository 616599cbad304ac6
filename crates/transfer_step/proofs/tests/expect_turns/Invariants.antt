-- The tier, the supply and the wishes go on fitting each other.
use Rattle.std.proofs.Common.{◌≡◌, ◌≤◌, slice_index}
use Rattle.tier_model.specs.Tiers.{count}
use Rattle.tier_model.specs.Keeping.{KeepsWishes}
use Rattle.transfer_step.specs.TurnWords.{board_of}
use Rattle.transfer_step.proofs.tests.expect_turns.Given as goal

abbrev pub invariant-loop-answer : goal.invariant-loop-answer
invariant-loop-answer g l = record {
  sizes : l.tier.state.sizes ≡ l.fn.tier.state.sizes;
  place : g.B.Supply.place l.below ≡ g.B.Supply.place l.fn.below;
  few : count l.tier.state ≤ 7;
  wishes : KeepsWishes (board_of (λ p. slice_index l.wishes.wishes p) l.wishes.version) l.tier.state;
}
