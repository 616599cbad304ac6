-- To pin what is left comes to the same as to pin all.
use Rattle.std.proofs.Common.{◌≡◌, length, map}
use Rattle.std.specs.Arc.{arc_value}
use Rattle.std.specs.Vec.Iter.{into_iter_items, into_iter_len}
use Rattle.cache_chain.specs.Opening.{with_pins, MayPinAll}
use Rattle.cache_chain.proofs.opening.pin_bodies.Given as goal

abbrev pub invariant-loop-body : goal.invariant-loop-body
invariant-loop-body l = record {
  may : MayPinAll l.tier.state (map arc_value (into_iter_items l.body-iterator));
  is : with_pins l.tier.state (map arc_value (into_iter_items l.body-iterator)) ≡ with_pins l.initial.tier.state (map arc_value l.fn.bodies.items);
  many : into_iter_len l.body-iterator ≡ length (into_iter_items l.body-iterator);
}
