use Rattle.std.proofs.Common.{◌≡◌, length}
use Rattle.dag_check.proofs.tests.strip.bodies_of.Given as goal

abbrev pub invariant-loop-patch : goal.invariant-loop-patch
invariant-loop-patch g l = record {
  files : g.S.Store.files l.store ≡ g.S.Store.files l.initial.store;
  as_many : length l.bodies.items ≡ l.patch;
}
