-- A body for each patch, and as many added as went by.
use Rattle.std.proofs.Common.{◌≡◌, length}
use Rattle.dag_check.proofs.tests.strip.run.Given as goal

abbrev pub invariant-loop-body : goal.invariant-loop-body
invariant-loop-body l = record {
  as_many : length l.bodies ≡ length l.checker.index.fields;
  next : l.checker.next ≡ l.body-index;
}
