use Rattle.std.proofs.Common.{◌≡◌}
use Rattle.patch_file.proofs.tests.reading.read_all.Given as goal

abbrev pub invariant-loop-patch : goal.invariant-loop-patch
invariant-loop-patch g l = g.S.Store.files l.store ≡ g.S.Store.files l.initial.store
