use Rattle.std.proofs.Common.{◌≡◌, ◌≤◌, IfSome}
use Rattle.view_outside.specs.Files.{file_bytes}
use Rattle.dag_check.proofs.ReadLaws.{HasRead, HasTaken}
use Rattle.dag_check.proofs.checks.read_bodies.Given as goal

abbrev pub invariant-loop-patch : goal.invariant-loop-patch
invariant-loop-patch g l = record {
  files : g.S.Store.files l.store ≡ g.S.Store.files l.initial.store;
  later : g.S.Store.faults l.initial.store ≤ g.S.Store.faults l.store;
  taken : HasTaken l.fn.index l.patch (g.S.Store.taken l.initial.store) (g.S.Store.taken l.store);
  index : l.checker.index ≡ l.fn.index;
  next : l.checker.next ≡ l.patch;
  told : IfSome (file_bytes (g.S.Store.files l.initial.store) l.file) (HasRead l.fn.index l.patch l.checker);
}
