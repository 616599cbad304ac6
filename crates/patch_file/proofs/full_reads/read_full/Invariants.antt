use Rattle.std.proofs.Common.{length, ◌-◌, ◌≡◌, ◌≤◌}
use Rattle.view_outside.specs.Files.{file_bytes}
use Rattle.view_outside.specs.Taken.{taken_after}
use Rattle.patch_file.proofs.Filling.{HasFilled}
use Rattle.patch_file.proofs.full_reads.read_full.Given as goal

abbrev pub invariant-loop-filled : goal.invariant-loop-filled
invariant-loop-filled g l = record {
  within : l.filled ≤ length l.buffer;
  bytes : HasFilled (file_bytes (g.S.Store.files l.initial.store) l.file) l.offset l.filled l.buffer;
  kept : g.S.Store.files l.store ≡ g.S.Store.files l.initial.store;
  later : g.S.Store.faults l.initial.store ≤ g.S.Store.faults l.store;
  taken : g.S.Store.taken l.store ≡ taken_after (g.S.Store.taken l.initial.store) l.filled;
}

abbrev pub decreases-loop-filled : goal.decreases-loop-filled
decreases-loop-filled g l = length l.initial.buffer - l.filled
