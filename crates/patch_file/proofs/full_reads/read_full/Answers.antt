use Rattle.std.proofs.Common.{◌+◌, ◌-◌, length, arith, refl, sym, ◌∙◌, ap}
use Rattle.std.proofs.lemmas.Grind.{common_steps}
use Rattle.view_outside.specs.Files.{ReadsFile}
use Rattle.view_outside.specs.Taken.{taken_after, taken_after-taken_after}
use Rattle.patch_file.proofs.Filling.{HasFilled-more}
use Rattle.patch_file.proofs.full_reads.read_full.Goals as goal

pub loop-filled-preserved : goal.loop-filled-preserved
loop-filled-preserved g c = record {
  within = grind (arith, common_steps);
  bytes =
      let read : ReadsFile (g.S.Store.files c.args.store.now) c.args.file (c.args.offset + c.loop-filled.filled) c.read_at.new.buffer c.in_ok-n.n = rw (sym c.loop-filled.invariant.kept) c.in_ok-n.ensures.bytes in
      HasFilled-more (g.S.Store.files c.args.store.now) c.args.file c.args.offset c.loop-filled.filled c.in_ok-n.n (length c.loop-filled.buffer - c.loop-filled.filled) c.loop-filled.buffer c.read_at.new.buffer c.loop-filled.invariant.within c.in_ok-n.ensures.bound read _ refl c.loop-filled.invariant.bytes;
  kept = c.in_ok-n.ensures.kept ∙ c.loop-filled.invariant.kept;
  later = omega (arith, c.in_ok-n.ensures.cause.later);
  taken = c.in_ok-n.ensures.taken ∙ ap (λ t. taken_after t c.in_ok-n.n) c.loop-filled.invariant.taken ∙ taken_after-taken_after _ _ _;
}
