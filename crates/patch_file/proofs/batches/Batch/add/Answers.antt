use Rattle.patch_file.specs.Batches.{Sends-at_once}
use Rattle.patch_file.proofs.batches.Batch.add.Goals as goal

pub returns-then-bytes-gt-ROOM-clause-text : goal.returns-then-bytes-gt-ROOM-clause-text
returns-then-bytes-gt-ROOM-clause-text g c = rw c.in_ok-send.ensures.empty (Sends-at_once c.write_all.result _ _ _ c.args.self.now c.args.bytes.now c.in_ok-send.ensures.text c.write_all.ensures.text)
