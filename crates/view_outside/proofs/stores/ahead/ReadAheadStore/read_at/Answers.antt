use Rattle.std.proofs.Common.{◌≡◌, ◌+◌, ◌-◌, arith}
use Rattle.view_outside.proofs.BlockLemmas.{reads_rest}
use Rattle.view_outside.proofs.stores.ahead.ReadAheadStore.read_at.Goals as goal

pub returns-then-offset-self-3-clause-bytes : goal.returns-then-offset-self-3-clause-bytes
returns-then-offset-self-3-clause-bytes g c =
    let ahead = c.self.inside in
    let place = c.args.offset - ahead.base in
    let there : ahead.base + place ≡ c.args.offset = omega arith in
    let copy = rw c.deref.ensures.value at c.copy_from-n.ensures.bytes in
    let read = reads_rest (g.S.Store.files ahead.store) ahead.file ahead.base place ahead.end c.copy_from-n.result ahead.block.items c.copy_from-n.new.buffer c.if-offset-self-3.true (c.self.invariant.1 (omega arith)).bytes copy in
    rw (← c.self.view_is, c.if-file-self.true, ← there) read
