use Rattle.std.proofs.Common.{arith}
use Rattle.std.proofs.lemmas.List.{take_rest, length-drop}
use Rattle.view_outside.proofs.Appending.{bytes_more}
use Rattle.view_outside.proofs.sinks.writing.write_all.Goals as goal

pub loop-written-preserved : goal.loop-written-preserved
loop-written-preserved g c = record {
  within = omega (arith, rw take_rest at c.in-Ok.ensures.bound, length-drop c.loop-written.written c.args.bytes.now);
  text = bytes_more _ _ _ c.args.bytes.now c.loop-written.written c.in-Ok.n c.loop-written.invariant.text c.in-Ok.ensures.appends;
  later = omega (arith, c.in-Ok.ensures.cause.later);
}
