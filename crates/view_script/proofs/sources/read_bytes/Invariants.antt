use Rattle.std.proofs.Common.{◌-◌, ◌≤◌, vec_len}
use Rattle.view_script.specs.declared.sources.TheConstants.{MOST_READ}
use Rattle.line_reader.specs.Reads.{HasRead}
use Rattle.view_script.proofs.sources.read_bytes.Given as goal

abbrev pub invariant-loop-chunk : goal.invariant-loop-chunk
invariant-loop-chunk g l = record {
  few : vec_len l.bytes ≤ MOST_READ;
  front : HasRead (g.I.Source.rest l.initial.source) l.bytes.items (g.I.Source.rest l.source);
  later : g.I.Source.faults l.initial.source ≤ g.I.Source.faults l.source;
}

abbrev pub decreases-loop-chunk : goal.decreases-loop-chunk
decreases-loop-chunk g l = MOST_READ - vec_len l.bytes
