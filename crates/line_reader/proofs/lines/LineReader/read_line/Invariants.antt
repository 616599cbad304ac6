use Rattle.std.proofs.Common.{◌-◌, ◌^◌, ◌≤◌}
use Rattle.line_reader.proofs.LineLemmas.{HasSeen}
use Rattle.line_reader.proofs.lines.LineReader.read_line.Given as goal

abbrev pub invariant-reads : goal.invariant-reads
invariant-reads g l = record {
  seen : HasSeen l.most l.seen l.initial.self.kept l.self.kept (g.I.Source.rest l.initial.source)
      (g.I.Source.rest l.source) l.self.line;
  later : g.I.Source.faults l.initial.source ≤ g.I.Source.faults l.source;
}

abbrev pub decreases-reads : goal.decreases-reads
decreases-reads g l = 2 ^ 64 - l.seen
