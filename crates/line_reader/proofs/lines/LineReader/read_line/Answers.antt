use Rattle.std.proofs.Common.{ap, arith}
use Rattle.line_reader.specs.LineSeen.{LineSeen}
use Rattle.line_reader.proofs.LineLemmas.{line_feeds, line_ends, line_far, line_goes}
use Rattle.line_reader.proofs.lines.LineReader.read_line.Goals as goal

pub returns-in-None-clause-finds : goal.returns-in-None-clause-finds
returns-in-None-clause-finds g c =
    line_ends c.args.most c.reads.seen _ _ c.reads.self.kept c.next_byte.new.self.kept _
    (g.I.Source.rest c.reads.source) _ c.reads.self.line _
    (ap (λ (seen : LineSeen).
    seen.kept) c.self.view_is) c.reads.invariant.seen _ c.in-None.is c.in_ok-next_byte.ensures.takes
    c.next_byte.ensures.line c.ended_of.result c.ended_of.ensures

pub returns-in-Some-eq10-clause-finds : goal.returns-in-Some-eq10-clause-finds
returns-in-Some-eq10-clause-finds g c =
    line_feeds c.args.most c.reads.seen _ _ c.reads.self.kept c.next_byte.new.self.kept _
    (g.I.Source.rest c.reads.source) _ c.reads.self.line _
    (ap (λ (seen : LineSeen).
    seen.kept) c.self.view_is) c.reads.invariant.seen _ c.in-Some-eq10.field-0 c.in-Some-eq10.is
    c.in-Some-eq10.field-0-test c.in_ok-next_byte.ensures.takes
    c.next_byte.ensures.line c.found_of.result c.found_of.ensures

pub reads-preserved : goal.reads-preserved
reads-preserved g c = record {
  seen = line_goes c.args.most c.reads.seen _ c.reads.self.kept c.next_byte.new.self.kept _ _
      (g.I.Source.rest c.reads.source) _ c.reads.self.line
      c.next_byte.new.self.line _ c.reads.invariant.seen _ c.in-Some.byte c.in-Some.is c.in-Some.byte-test.1 c.in_ok-next_byte.ensures.takes
      c.next_byte.ensures.line c.in_ok-keep_byte-in-Some.ensures.line c.keep_byte.ensures.kept;
  later = omega (arith, c.reads.invariant.later, c.next_byte.ensures.later);
}

pub returns-clause-finds : goal.returns-clause-finds
returns-clause-finds g c =
    line_far c.args.most c.reads.seen _ _ c.reads.self.kept _ _ c.reads.self.line
    (ap (λ (seen : LineSeen). seen.kept) c.self.view_is) c.reads.invariant.seen
    (omega arith) c.found_of-2.result c.found_of-2.ensures
