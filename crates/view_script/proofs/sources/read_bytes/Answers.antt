use Rattle.std.proofs.Common.{◌++◌, length-append, arith, rules}
use Rattle.std.proofs.lemmas.Grind.{common_steps}
use Rattle.view_script.specs.declared.sources.TheConstants.{MOST_READ}
use Rattle.line_reader.specs.Reads.{HasRead-append}
use Rattle.view_script.proofs.ReadLemmas.{through_end, through_most}
use Rattle.view_script.proofs.sources.read_bytes.Goals as goal

pub returns-in_err-read_piece-clause-read : goal.returns-in_err-read_piece-clause-read
returns-in_err-read_piece-clause-read g c =
    let r = c.in_err-read_piece.ensures.read in
    record {
      bytes = c.loop-chunk.bytes.items ++ r.bytes;
      few = let sum = length-append c.loop-chunk.bytes.items r.bytes in first_of (search rules, search (rules, r.few, sum), grind (arith, common_steps, r.few, sum));
      read = HasRead-append _ c.loop-chunk.bytes.items r.bytes _ _ c.loop-chunk.invariant.front r.read;
    }

pub returns-then-branch-eq0-clause-through : goal.returns-then-branch-eq0-clause-through
returns-then-branch-eq0-clause-through g c =
    let a = c.in_ok-read_piece.ensures.added in
    through_end MOST_READ _ (c.loop-chunk.bytes.items ++ a.piece) _
    (HasRead-append _ c.loop-chunk.bytes.items a.piece _ _ c.loop-chunk.invariant.front a.read)
    (c.in_ok-read_piece.ensures.end c.if-branch-eq0.true)
    (omega (arith, length-append c.loop-chunk.bytes.items a.piece, a.many, c.loop-chunk.bytes.ok.0))

pub returns-clause-through : goal.returns-clause-through
returns-clause-through g c = through_most MOST_READ _ c.loop-chunk.bytes.items _ c.loop-chunk.invariant.front (omega (arith, c.loop-chunk.bytes.ok.0))
