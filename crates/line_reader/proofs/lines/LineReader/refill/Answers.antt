use Rattle.std.proofs.Common.{◌<◌, length, rules, subst}
use Rattle.line_reader.specs.Bytes.{Refills}
use Rattle.line_reader.specs.LineSeen.{LineSeen}
use Rattle.line_reader.proofs.LineLemmas.{still_kept}
use Rattle.line_reader.proofs.lines.LineReader.refill.Goals as goal

pub returns-then-self-len-clause-fills : goal.returns-then-self-len-clause-fills
returns-then-self-len-clause-fills g c =
    let some : c.self.inside.next < length c.self.inside.piece.items = search rules in
    let told = g.I.Source.rest c.args.source.now in
    subst (λ (seen : LineSeen). Refills seen.kept seen.kept told told) c.self.view_is
    (still_kept c.self.inside.piece.items c.self.inside.next told some)
