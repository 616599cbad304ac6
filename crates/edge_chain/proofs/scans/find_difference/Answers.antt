use Rattle.std.proofs.Common.{sym, subst}
use Rattle.std.specs.Prelude.{Option}
use Rattle.edge_chain.specs.declared.differences.Difference.{Difference}
use Rattle.edge_chain.specs.Differences.{Finds}
use Rattle.edge_chain.proofs.FindLaws.{finds_gap}
use Rattle.edge_chain.proofs.scans.find_difference.Goals as goal

pub returns-then-gathered : goal.returns-then-gathered
returns-then-gathered c =
    let tight = c.requires.tight c.if-gathered.true in
    subst (λ (r : Option Difference). Finds c.args.here.now c.args.there.now r) (sym c.first_gap.ensures) (finds_gap c.args.here.now c.args.there.now tight.0 tight.1)
