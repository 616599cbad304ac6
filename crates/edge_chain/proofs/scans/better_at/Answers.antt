-- A difference that comes before the best so far.
use Rattle.std.proofs.Common.{◌≡◌, ◌∙◌, sym, ap, refl, false, List, ℤ}
use Rattle.std.specs.Prelude.{Option, Some}
use Rattle.std.specs.Ordering.{int_eq}
use Rattle.edge_chain.specs.declared.edges.Edge.{Edge}
use Rattle.edge_chain.specs.declared.differences.Difference.{Difference}
use Rattle.edge_chain.specs.Edges.{edge_cmp}
use Rattle.edge_chain.specs.Totals.{total}
use Rattle.edge_chain.specs.Differences.{difference_at}
use Rattle.edge_chain.specs.Scans.{is_late, better}
use Rattle.edge_chain.proofs.PlaceLaws.{not_equal, total_back}
use Rattle.edge_chain.proofs.scans.better_at.Goals as goal

differs : (here there : List (Edge × ℤ)) (best : Option Difference) (edge : Edge) → is_late best edge ≡ false → int_eq (total edge_cmp here edge) (total edge_cmp there edge) ≡ false → Some (difference_at edge (total edge_cmp here edge) (total edge_cmp there edge)) ≡ better here there best edge
differs here there best edge late apart = rw (late, apart) refl

pub returns : goal.returns
returns c =
    let here = c.args.here.now in
    let there = c.args.there.now in
    let edge = c.args.edge.now in
    let ours = total_back edge_cmp here edge c.total_of-ours.result c.requires.here c.total_of-ours.ensures in
    let theirs = total_back edge_cmp there edge c.total_of-theirs.result c.requires.there c.total_of-theirs.ensures in
    let apart : int_eq c.total_of-ours.result c.total_of-theirs.result ≡ false = not_equal c.total_of-ours.result c.total_of-theirs.result (int_eq c.total_of-ours.result c.total_of-theirs.result) refl c.if-ours-theirs.false in
    ap (λ (d : Difference). Some d) (c.at.ensures ∙ (λ i. difference_at edge (ours i) (theirs i)))
    ∙ differs here there c.args.best edge (sym c.is_past.ensures ∙ c.if-is_past.false) ((λ i. int_eq (sym c.total_of-ours.ensures i) (sym c.total_of-theirs.ensures i)) ∙ apart)
