-- One edge with two sums.
use Rattle.std.proofs.Common.{rules, ◌≡◌, ◌∙◌, sym, refl, ℤ, false}
use Rattle.std.specs.Prelude.{Some, None, option_map}
use Rattle.std.specs.declared.cmp.Ordering.{Ordering}
use Rattle.std.specs.declared.cmp.Ordering.TheVariants.{Equal}
use Rattle.std.specs.Ordering.{int_eq}
use mir.Syntax.{w64}
use mir.Val.{SFits}
use Rattle.std.proofs.lemmas.Int.{to_z-of_z}
use Rattle.edge_chain.specs.declared.differences.Difference.{Difference}
use Rattle.edge_chain.specs.declared.edges.Edge.{Edge}
use Rattle.edge_chain.specs.Edges.{edge_cmp}
use Rattle.edge_chain.specs.Gaps.{gap_by}
use Rattle.edge_chain.specs.Differences.{difference_at, difference_of}
use Rattle.edge_chain.proofs.PlaceLaws.{not_equal}
use Rattle.edge_chain.proofs.differences.gap_between.Goals as goal

unequal : (o : Ordering) (e f : Edge × ℤ) (d : Difference) → o ≡ Equal → int_eq e.1 f.1 ≡ false → d ≡ difference_at e.0 e.1 f.1 → Some d ≡ option_map difference_of (gap_by edge_cmp o e f None)
unequal o e f d tie apart is = rw (tie, apart, is) refl

pub returns-in-Equal-2 : goal.returns-in-Equal-2
returns-in-Equal-2 c =
    let here : ℤ = c.args.ours.1 in
    let there : ℤ = c.args.theirs.1 in
    let here_fits : SFits w64 here = search rules in
    let there_fits : SFits w64 there = search rules in
    unequal _ c.args.ours c.args.theirs c.at-in-Equal-2.result (sym c.in-Equal-2.ensures) (not_equal here there (int_eq here there) refl c.if-here-there.false)
    (c.at-in-Equal-2.ensures ∙ (λ i. difference_at c.args.ours.0 (to_z-of_z w64 here here_fits i) (to_z-of_z w64 there there_fits i)))
