-- A total is no larger than the weight, so it fits.
use Rattle.std.proofs.Common.{◌≡◌, ◌∙◌, sym, ap, subst, ℕ, ◌+◌, ◌<◌, ◌^◌, arith, length, take, get_or, List, ℤ, ◌+ℤ◌}
use Rattle.std.specs.Prelude.{unsigned_abs, FitsSigned}
use mir.Syntax.{w64}
use mir.Val.{to_z, of_z}
use Rattle.std.proofs.lemmas.Int.{fits_signed_from_abs}
use Rattle.edge_chain.specs.declared.edges.Edge.{Edge}
use Rattle.edge_chain.specs.Edges.{edge_cmp}
use Rattle.edge_chain.specs.Totals.{weight, part, total}
use Rattle.edge_chain.proofs.TotalLaws.{total-nil}
use Rattle.edge_chain.proofs.PlaceLaws.{read_back, total_more, total_fits, weight_at}
use Rattle.edge_chain.proofs.scans.total_of.Goals as goal

module _ (sums : List (Edge × ℤ)) (k : ℕ) (d : Edge × ℤ) (q : Edge) (t : ℤ) (within : k < length sums) (small : weight sums < 2 ^ 63) (so_far : t ≡ total edge_cmp (take k sums) q) where
  next_is : t +ℤ part edge_cmp q ((get_or sums k d).0, to_z w64 (of_z w64 (get_or sums k d).1)) ≡ total edge_cmp (take (k + 1) sums) q
  next_is =
      let back = read_back (get_or sums k d).1 (omega (arith, weight_at sums k d within)) in
      (λ i. so_far i +ℤ part edge_cmp q ((get_or sums k d).0, back i)) ∙ sym (total_more edge_cmp sums k d q within)

  next_small : unsigned_abs (total edge_cmp (take (k + 1) sums) q) < 2 ^ 63
  next_small = total_fits edge_cmp sums (k + 1) q small

  next_fits : FitsSigned w64 (t +ℤ part edge_cmp q ((get_or sums k d).0, to_z w64 (of_z w64 (get_or sums k d).1)))
  next_fits = subst (λ (z : ℤ). FitsSigned w64 z) (sym next_is) (fits_signed_from_abs w64 (total edge_cmp (take (k + 1) sums) q) next_small)

  next_back : (z : ℤ) → z ≡ t +ℤ part edge_cmp q ((get_or sums k d).0, to_z w64 (of_z w64 (get_or sums k d).1)) → to_z w64 (of_z w64 z) ≡ total edge_cmp (take (k + 1) sums) q
  next_back z is = ap (λ (x : ℤ). to_z w64 (of_z w64 x)) (is ∙ next_is) ∙ read_back (total edge_cmp (take (k + 1) sums) q) next_small

pub loop-other-init : goal.loop-other-init
loop-other-init c = sym (total-nil edge_cmp c.args.edge.now)

pub with_part-total-requires : goal.with_part-total-requires
with_part-total-requires c = next_fits c.args.sums.now c.loop-other.other-index _ c.args.edge.now (to_z w64 c.loop-other.total-bits) c.loop-other-test.true c.requires c.loop-other.invariant

pub loop-other-preserved : goal.loop-other-preserved
loop-other-preserved c = next_back c.args.sums.now c.loop-other.other-index _ c.args.edge.now (to_z w64 c.loop-other.total-bits) c.loop-other-test.true c.requires c.loop-other.invariant c.with_part-total.result c.with_part-total.ensures
