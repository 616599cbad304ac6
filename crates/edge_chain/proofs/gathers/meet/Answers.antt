-- The last kept sum is joined if its edge ties.
use Rattle.std.proofs.Common.{◌≡◌, ◌∙◌, sym, ap, subst, ℕ, ◌+◌, ◌-◌, ◌<◌, ◌≤◌, ◌^◌, arith, true, false, List, [], ◌∷◌, length, take, get_or, ℤ, ◌+ℤ◌}
use Rattle.std.specs.Prelude.{unsigned_abs, FitsSigned}
use Rattle.std.specs.Ordering.{is_eq}
use Rattle.std.specs.Cmp.{Equal-is}
use Rattle.std.proofs.lemmas.Int.{fits_signed_from_abs}
use mir.Syntax.{w64}
use mir.Val.{to_z, of_z}
use Rattle.edge_chain.specs.declared.edges.Edge.{Edge}
use Rattle.edge_chain.specs.Edges.{edge_cmp}
use Rattle.edge_chain.specs.Totals.{weight}
use Rattle.edge_chain.specs.Gathers.{Meets}
use Rattle.edge_chain.specs.Gathers.Meets.{Starts, Follows, Joins}
use Rattle.edge_chain.proofs.TotalLaws.{abs_add, weight-append, weight-one}
use Rattle.edge_chain.proofs.PlaceLaws.{read_back, sum_back, last_is}
use Rattle.edge_chain.proofs.gathers.meet.Goals as goal

module _ (sums : List (Edge × ℤ)) (kept : ℕ) (d : Edge × ℤ) (edge : Edge) (sum : ℤ) (within : kept ≤ length sums) (small : weight (take kept sums) + unsigned_abs sum < 2 ^ 63) where
  abbrev last : Edge × ℤ
  last = get_or sums (kept - 1) d

  both_small : 0 < kept → unsigned_abs last.1 + unsigned_abs sum < 2 ^ 63
  both_small some_there =
      omega (arith, ap (λ (es : List (Edge × ℤ)). weight es) (last_is sums kept d some_there within), weight-append (take (kept - 1) sums) (last ∷ []), weight-one last)

  fits : 0 < kept → FitsSigned w64 (to_z w64 (of_z w64 last.1) +ℤ to_z w64 (of_z w64 sum))
  fits some_there =
      let both = both_small some_there in
      let same : to_z w64 (of_z w64 last.1) +ℤ to_z w64 (of_z w64 sum) ≡ last.1 +ℤ sum = λ i. read_back last.1 (omega (arith, both)) i +ℤ read_back sum (omega (arith, both)) i in
      subst (λ (z : ℤ). FitsSigned w64 z) (sym same) (fits_signed_from_abs w64 (last.1 +ℤ sum) (omega (arith, both, abs_add last.1 sum)))

  joined : 0 < kept → is_eq (edge_cmp last.0 edge) ≡ true → Meets edge_cmp (take kept sums) (edge, sum) (take (kept - 1) sums) (to_z w64 (of_z w64 (to_z w64 (of_z w64 last.1) +ℤ to_z w64 (of_z w64 sum))))
  joined some_there tie =
      let both = both_small some_there in
      subst (λ (z : ℤ). Meets edge_cmp (take kept sums) (edge, sum) (take (kept - 1) sums) z)
      (sym (sum_back last.1 sum (omega (arith, both)) (omega (arith, both)) (omega (arith, both, abs_add last.1 sum))))
      (Joins (take (kept - 1) sums) last (last_is sums kept d some_there within) ((Equal-is (edge_cmp last.0 edge)).0 tie))

  followed : 0 < kept → is_eq (edge_cmp last.0 edge) ≡ false → Meets edge_cmp (take kept sums) (edge, sum) (take kept sums) (to_z w64 (of_z w64 sum))
  followed some_there apart =
      subst (λ (z : ℤ). Meets edge_cmp (take kept sums) (edge, sum) (take kept sums) z) (sym (read_back sum (omega arith)))
      (Follows (take (kept - 1) sums) last (last_is sums kept d some_there within) apart)

  started : kept ≡ 0 → Meets edge_cmp (take kept sums) (edge, sum) (take kept sums) (to_z w64 (of_z w64 sum))
  started none =
      subst (λ (z : ℤ). Meets edge_cmp (take kept sums) (edge, sum) (take kept sums) z) (sym (read_back sum (omega arith)))
      (Starts (ap (λ n. take n sums) none))

pub overflow_add-result : goal.overflow_add-result
overflow_add-result c = fits c.args.sums.now c.args.kept _ c.args.edge c.args.sum c.requires.within c.requires.small c.if-kept-gt0.true

pub returns-then-is_eq-clause-both : goal.returns-then-is_eq-clause-both
returns-then-is_eq-clause-both c = joined c.args.sums.now c.args.kept _ c.args.edge c.args.sum c.requires.within c.requires.small c.if-kept-gt0.true (ap is_eq (sym c.cmp.ensures) ∙ sym c.is_eq.ensures ∙ c.if-is_eq.true)

pub returns-else-is_eq-clause-both : goal.returns-else-is_eq-clause-both
returns-else-is_eq-clause-both c = followed c.args.sums.now c.args.kept _ c.args.edge c.args.sum c.requires.within c.requires.small c.if-kept-gt0.true (ap is_eq (sym c.cmp.ensures) ∙ sym c.is_eq.ensures ∙ c.if-is_eq.false)

pub returns-else-kept-gt0-clause-both : goal.returns-else-kept-gt0-clause-both
returns-else-kept-gt0-clause-both c = started c.args.sums.now c.args.kept (c.args.edge, c.args.sum) c.args.edge c.args.sum c.requires.within c.requires.small (omega arith)
