-- Each sum joins the kept ones or goes behind them.
use Rattle.std.proofs.Common.{rules, ◌≡◌, ◌∙◌, sym, ap, ℕ, ◌+◌, ◌<◌, ◌≤◌, ◌^◌, arith, ◌++◌, length, take, drop, get_or, List, ℤ}
use Rattle.std.specs.Prelude.{unsigned_abs}
use mir.Syntax.{w64}
use mir.Val.{SFits, to_z, of_z}
use Rattle.std.proofs.lemmas.Int.{to_z-of_z}
use Rattle.edge_chain.specs.declared.edges.Edge.{Edge}
use Rattle.edge_chain.specs.Edges.{edge_cmp, edge_cmp_total, edge_cmp_exact}
use Rattle.edge_chain.specs.Totals.{weight, alone}
use Rattle.edge_chain.specs.Gathers.{Meets, Gathers}
use Rattle.edge_chain.proofs.GatherLaws.{gathers_none, gathers_step, gathers_small}
use Rattle.edge_chain.proofs.PlaceLaws.{read_back}
use Rattle.edge_chain.proofs.gathers.gather_sorted.Goals as goal

module _ (sums whole : List (Edge × ℤ)) (kept at : ℕ) (d : Edge × ℤ) (within : at < length sums) (small : weight whole < 2 ^ 63) (h : Gathers edge_cmp (take kept sums) (drop at sums) whole) where
  next_small : weight (take kept sums) + unsigned_abs (get_or sums at d).1 < 2 ^ 63
  next_small = omega (arith, gathers_small edge_cmp edge_cmp_total edge_cmp_exact sums whole kept at d within h)

  next_back : to_z w64 (of_z w64 (get_or sums at d).1) ≡ (get_or sums at d).1
  next_back = read_back (get_or sums at d).1 (omega (arith, next_small))

  read_small : weight (take kept sums) + unsigned_abs (to_z w64 (of_z w64 (get_or sums at d).1)) < 2 ^ 63
  read_small = rw next_back next_small

  step : (after : List (Edge × ℤ)) (front next : ℕ) (both : ℤ) → front ≤ at → Meets edge_cmp (take kept sums) ((get_or sums at d).0, to_z w64 (of_z w64 (get_or sums at d).1)) (take front sums) both → take next after ≡ take front sums ++ alone ((get_or sums at d).0, both) → drop (front + 1) after ≡ drop (front + 1) sums → Gathers edge_cmp (take next after) (drop (at + 1) after) whole
  step after front next both low meets kept_is rest_is =
      gathers_step edge_cmp edge_cmp_total edge_cmp_exact sums after whole kept at front next d ((get_or sums at d).0, to_z w64 (of_z w64 (get_or sums at d).1)) both within
      (λ i. ((get_or sums at d).0, sym next_back i)) low h meets kept_is rest_is

pub loop-at-init : goal.loop-at-init
loop-at-init c = record {
  front = omega arith;
  gathers = gathers_none edge_cmp edge_cmp_total edge_cmp_exact c.args.sums.now c.requires.rises;
}

pub meet-front-requires-clause-small : goal.meet-front-requires-clause-small
meet-front-requires-clause-small c = read_small c.loop-at.sums c.args.sums.now c.loop-at.kept c.loop-at.at _ (omega arith) c.requires.small c.loop-at.invariant.gathers

pub loop-at-preserved : goal.loop-at-preserved
loop-at-preserved c =
    let both : ℤ = c.meet-front.result.1 in
    let fits : SFits w64 both = search rules in
    record {
      front = omega (arith, c.place-kept.ensures.next, c.meet-front.ensures.front);
      gathers =
          step c.loop-at.sums c.args.sums.now c.loop-at.kept c.loop-at.at _ (omega arith) c.requires.small c.loop-at.invariant.gathers
          c.place-kept.new.sums c.meet-front.result.0 c.place-kept.result c.meet-front.result.1 (omega arith) c.meet-front.ensures.both
          (c.place-kept.ensures.kept ∙ ap (λ (z : ℤ). take c.meet-front.result.0 c.loop-at.sums ++ alone ((get_or c.loop-at.sums c.loop-at.at _).0, z)) (to_z-of_z w64 both fits)) c.place-kept.ensures.rest;
    }
