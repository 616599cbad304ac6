-- A sort moves the sums, and keeps their totals.
use Rattle.std.proofs.Common.{◌≡◌, ◌∙◌, sym, subst, ℕ, ◌<◌, ◌≤◌, ◌^◌, arith, List, [], ◌++◌, length, take, ℤ}
use Rattle.std.proofs.lemmas.List.{take-append-le, take-take}
use Rattle.edge_chain.specs.declared.edges.Edge.{Edge}
use Rattle.edge_chain.specs.Edges.{edge_cmp, edge_cmp_total, edge_cmp_exact}
use Rattle.edge_chain.specs.Gathers.{Gathers}
use Rattle.edge_chain.specs.Totals.{weight}
use Rattle.edge_chain.proofs.TotalLaws.{weight-permutation}
use Rattle.edge_chain.proofs.GatherLaws.{rises_from_sort, gathered_from_sorted}
use Rattle.edge_chain.proofs.gathers.gather_sums.Goals as goal

-- what is kept of a slice that was lent from a `Vec`
front_of_written : {X : Type 0} (n len : ℕ) (xs rest : List X) → n ≤ length xs → n ≤ len → take n (take len (xs ++ rest)) ≡ take n xs
front_of_written n len xs rest within short = take-take n len (xs ++ rest) short ∙ take-append-le n xs rest within

pub gather_sorted-kept-requires-clause-small : goal.gather_sorted-kept-requires-clause-small
gather_sorted-kept-requires-clause-small c =
    subst (λ (es : List (Edge × ℤ)). weight es < 2 ^ 63) (sym c.deref_mut.ensures.value)
    (omega (arith, c.requires, weight-permutation c.args.sums.now.items c.sort_unstable.new.self.items c.sort_unstable.ensures.permutation))

pub gather_sorted-kept-requires-clause-rises : goal.gather_sorted-kept-requires-clause-rises
gather_sorted-kept-requires-clause-rises c =
    rw c.deref_mut.ensures.value (rises_from_sort edge_cmp edge_cmp_total edge_cmp_exact c.sort_unstable.new.self.items c.sort_unstable.ensures.sorted)

pub returns : goal.returns
returns c =
    let kept : c.truncate.new.self.items ≡ take c.gather_sorted-kept.result c.gather_sorted-kept.new.sums =
    c.truncate.ensures.items ∙ front_of_written c.gather_sorted-kept.result _ c.gather_sorted-kept.new.sums _ c.gather_sorted-kept.ensures.within (omega (arith, c.gather_sorted-kept.ensures.within)) in
    let sorted : Gathers edge_cmp (take c.gather_sorted-kept.result c.gather_sorted-kept.new.sums) [] c.sort_unstable.new.self.items = rw c.deref_mut.ensures.value at c.gather_sorted-kept.ensures.gathered in
    rw kept (gathered_from_sorted edge_cmp edge_cmp_total edge_cmp_exact c.args.sums.now.items c.sort_unstable.new.self.items _ c.sort_unstable.ensures.permutation sorted)
