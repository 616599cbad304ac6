-- Each sum changes the count by what it does to the total of its edge.
use Rattle.std.proofs.Common.{◌≡◌, sym, ap, ℕ, ◌+◌, ◌<◌, ◌≤◌, ◌^◌, arith, length, take, get_or, List, ℤ}
use Rattle.std.proofs.lemmas.List.{take_more, length-take}
use mir.Syntax.{w64}
use mir.Val.{to_z, of_z}
use Rattle.edge_chain.specs.declared.edges.Edge.{Edge}
use Rattle.edge_chain.specs.Edges.{edge_cmp, edge_cmp_total, edge_cmp_exact}
use Rattle.edge_chain.specs.Totals.{weight, total, normal, some}
use Rattle.edge_chain.proofs.TotalLaws.{normal-nil, length-normal, length-normal-push, some_most}
use Rattle.edge_chain.proofs.PlaceLaws.{total_back, weight_take}
use Rattle.edge_chain.proofs.counts.recount_all.Goals as goal

counted : (sums : List (Edge × ℤ)) (k : ℕ) (d : Edge × ℤ) → k < length sums → length (normal edge_cmp (take (k + 1) sums)) + some (total edge_cmp (take k sums) (get_or sums k d).0) ≡ length (normal edge_cmp (take k sums)) + some (total edge_cmp (take (k + 1) sums) (get_or sums k d).0)
counted sums k d within =
    rw (take_more sums k d within) (length-normal-push edge_cmp edge_cmp_total edge_cmp_exact (take k sums) (get_or sums k d))

module _ (sums : List (Edge × ℤ)) (k : ℕ) (d : Edge × ℤ) (count : ℕ) (x y : ℤ) (within : k < length sums) (small : weight sums < 2 ^ 63) (so_far : count ≡ length (normal edge_cmp (take k sums))) (x_is : x ≡ total edge_cmp (take k sums) (get_or sums k d).0) (y_is : y ≡ total edge_cmp (take (k + 1) sums) (get_or sums k d).0) where
  before_back : to_z w64 (of_z w64 x) ≡ total edge_cmp (take k sums) (get_or sums k d).0
  before_back = total_back edge_cmp (take k sums) (get_or sums k d).0 x (omega (arith, small, weight_take sums k)) x_is

  after_back : to_z w64 (of_z w64 y) ≡ total edge_cmp (take (k + 1) sums) (get_or sums k d).0
  after_back = total_back edge_cmp (take (k + 1) sums) (get_or sums k d).0 y (omega (arith, small, weight_take sums (k + 1))) y_is

  room : length sums < 2 ^ 64 → count + some (to_z w64 (of_z w64 y)) < 2 ^ 64
  room short = omega (arith, short, within, so_far, length-normal edge_cmp edge_cmp_total edge_cmp_exact (take k sums), length-take k sums, some_most (to_z w64 (of_z w64 y)))

  enough : some (to_z w64 (of_z w64 x)) ≤ count + some (to_z w64 (of_z w64 y))
  enough = rw (before_back, after_back) (omega (arith, so_far, counted sums k d within))

  after : (result : ℕ) → result + some (to_z w64 (of_z w64 x)) ≡ count + some (to_z w64 (of_z w64 y)) → result ≡ length (normal edge_cmp (take (k + 1) sums))
  after result is =
      let is' = rw (before_back, after_back) at is in
      omega (arith, is', so_far, counted sums k d within)

pub loop-at-init : goal.loop-at-init
loop-at-init c = ap (λ (es : List (Edge × ℤ)). length es) (sym (normal-nil edge_cmp edge_cmp_total edge_cmp_exact))

pub total_of-before-requires : goal.total_of-before-requires
total_of-before-requires c = omega (arith, c.requires, weight_take c.args.sums.now c.loop-at.at)

pub total_of-after-requires : goal.total_of-after-requires
total_of-after-requires c = omega (arith, c.requires, weight_take c.args.sums.now (c.loop-at.at + 1))

pub recount-count-requires-clause-room : goal.recount-count-requires-clause-room
recount-count-requires-clause-room c =
    room c.args.sums.now c.loop-at.at _ c.loop-at.count c.total_of-before.result c.total_of-after.result c.loop-at-test.true c.requires c.loop-at.invariant c.total_of-before.ensures c.total_of-after.ensures (omega arith)

pub recount-count-requires-clause-counted : goal.recount-count-requires-clause-counted
recount-count-requires-clause-counted c =
    enough c.args.sums.now c.loop-at.at _ c.loop-at.count c.total_of-before.result c.total_of-after.result c.loop-at-test.true c.requires c.loop-at.invariant c.total_of-before.ensures c.total_of-after.ensures

pub loop-at-preserved : goal.loop-at-preserved
loop-at-preserved c =
    after c.args.sums.now c.loop-at.at _ c.loop-at.count c.total_of-before.result c.total_of-after.result c.loop-at-test.true c.requires c.loop-at.invariant c.total_of-before.ensures c.total_of-after.ensures c.recount-count.result c.recount-count.ensures
