use Rattle.std.proofs.Common.{◌≡◌, ℕ, Bool, List, Option, Some, None, IfSome, subst}
use Rattle.tier_heap.specs.Entries.{IsGreatestBy, NoneFits}
use Rattle.tier_heap.specs.Searches.{NoneIsFound, IsFirstFound}
use Rattle.tier_heap.specs.EndHeap.{IsEndHeap}
use Rattle.tier_heap.specs.declared.end_heap.End.TheVariants.{Greatest}
use Rattle.tier_heap.specs.declared.end_heap.EndHeap.{EndHeap}
use Rattle.tier_heap.proofs.SearchLemmas.{none_fits, greatest_fits}
use Rattle.tier_heap.proofs.pair_heap.PairHeap.greatest_where.Goals as goal

greatest_is : (ranks slice now : List (Option ℕ)) (heap : EndHeap) (answers : ℕ → Bool → Type 0) (found : Option ℕ) → slice ≡ ranks → ranks ≡ now → IsEndHeap ranks heap → heap.end ≡ Greatest → IfSome found (IsFirstFound slice heap answers) → IfSome found (IsGreatestBy now answers)
greatest_is ranks slice now heap answers None read view is_heap end found = found
greatest_is ranks slice now heap answers (Some id) read view is_heap end found =
    subst (λ (l : List (Option ℕ)). IsGreatestBy l answers id) view
    (greatest_fits ranks heap answers id is_heap end (subst (λ (l : List (Option ℕ)). IsFirstFound l heap answers id) read found))

pub returns-clause-greatest : goal.returns-clause-greatest
returns-clause-greatest g c =
    let answers = λ (id : ℕ) (answer : Bool). g.F.Fn.post c.args.fits (id, tt) answer in
    greatest_is c.self.inside.ranks.items c.deref.result.now c.args.self.now c.self.inside.greatest answers c.first_where.result c.deref.ensures.value c.self.view_is c.self.invariant.greatest c.self.invariant.greatest_end c.first_where.ensures.first
