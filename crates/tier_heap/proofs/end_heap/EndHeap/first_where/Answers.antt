use Rattle.std.proofs.Common.{◌≡◌, ◌<◌, ◌≤◌, ℕ, Bool, Option, Some, None, List, length, sym, subst, ◌∙◌, arith}
use Rattle.std.proofs.lemmas.List.{get_or_default}
use Rattle.tier_heap.specs.Searches.{Searches, NoneIsFound}
use Rattle.tier_heap.proofs.SearchLemmas.{none_found, first_found}
use Rattle.tier_heap.proofs.end_heap.EndHeap.first_where.Goals as goal

pub returns-in_err-place-clause-none : goal.returns-in_err-place-clause-none
returns-in_err-place-clause-none g c =
    let answers = λ (id : ℕ) (answer : Bool). g.F.Fn.post c.args.fits (id, tt) answer in
    let none = none_found c.args.ranks.now c.args.self.now answers c.in_err-place.ensures in
    rw c.from_residual.ensures none

pub returns-clause-first : goal.returns-clause-first
returns-clause-first g c =
    let answers = λ (id : ℕ) (answer : Bool). g.F.Fn.post c.args.fits (id, tt) answer in
    let search = c.in_ok-place.ensures in
    let counted = c.requires.heap.lists.index.counted in
    let within : c.in_ok-place.place < length c.args.self.now.order.items = (let there = search.fits.0 in omega arith) in
    first_found c.args.ranks.now c.args.self.now answers c.in_ok-place.place c.index.result.now (c.index.ensures ∙ get_or_default c.args.self.now.order.items c.in_ok-place.place c.index.result.now 0 within) search
