use Rattle.std.proofs.Common.{◌≡◌, ◌<◌, ◌≤◌, ℕ, List, length, true, false, Bool, sym, subst, ◌∙◌, arith}
use Rattle.std.proofs.lemmas.List.{get_or_default}
use Rattle.std.specs.Prelude.{slice_index_or}
use Rattle.tier_heap.specs.EndHeap.{id_at, IsIndex}
use Rattle.tier_heap.specs.declared.end_heap.EndHeap.{EndHeap}
use Rattle.tier_heap.proofs.SearchLemmas.{search_past, search_behind, search_taken, search_both}
use Rattle.tier_heap.proofs.end_heap.EndHeap.+first_under.Goals as goal
use Rattle.tier_heap.proofs.end_heap.EndHeap.+first_under.Goals.{then-at-self-via-then-at-self, then-at-self-via-else-at-self+then-not-leads}

-- what was read at a place is its id
read_at : (heap : EndHeap) (at id : ℕ) → IsIndex heap → at < heap.count → id ≡ slice_index_or heap.order.items at id → id ≡ id_at heap at
read_at heap at id index within is = is ∙ get_or_default heap.order.items at id 0 (let counted = index.counted in omega arith)

pub returns-then-at-self : goal.returns-then-at-self
returns-then-at-self g t c =
    let answers = λ (id : ℕ) (answer : Bool). g.F.Fn.post c.args.fits.now (id, tt) answer in
    elim c.then-at-self.branch [
      | then-at-self-via-then-at-self w ↦ search_past c.args.ranks.now c.args.self.now answers c.args.at c.args.found c.requires.found w.if-at-self.true
      | then-at-self-via-else-at-self+then-not-leads w ↦ search_behind c.args.ranks.now c.args.self.now answers c.args.at c.args.found w.leads.result c.requires.heap.ordered c.requires.found w.leads.ensures w.if-not-leads.true
    ]

pub returns-then-fits : goal.returns-then-fits
returns-then-fits g t c =
    let answers = λ (id : ℕ) (answer : Bool). g.F.Fn.post c.args.fits.now (id, tt) answer in
    let is = read_at c.args.self.now c.args.at c.index.result.now c.requires.heap.lists.index c.if-at-self.false c.index.ensures in
    let fits = subst (λ (id : ℕ). answers id true) is (subst (answers c.index.result.now) c.if-fits.true c.fits.ensures) in
    search_taken c.args.ranks.now c.args.self.now answers c.args.at c.args.found c.leads.result c.requires.heap.ordered c.if-at-self.false c.leads.ensures c.if-not-leads.false fits

pub returns : goal.returns
returns g t c =
    let answers = λ (id : ℕ) (answer : Bool). g.F.Fn.post c.args.fits.now (id, tt) answer in
    let is = read_at c.args.self.now c.args.at c.index.result.now c.requires.heap.lists.index c.if-at-self.false c.index.ensures in
    let refused = subst (λ (id : ℕ). answers id false) is (subst (answers c.index.result.now) c.if-fits.false c.fits.ensures) in
    search_both c.args.ranks.now c.args.self.now answers c.args.at c.args.found c.first_under-found.result c.first_under.result refused c.first_under-found.ensures c.first_under.ensures
