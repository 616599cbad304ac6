use Rattle.std.proofs.Common.{◌≡◌, ◌↔◌, subst, List, ℤ}
use Rattle.std.specs.Prelude.{Option, Some, None, IfSome}
use Rattle.edge_chain.specs.declared.edges.Edge.{Edge}
use Rattle.edge_chain.specs.Chains.{IsFirstDifference}
use Rattle.edge_chain.specs.Differences.{Finds}
use Rattle.edge_chain.specs.NetLaws.{net_difference, same_entries_iff}
use Rattle.edge_chain.proofs.FindLaws.{none_iff, least_difference, iff_then}
use Rattle.edge_chain.proofs.chains.EdgeChain.first_difference.Goals as goal

if_some_then : {A : Type 0} {P Q : A → Type 0} (r : Option A) → IfSome r P → ((a : A) → P a → Q a) → IfSome r Q
if_some_then None h k = tt
if_some_then (Some a) h k = k a h

found : (c : goal.After-find_difference) → Finds c.self.inside.sums.items c.other.inside.sums.items c.find_difference.result
found c =
    subst (λ (es : List (Edge × ℤ)). Finds es c.other.inside.sums.items c.find_difference.result) c.deref.ensures.value
    (subst (λ (es : List (Edge × ℤ)). Finds c.deref.result.now es c.find_difference.result) c.deref-2.ensures.value c.find_difference.ensures)

none : (c : goal.After-find_difference) → (c.find_difference.result ≡ None) ↔ (c.args.self.now.entries ≡ c.args.other.now.entries)
none c =
    rw (← c.self.view_is, ← c.other.view_is)
    (none_iff c.self.inside.sums.items c.other.inside.sums.items c.self.invariant.forward c.other.invariant.forward c.find_difference.result (found c))

pub returns-clause-none : goal.returns-clause-none
returns-clause-none c = none c

pub returns-clause-one_net : goal.returns-clause-one_net
returns-clause-one_net c = λ here there h k. iff_then (none c) (same_entries_iff here there c.args.self.now c.args.other.now h k)

least : (c : goal.After-find_difference) → IfSome c.find_difference.result (IsFirstDifference c.args.self.now.entries c.args.other.now.entries)
least c =
    rw (← c.self.view_is, ← c.other.view_is)
    (least_difference c.self.inside.sums.items c.other.inside.sums.items c.self.invariant.forward c.other.invariant.forward c.find_difference.result (found c))

pub returns-clause-least : goal.returns-clause-least
returns-clause-least c = least c

pub returns-clause-nets : goal.returns-clause-nets
returns-clause-nets c = if_some_then c.find_difference.result (least c) (λ difference is here there h k. net_difference here there c.args.self.now c.args.other.now difference h k is)
