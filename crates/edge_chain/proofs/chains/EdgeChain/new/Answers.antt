-- No triangle has the net 0 at each pair.
use Rattle.std.proofs.Common.{◌≡◌, refl, sym, ap, ◌∙◌, [], List, true, ℤ}
use Rattle.mesh_model.specs.Nets.{Pair}
use Rattle.edge_chain.specs.NetLaws.{net-nil}
use Rattle.edge_chain.specs.Chains.{kept_net}
use Rattle.edge_chain.specs.Sums.{AreSums, entries_of}
use Rattle.edge_chain.proofs.ViewLaws.{no_sums, entries-nil, are_entries}
use Rattle.edge_chain.proofs.chains.EdgeChain.new.Goals as goal

pub invariant_of-result : goal.invariant_of-result
invariant_of-result c = rw (c.new.ensures.items) no_sums

pub returns-clause-entries : goal.returns-clause-entries
returns-clause-entries c = rw (c.new.ensures.items) entries-nil

pub returns-clause-nets : goal.returns-clause-nets
returns-clause-nets c =
    let sums : AreSums c.new.result.items true 0 = rw (c.new.ensures.items) no_sums in
    let none : entries_of c.new.result.items ≡ [] = rw (c.new.ensures.items) entries-nil in
    record {
      count = refl;
      nets = λ p _. ap (λ (es : List (Pair × ℤ)). kept_net es p) none ∙ sym (net-nil p.a p.b);
      entries = are_entries c.new.result.items sums.forward;
    }
