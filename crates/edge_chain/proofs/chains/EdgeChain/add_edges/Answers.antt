-- What is pushed adds the edges' net.
use Rattle.std.proofs.Common.{◌≡◌, ◌∙◌, sym, ap, subst, ◌+◌, ◌≤◌, ◌^◌, arith, false, List, ◌++◌, ℕ, ℤ}
use Rattle.edge_chain.specs.declared.edges.Edge.{Edge}
use Rattle.edge_chain.specs.Chains.{Chain}
use Rattle.edge_chain.specs.Borders.{AddsEdges}
use Rattle.edge_chain.specs.NetLaws.{IsNetOf-add_edges}
use Rattle.edge_chain.specs.Sums.{sums_of, AreSums, chain_of}
use Rattle.edge_chain.proofs.ViewLaws.{more_sums, adds_edges}
use Rattle.edge_chain.proofs.chains.EdgeChain.add_edges.Goals as goal

pushed : (c : goal.After-self-2-1) → c.push_edges.new.sums.items ≡ c.self.inside.sums.items ++ sums_of c.args.edges.now
pushed c = c.push_edges.ensures ∙ ap (λ (es : List (Edge × ℤ)). es ++ sums_of c.args.edges.now) c.reserve.ensures.items

before_is : (c : goal.After-self-2-1) → chain_of c.self.inside.sums.items c.self.inside.triangles ≡ c.args.self.now
before_is c = c.self.view_is ∙ c.gather_if_grown.ensures

room : (c : goal.After-self-2-1) → c.self.inside.triangles + c.args.triangles ≤ 2 ^ 60
room c = omega (arith, c.requires.room, ap (λ (x : Chain). x.count) (before_is c))

pub invariant_of-self-2 : goal.invariant_of-self-2
invariant_of-self-2 c =
    subst (λ (es : List (Edge × ℤ)). AreSums es false (c.self.inside.triangles + c.args.triangles)) (sym (pushed c))
    (more_sums c.self.inside.sums.items c.args.edges.now c.self.inside.gathered c.self.inside.triangles c.args.triangles c.self.invariant (room c) c.requires.few)

added : (c : goal.After-self-2-1) → AddsEdges c.args.edges.now c.args.triangles c.args.self.now (chain_of c.push_edges.new.sums.items (c.self.inside.triangles + c.args.triangles))
added c =
    subst (λ (before : Chain). AddsEdges c.args.edges.now c.args.triangles before (chain_of c.push_edges.new.sums.items (c.self.inside.triangles + c.args.triangles))) (before_is c)
    (subst (λ (es : List (Edge × ℤ)). AddsEdges c.args.edges.now c.args.triangles (chain_of c.self.inside.sums.items c.self.inside.triangles) (chain_of es (c.self.inside.triangles + c.args.triangles))) (sym (pushed c))
    (adds_edges c.self.inside.sums.items c.args.edges.now c.self.inside.gathered c.self.inside.triangles c.args.triangles c.self.invariant (room c) c.requires.few))

pub returns-clause-added : goal.returns-clause-added
returns-clause-added c = added c

pub returns-clause-nets : goal.returns-clause-nets
returns-clause-nets c = λ before more is border number.
    IsNetOf-add_edges before more c.args.edges.now c.args.self.now _ is
    (subst (λ (n : ℕ). AddsEdges c.args.edges.now n c.args.self.now (chain_of c.push_edges.new.sums.items (c.self.inside.triangles + c.args.triangles))) (sym number) (added c)) border
