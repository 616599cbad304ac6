use Rattle.std.proofs.Common.{◌≡◌, ℕ, ◌<◌, ◌+◌, List, ◌++◌, Option, None, length, get_or, arith, sym, ◌∙◌, ap, subst}
use Rattle.std.proofs.lemmas.List.{length_push}
use Rattle.std.proofs.lemmas.Option.{slice_get-get_or}
use Rattle.file_model.specs.declared.fields.PatchField.{PatchField}
use Rattle.mesh_model.specs.declared.sides.NodeSide.{NodeSide}
use Rattle.mesh_graph.specs.Sides.{patches_at}
use Rattle.mesh_graph.specs.Chains.{IsChain, AreLinked}
use Rattle.mesh_graph.proofs.ChainLaws.{chain_is}
use Rattle.mesh_graph.proofs.SpanLaws.{spans_more, arcs_from_spans}
use Rattle.mesh_graph.proofs.arcs.Adjacency.of.Goals as goal

chain_here : (side : NodeSide) (fields : List PatchField) (first next seen links : List (Option ℕ)) (v : ℕ) → seen ≡ first → links ≡ next → AreLinked side fields 0 first next → v < length seen → IsChain links (get_or seen v None) (patches_at side fields v)
chain_here side fields first next seen links v seen_is links_is linked v_in =
    let v_first : v < length first = subst (λ (l : List (Option ℕ)). v < length l) seen_is v_in in
    rw (seen_is, links_is) (chain_is side fields first next v (get_or first v None) linked v_first (slice_get-get_or first v None v_first))

pub push_chain-requires : goal.push_chain-requires
push_chain-requires c = (
  patches_at c.args.side c.args.fields.now c.loop-first.first-index,
  chain_here c.args.side c.args.fields.now c.in_ok-chains.chains.first.items c.in_ok-chains.chains.next.items c.deref-first-items.result.now c.deref.result.now c.loop-first.first-index
      c.deref-first-items.ensures.value c.deref.ensures.value c.in_ok-chains.ensures.linked c.loop-first-test.true,
)

pub loop-first-preserved : goal.loop-first-preserved
loop-first-preserved c =
    let appended : c.push_chain.new.patches.items ≡ c.loop-first.patches.items ++ patches_at c.args.side c.args.fields.now c.loop-first.first-index =
    c.in_ok-push_chain.ensures (patches_at c.args.side c.args.fields.now c.loop-first.first-index)
    (chain_here c.args.side c.args.fields.now c.in_ok-chains.chains.first.items c.in_ok-chains.chains.next.items c.deref-first-items.result.now c.deref.result.now c.loop-first.first-index
    c.deref-first-items.ensures.value c.deref.ensures.value c.in_ok-chains.ensures.linked c.loop-first-test.true) in
    let more : c.push_chain.new.patches.items ≡ c.loop-first.patches.items ++ patches_at c.args.side c.args.fields.now (length c.loop-first.spans.items) =
    appended ∙ ap (λ (v : ℕ). c.loop-first.patches.items ++ patches_at c.args.side c.args.fields.now v) (sym c.loop-first.invariant.as_many) in
    record {
      as_many = ap length c.in_ok-push.ensures.items ∙ length_push c.loop-first.spans.items _ ∙ ap (λ (n : ℕ). n + 1) c.loop-first.invariant.as_many;
      spans = rw c.in_ok-push.ensures.items (spans_more c.args.side c.args.fields.now c.loop-first.patches.items c.push_chain.new.patches.items c.loop-first.spans.items _ c.loop-first.invariant.spans more (omega (arith, c.len-start.ensures)) (omega (arith, c.len-end.ensures)));
    }

pub returns : goal.returns
returns c = arcs_from_spans c.args.side c.args.fields.now c.args.nodes _ c.loop-first.spans.items (omega (arith, c.in_ok-chains.ensures.as_many, ap length c.deref-first-items.ensures.value)) c.loop-first.invariant.spans
