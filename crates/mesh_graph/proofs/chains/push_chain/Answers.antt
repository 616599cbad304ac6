use Rattle.std.proofs.Common.{◌≡◌, ℕ, ◌<◌, List, ◌++◌, [], Option, Some, None, length, get_or, sym, ◌∙◌, ap, subst}
use Rattle.std.specs.List.{slice_get}
use Rattle.std.proofs.lemmas.List.{append-nil}
use Rattle.std.proofs.lemmas.Option.{slice_get-get_or, slice_get_within}
use Rattle.mesh_graph.specs.Chains.{IsChain}
use Rattle.mesh_graph.proofs.ChainLaws.{IsStep, chain_step, chain_ends, left_more, less_more, appended_more, steps_left}
use Rattle.mesh_graph.proofs.chains.push_chain.Goals as goal

abbrev IsLeft : List (Option ℕ) → Option ℕ → Type 0
IsLeft next at = (rest : List ℕ) × IsChain next at rest

left_here : (next : List (Option ℕ)) (at : Option ℕ) (p : ℕ) → at ≡ Some p → IsLeft next at → IsLeft next (Some p)
left_here next at p is left = subst (IsLeft next) is left

in_next : (next : List (Option ℕ)) (p : ℕ) → IsLeft next (Some p) → p < length next
in_next next p (chain, is) =
    let step : IsStep next p chain = chain_step next p chain is in
    slice_get_within next p step.following step.there

pub bounds-next-patch : goal.bounds-next-patch
bounds-next-patch c = in_next c.args.next.now c.in-Some.patch (left_here c.args.next.now c.loop-at.at c.in-Some.patch c.in-Some.is c.loop-at.invariant.left)

read : (next : List (Option ℕ)) (p : ℕ) → IsLeft next (Some p) → slice_get next p ≡ Some (get_or next p None)
read next p left = slice_get-get_or next p None (in_next next p left)

less_here : (next : List (Option ℕ)) (at : Option ℕ) (p : ℕ) → at ≡ Some p → IsLeft next at → steps_left next (get_or next p None) < steps_left next at
less_here next at p is left =
    let here : IsLeft next (Some p) = left_here next at p is left in
    subst (λ (o : Option ℕ). steps_left next (get_or next p None) < steps_left next o) (sym is) (less_more next p (get_or next p None) (read next p here) here)

pub loop-at-smaller : goal.loop-at-smaller
loop-at-smaller c = less_here c.args.next.now c.loop-at.at c.in-Some.patch c.in-Some.is c.loop-at.invariant.left

pub loop-at-preserved : goal.loop-at-preserved
loop-at-preserved c =
    let next : List (Option ℕ) = c.args.next.now in
    let here : IsLeft c.args.next.now (Some c.in-Some.patch) = left_here c.args.next.now c.loop-at.at c.in-Some.patch c.in-Some.is c.loop-at.invariant.left in
    record {
      left = left_more c.args.next.now c.in-Some.patch _ (read c.args.next.now c.in-Some.patch here) here;
      appended = λ chain is.
          appended_more c.args.next.now c.in-Some.patch _ (read c.args.next.now c.in-Some.patch here) c.loop-at.patches.items c.push.new.self.items (c.args.patches.now.items ++ chain) c.in_ok-push.ensures.items
          (subst (λ (o : Option ℕ). (rest : List ℕ) × IsChain c.args.next.now o rest × (c.loop-at.patches.items ++ rest ≡ c.args.patches.now.items ++ chain)) c.in-Some.is (c.loop-at.invariant.appended chain is));
    }

all_appended : (next : List (Option ℕ)) (at : Option ℕ) (done all : List ℕ) → at ≡ None → (rest : List ℕ) × IsChain next at rest × (done ++ rest ≡ all) → done ≡ all
all_appended next at done all is (rest, chain, e) =
    let empty : rest ≡ [] = chain_ends next rest (subst (λ (o : Option ℕ). IsChain next o rest) is chain) in
    sym (append-nil done) ∙ ap (λ (ps : List ℕ). done ++ ps) (sym empty) ∙ e

pub returns : goal.returns
returns c chain is = all_appended c.args.next.now c.loop-at.at c.loop-at.patches.items (c.args.patches.now.items ++ chain) c.in_default.is (c.loop-at.invariant.appended chain is)
