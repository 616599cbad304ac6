-- The keys that are left have the triangles' net.
use Rattle.std.proofs.Common.{◌≡◌, ◌∙◌, List, ℕ, map, ap, sym, subst}
use Rattle.std.specs.Prelude.{All}
use Rattle.std.specs.List.Sorted.{IsPermutation, IsNonDecreasing}
use Rattle.std.proofs.lemmas.List.Sorted.{IsNonDecreasingBy-from_sort}
use Rattle.std.proofs.lemmas.Result.{on_ok_weaker}
use Rattle.edge_chain.specs.declared.edges.BorderEdge.{BorderEdge}
use Rattle.file_model.specs.Lists.{SeenBody}
use Rattle.patch_body.specs.Seen.{IsSeenBody}
use Rattle.body_edges.specs.Keys.{IsKey, keys_in, edge_between}
use Rattle.body_edges.specs.Borders.{IsBorderOf}
use Rattle.body_edges.proofs.DropLaws.{IsLeft}
use Rattle.body_edges.proofs.BorderLaws.{AreLeftOf, triangles_are, are_keys, border_is}
use Rattle.body_edges.proofs.borders.Border.find.Goals as goal

left_of : (body : SeenBody) (keys sorted left : List ℕ) → IsSeenBody body → keys ≡ keys_in body.lists.corners → IsPermutation keys sorted → IsNonDecreasing sorted → IsLeft left sorted → AreLeftOf body.lists left
left_of body keys sorted left facts e moved ascending is = record {
  few = facts.points.few;
  triangles = triangles_are body.version body.lists facts.rules;
  sorted = sorted;
  moved = subst (λ (ks : List ℕ). IsPermutation ks sorted) e moved;
  ascending = ascending;
  left_is = is;
}

pub push_edges-requires-clause-keys : goal.push_edges-requires-clause-keys
push_edges-requires-clause-keys c =
    let left = left_of c.args.body.now c.push_keys.new.keys.items c.sort_unstable.new.self.items c.drop_opposites.new.keys.items c.patch-patch.ensures.facts c.in_ok-push_keys.ensures c.sort_unstable.ensures.permutation
    (IsNonDecreasingBy-from_sort (λ (n : ℕ). n) c.sort_unstable.new.self.items c.sort_unstable.ensures.sorted)
    (record { net = c.drop_opposites.ensures.net; few = c.drop_opposites.ensures.few; all = c.drop_opposites.ensures.all; one_way = c.drop_opposites.ensures.one_way }) in
    let all : All (IsKey _) c.drop_opposites.new.keys.items = are_keys c.args.body.now.lists c.drop_opposites.new.keys.items left in
    rw (c.deref.ensures.value) all

pub returns : goal.returns
returns c =
    let left = left_of c.args.body.now c.push_keys.new.keys.items c.sort_unstable.new.self.items c.drop_opposites.new.keys.items c.patch-patch.ensures.facts c.in_ok-push_keys.ensures c.sort_unstable.ensures.permutation
    (IsNonDecreasingBy-from_sort (λ (n : ℕ). n) c.sort_unstable.new.self.items c.sort_unstable.ensures.sorted)
    (record { net = c.drop_opposites.ensures.net; few = c.drop_opposites.ensures.few; all = c.drop_opposites.ensures.all; one_way = c.drop_opposites.ensures.one_way }) in
    let border : IsBorderOf (map (edge_between c.args.body.now.lists.points) c.drop_opposites.new.keys.items) c.args.body.now.lists = border_is c.args.body.now.lists c.drop_opposites.new.keys.items left in
    on_ok_weaker c.push_edges.result
    (λ e. subst (λ (edges : List BorderEdge). IsBorderOf edges c.args.body.now.lists) (sym (e ∙ ap (map (edge_between c.args.body.now.lists.points)) c.deref.ensures.value)) border)
    c.push_edges.ensures
