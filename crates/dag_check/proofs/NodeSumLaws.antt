-- What is kept of a node stays true when a body is taken.
use Rattle.std.specs.Prelude.{◌≡◌, ℕ, ◌+◌, ◌<◌, ◌≤◌, Bool, true, false, List, [], ◌++◌, length, nat_lt, slice_get, Some, Option, refl, if◌then◌else◌}
use Rattle.std.proofs.Common.{sym, ap, ◌∙◌, subst, arith}
use Rattle.std.proofs.lemmas.Bool.{lt-ltb, and_from}
use Rattle.file_model.specs.declared.fields.PatchField.{PatchField}
use Rattle.file_model.specs.Lists.{BodyLists, triangles_of}
use Rattle.mesh_model.specs.Nets.{one_if}
use Rattle.mesh_model.specs.Accepted.{is_inner}
use Rattle.edge_chain.specs.declared.differences.Difference.{Difference}
use Rattle.edge_chain.specs.Chains.{Chain, IsNetOf}
use Rattle.edge_chain.specs.NetLaws.{net-nil}
use Rattle.mesh_model.specs.declared.sides.NodeSide.{NodeSide}
use Rattle.mesh_model.specs.declared.sides.NodeSide.TheVariants.{Incoming, Outgoing}
use Rattle.dag_check.specs.declared.node_sums.NodeSums.{NodeSums}
use Rattle.dag_check.specs.Added.{Grows}
use Rattle.mesh_model.specs.Sides.{is_on}
use Rattle.dag_check.specs.NodeSums.{other, Taken, taken_on, taken_both, one_more, to_come, if_inner, empty_chain, chain_on, IsGrown, settled, Takes, outer, more, last, IsSum, AreNodeSums}
use Rattle.dag_check.proofs.CountLaws.{to_come-step, to_come-le}

-- what holds on one side and on the other holds on each
pub by_side : (P : NodeSide → Type 0) (side : NodeSide) → P side → P (other side) → (s : NodeSide) → P s
by_side P Incoming here there Incoming = here
by_side P Incoming here there Outgoing = there
by_side P Outgoing here there Incoming = there
by_side P Outgoing here there Outgoing = here

pub taken_same : (side : NodeSide) (taken : Taken) → taken_on side (one_more side taken) ≡ taken_on side taken + 1
taken_same Incoming taken = refl
taken_same Outgoing taken = refl

pub taken_other : (side : NodeSide) (taken : Taken) → taken_on (other side) (one_more side taken) ≡ taken_on (other side) taken
taken_other Incoming taken = refl
taken_other Outgoing taken = refl

taken_le : (side s : NodeSide) (taken : Taken) → taken_on s taken ≤ taken_on s (one_more side taken)
taken_le Incoming Incoming taken = omega arith
taken_le Incoming Outgoing taken = omega arith
taken_le Outgoing Incoming taken = omega arith
taken_le Outgoing Outgoing taken = omega arith

-- the empty chain is the net of no triangle
pub empty_net : IsNetOf [] empty_chain
empty_net = record {
  count = refl;
  nets = λ p forward. sym (net-nil p.a p.b);
  entries = record { ascending = tt; forward = λ e there. absurd (omega (arith, there.1)); not_zero = λ e there. absurd (omega (arith, there.1)) };
}

pub empty_sum : (n : ℕ) → IsSum n empty_chain
empty_sum n = record { triangles = []; net = empty_net; few = omega arith }

pub settled_sum : (t : NodeSums) (n : ℕ) (s : NodeSide) → IsSum n (chain_on s (settled t))
settled_sum t n Incoming = empty_sum n
settled_sum t n Outgoing = empty_sum n

pub sum_more : (n m : ℕ) (chain : Chain) → n ≤ m → IsSum n chain → IsSum m chain
sum_more n m chain low h = record { triangles = h.triangles; net = h.net; few = omega (arith, h.few) }

sum_grows : (n : ℕ) (body : BodyLists) (before after : Chain) → length body.corners ≤ 65535 → Grows body before after → IsSum n before → IsSum (n + 1) after
sum_grows n body before after small g h = record {
  triangles = h.triangles ++ triangles_of body;
  net = g.nets h.triangles h.net;
  few = omega (arith, g.count, h.few);
}

pub grown_sums : (side : NodeSide) (taken : Taken) (body : BodyLists) (before after : NodeSums) → length body.corners ≤ 65535 → IsGrown side body before after → ((s : NodeSide) → IsSum (taken_on s taken) (chain_on s before)) → (s : NodeSide) → IsSum (taken_on s (one_more side taken)) (chain_on s after)
grown_sums side taken body before after small g h =
    by_side (λ s. IsSum (taken_on s (one_more side taken)) (chain_on s after)) side
    (subst (λ (n : ℕ). IsSum n (chain_on side after)) (sym (taken_same side taken)) (sum_grows (taken_on side taken) body (chain_on side before) (chain_on side after) small g.grows (h side)))
    (subst (λ (n : ℕ). IsSum n (chain_on (other side) after)) (sym (taken_other side taken)) (subst (λ (c : Chain). IsSum (taken_on (other side) taken) c) (sym g.other_side) (h (other side))))

-- the numbers of a node: all its patches, and those to come before and after a body
record AreCounts (inner : Bool) (total left all before after : ℕ) : Type 0 where
  total_is : total ≡ (if inner then all else 0)
  left_is : left ≡ (if inner then before else 0)
  within : before ≤ all
  step : before ≡ 1 + after

outer_left : (inner : Bool) (total left all before after : ℕ) → AreCounts inner total left all before after → total ≡ 0 → left ≡ (if inner then after else 0)
outer_left true total left all before after h e = absurd (omega (arith, h.total_is, h.within, h.step))
outer_left false total left all before after h e = h.left_is

inner_left : (inner : Bool) (total left left_after all before after : ℕ) → AreCounts inner total left all before after → 0 < total → left_after + 1 ≡ left → left_after ≡ (if inner then after else 0)
inner_left true total left left_after all before after h some e = omega (arith, h.left_is, h.step)
inner_left false total left left_after all before after h some e = absurd (omega (arith, h.total_is))

inner_is : (inner : Bool) (total left all before after : ℕ) → AreCounts inner total left all before after → 0 < total → inner ≡ true
inner_is true total left all before after h some = refl
inner_is false total left all before after h some = absurd (omega (arith, h.total_is))

ready : (inner : Bool) (total left all before after : ℕ) → AreCounts inner total left all before after → 0 < total → 0 < left
ready true total left all before after h some = omega (arith, h.left_is, h.step)
ready false total left all before after h some = absurd (omega (arith, h.total_is))

left_within : (inner : Bool) (total left all before : ℕ) → total ≡ (if inner then all else 0) → left ≡ (if inner then before else 0) → before ≤ all → left ≤ total
left_within true total left all before e d low = omega arith
left_within false total left all before e d low = omega arith

-- no more are to come than there are
pub left-le-total : (fields : List PatchField) (taken : Taken) (v : ℕ) (t : NodeSums) → AreNodeSums fields taken v t → t.left ≤ t.total
left-le-total fields taken v t h = left_within (is_inner fields v) t.total t.left (to_come fields (taken_both 0) v) (to_come fields taken v) h.total h.left (to_come-le fields taken v)

counts_of : (side : NodeSide) (fields : List PatchField) (taken : Taken) (v : ℕ) (f : PatchField) (t : NodeSums) → slice_get fields (taken_on side taken) ≡ Some f → is_on side v f ≡ true → AreNodeSums fields taken v t → AreCounts (is_inner fields v) t.total t.left (to_come fields (taken_both 0) v) (to_come fields taken v) (to_come fields (one_more side taken) v)
counts_of side fields taken v f t at here h = record {
  total_is = h.total;
  left_is = h.left;
  within = to_come-le fields taken v;
  step = to_come-step side fields taken v f at ∙ ap (λ (b : Bool). one_if b + to_come fields (one_more side taken) v) here;
}

-- the node of a patch that is taken has it still to come, if it is inner
pub is_ready : (side : NodeSide) (fields : List PatchField) (taken : Taken) (v : ℕ) (f : PatchField) (t : NodeSums) → slice_get fields (taken_on side taken) ≡ Some f → is_on side v f ≡ true → AreNodeSums fields taken v t → 0 < t.total → 0 < t.left
is_ready side fields taken v f t at here h some = ready (is_inner fields v) _ _ _ _ _ (counts_of side fields taken v f t at here h) some

-- a node on whose side the patch isn't
pub other_node : (side : NodeSide) (fields : List PatchField) (taken : Taken) (v : ℕ) (f : PatchField) (t : NodeSums) → slice_get fields (taken_on side taken) ≡ Some f → is_on side v f ≡ false → AreNodeSums fields taken v t → AreNodeSums fields (one_more side taken) v t
other_node side fields taken v f t at apart h = record {
  total = h.total;
  left = h.left ∙ ap (λ (n : ℕ). if_inner fields v n) (omega (arith, to_come-step side fields taken v f at, ap one_if apart));
  dropped = h.dropped;
  sums = λ s. sum_more (taken_on s taken) (taken_on s (one_more side taken)) (chain_on s t) (taken_le side s taken) (h.sums s);
}

-- the node on whose side the patch is
pub own_node : (side : NodeSide) (fields : List PatchField) (taken : Taken) (v : ℕ) (f : PatchField) (body : BodyLists) (before after : NodeSums) (difference : Option Difference) → slice_get fields (taken_on side taken) ≡ Some f → is_on side v f ≡ true → length body.corners ≤ 65535 → Takes side body before after difference → AreNodeSums fields taken v before → AreNodeSums fields (one_more side taken) v after
own_node side fields taken v f body before after difference at here small (outer e same _) h =
    subst (λ (t : NodeSums). AreNodeSums fields (one_more side taken) v t) (sym same) (record {
      total = h.total;
      left = outer_left (is_inner fields v) _ _ _ _ _ (counts_of side fields taken v f before at here h) e;
      dropped = h.dropped;
      sums = λ s. sum_more (taken_on s taken) (taken_on s (one_more side taken)) (chain_on s before) (taken_le side s taken) (h.sums s);
    })
own_node side fields taken v f body before after difference at here small (more some g low _) h = record {
  total = g.total ∙ h.total;
  left = inner_left (is_inner fields v) _ _ _ _ _ _ (counts_of side fields taken v f before at here h) some g.left;
  dropped = λ rests. absurd (let e = sym rests ∙ and_from (nat_lt 0 after.left) (nat_lt after.left after.total) (lt-ltb 0 after.left low) (lt-ltb after.left after.total (omega (arith, g.left, g.total, left-le-total fields taken v before h))) in cc);
  sums = grown_sums side taken body before after small g h.sums;
}
own_node side fields taken v f body before after difference at here small (last some grown g e same _) h =
    subst (λ (t : NodeSums). AreNodeSums fields (one_more side taken) v t) (sym same) (record {
      total = g.total ∙ h.total;
      left = inner_left (is_inner fields v) _ _ _ _ _ _ (counts_of side fields taken v f before at here h) some g.left;
      dropped = λ _. record { incoming = refl; outgoing = refl };
      sums = λ s. settled_sum grown (taken_on s (one_more side taken)) s;
    })

-- an inner node to which nothing is to come
pub record IsDone (fields : List PatchField) (taken : Taken) (v : ℕ) : Type 0 where
  pub inner : is_inner fields v ≡ true
  pub none_left : to_come fields taken v ≡ 0

pub last_is : (side : NodeSide) (fields : List PatchField) (taken : Taken) (v : ℕ) (f : PatchField) (body : BodyLists) (before grown : NodeSums) → slice_get fields (taken_on side taken) ≡ Some f → is_on side v f ≡ true → 0 < before.total → IsGrown side body before grown → grown.left ≡ 0 → AreNodeSums fields taken v before → IsDone fields (one_more side taken) v
last_is side fields taken v f body before grown at here some g e h =
    let counts = counts_of side fields taken v f before at here h in
    let inner = inner_is (is_inner fields v) _ _ _ _ _ counts some in
    record {
      inner = inner;
      none_left = ap (λ (b : Bool). if b then to_come fields (one_more side taken) v else 0) (sym inner) ∙ sym (inner_left (is_inner fields v) _ _ _ _ _ _ counts some g.left) ∙ e;
    }
