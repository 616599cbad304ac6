-- The nodes that are under way are the open ones.
use Rattle.std.specs.Prelude.{◌≡◌, ℕ, zero, suc, ◌+◌, Bool, true, false, ◌&&◌, ◌||◌, List, [], ◌∷◌, length, take, drop, nat_lt, slice_get, Some, refl, if◌then◌else◌}
use Rattle.std.specs.List.{list_any, sum_by}
use Rattle.std.proofs.Common.{sym, ap, ◌∙◌, arith}
use Rattle.std.proofs.Math.Bool.{and_comm}
use Rattle.std.proofs.lemmas.Bool.{lt-ltb, le-ltb}
use Rattle.std.proofs.lemmas.List.Sums.{sum_by-cons}
use Rattle.file_model.specs.declared.fields.PatchField.{PatchField}
use Rattle.file_model.specs.Lists.{IndexLists}
use Rattle.mesh_model.specs.Graph.{numbers_from, leads_to, leads_from}
use Rattle.mesh_model.specs.Nets.{one_if}
use Rattle.mesh_model.specs.Accepted.{is_inner}
use Rattle.mesh_model.specs.declared.sides.NodeSide.TheVariants.{Incoming, Outgoing}
use Rattle.dag_check.specs.declared.node_sums.NodeSums.{NodeSums}
use Rattle.dag_check.specs.Open.{touches, is_open, open_nodes}
use Rattle.mesh_model.specs.Sides.{is_on}
use Rattle.dag_check.specs.NodeSums.{how_many, taken_both, is_under_way, AreNodeSums}
use Rattle.dag_check.specs.AllNodeSums.{AllSumsSeen, AreAllSums}
use Rattle.dag_check.proofs.CountLaws.{how_many-cons, how_many-split, length_step}

either_step : (a b : Bool) (m n : ℕ) → (a || b || nat_lt 0 (m + n)) ≡ nat_lt 0 ((one_if a + m) + (one_if b + n))
either_step true b m n = sym (lt-ltb 0 ((1 + m) + (one_if b + n)) (omega arith))
either_step false true m n = sym (lt-ltb 0 ((0 + m) + (1 + n)) (omega arith))
either_step false false m n = ap (λ (k : ℕ). nat_lt 0 k) (omega arith)

-- a patch touches the node where some lead to it or from it
any_touches : (v : ℕ) (fields : List PatchField) → list_any (touches v) fields ≡ nat_lt 0 (how_many (is_on Incoming v) fields + how_many (is_on Outgoing v) fields)
unfolding how_many
any_touches v [] = refl
any_touches v (f ∷ fs) =
    ap (λ (b : Bool). touches v f || b) (any_touches v fs)
    ∙ either_step (leads_to v f) (leads_from v f) (how_many (is_on Incoming v) fs) (how_many (is_on Outgoing v) fs)
    ∙ ap (λ (n : ℕ). nat_lt 0 n) (omega (arith, how_many-cons (is_on Incoming v) f fs, how_many-cons (is_on Outgoing v) f fs))

less_than_more : (added left : ℕ) → nat_lt left (added + left) ≡ nat_lt 0 added
less_than_more zero left = le-ltb left (0 + left) (omega arith) ∙ sym (le-ltb 0 0 (omega arith))
less_than_more (suc n) left = lt-ltb left (suc n + left) (omega arith) ∙ sym (lt-ltb 0 (suc n) (omega arith))

-- some of a node's patches were added and some not where fewer are left than there are
open_by : (inner : Bool) (added left_over total left : ℕ) → total ≡ (if inner then added + left_over else 0) → left ≡ (if inner then left_over else 0) → (inner && nat_lt 0 added && nat_lt 0 left_over) ≡ (nat_lt 0 left && nat_lt left total)
open_by true added left_over total left e d =
    and_comm (nat_lt 0 added) (nat_lt 0 left_over)
    ∙ ap (λ (b : Bool). nat_lt 0 left_over && b) (sym (less_than_more added left_over))
    ∙ ap (λ (n : ℕ). nat_lt 0 left_over && nat_lt left_over n) (sym e)
    ∙ ap (λ (n : ℕ). nat_lt 0 n && nat_lt n total) (sym d)
open_by false added left_over total left e d = ap (λ (n : ℕ). nat_lt 0 n && nat_lt n total) (sym d)

pub open_same : (fields : List PatchField) (n v : ℕ) (t : NodeSums) → AreNodeSums fields (taken_both n) v t → is_open fields n v ≡ is_under_way t
open_same fields n v t h =
    ap (λ (b : Bool). is_inner fields v && b && list_any (touches v) (drop n fields)) (any_touches v (take n fields))
    ∙ ap (λ (b : Bool). is_inner fields v && nat_lt 0 (how_many (is_on Incoming v) (take n fields) + how_many (is_on Outgoing v) (take n fields)) && b) (any_touches v (drop n fields))
    ∙ open_by (is_inner fields v) (how_many (is_on Incoming v) (take n fields) + how_many (is_on Outgoing v) (take n fields)) (how_many (is_on Incoming v) (drop n fields) + how_many (is_on Outgoing v) (drop n fields)) t.total t.left
    (h.total ∙ ap (λ (m : ℕ). if is_inner fields v then m else 0) (omega (arith, how_many-split (is_on Incoming v) fields n, how_many-split (is_on Outgoing v) fields n))) h.left

-- the numbers that pass are as many as the sums of nodes that do
count_from : (test : ℕ → Bool) (passes : NodeSums → Bool) (node_sums : List NodeSums) (first : ℕ) → ((v : ℕ) (t : NodeSums) → slice_get node_sums v ≡ Some t → test (first + v) ≡ passes t) → length (numbers_from first (length node_sums) test) ≡ sum_by (λ t. one_if (passes t)) node_sums
unfolding numbers_from
count_from test passes [] first h = refl
count_from test passes (t ∷ ts) first h =
    let here : test first ≡ passes t = ap test (omega arith) ∙ h 0 t refl in
    length_step (test first) first (numbers_from (first + 1) (length ts) test)
    ∙ omega (arith, ap one_if here, count_from test passes ts (first + 1) (λ v s at. ap test (omega arith) ∙ h (suc v) s at), sum_by-cons (λ (s : NodeSums). one_if (passes s)) t ts)

pub open_count : (index : IndexLists) (n : ℕ) (all_sums : AllSumsSeen) → AreAllSums index (taken_both n) all_sums → all_sums.open_nodes ≡ open_nodes index.fields n (length index.nodes)
open_count index n all_sums h =
    h.open_nodes
    ∙ sym (count_from (is_open index.fields n) is_under_way all_sums.node_sums 0 (λ v t at. ap (is_open index.fields n) (omega arith) ∙ open_same index.fields n v t (h.are_node_sums v t at)))
    ∙ ap (λ (k : ℕ). open_nodes index.fields n k) h.as_many
