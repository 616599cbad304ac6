-- A round tries each patch at most once.
use Rattle.std.proofs.Common.{◌≡◌, ℕ, zero, suc, ◌+◌, ◌<◌, ◌≤◌, Bool, eqb, List, [], ◌∷◌, length, refl, sym, ap, arith, inl, inr}
use Rattle.std.specs.List.{sum_by}
use Rattle.std.proofs.lemmas.Bool.{cases_eq, cond_both, eq-eqb, ne_eqb}
use Rattle.std.proofs.lemmas.List.Sums.{sum_by-cons}
use Rattle.std.proofs.lemmas.List.Sorted.{sum_by-IsPermutation}
use Rattle.file_model.specs.declared.fields.PatchField.{PatchField}
use Rattle.mesh_model.specs.Graph.{leads_from, patches_from, numbers_from}
use Rattle.mesh_model.specs.Nets.{one_if}
use Rattle.mesh_model.specs.Accepted.{is_inner}
use Rattle.round_model.specs.Order.{Rules, node_order}
use Rattle.mesh_laws.specs.Each.{each_of_all}
use Rattle.round_laws.specs.Ascending.{inner_nodes, order_permutes}
use Rattle.cut_refiner.specs.Refiners.{degree}
use Rattle.cut_refiner.proofs.PatchLaws.{sums_split, sum_of_none}

-- how many of the fields lead from the node
abbrev from_node : List PatchField → ℕ → ℕ
from_node fields v = sum_by (λ (f : PatchField). one_if (leads_from v f)) fields

length_from : (test : PatchField → Bool) (fs : List PatchField) (first : ℕ) → length (patches_from first test fs) ≡ sum_by (λ (f : PatchField). one_if (test f)) fs
unfolding patches_from
length_from test [] first = refl
length_from test (f ∷ fs) first =
    let rest = length_from test fs (first + 1) in
    let cons = sum_by-cons (λ (g : PatchField). one_if (test g)) f fs in
    cond_both (test f) (first ∷ patches_from (first + 1) test fs) (patches_from (first + 1) test fs) (λ (ps : List ℕ). length ps ≡ sum_by (λ (g : PatchField). one_if (test g)) (f ∷ fs))
    (λ passes. let one = ap one_if passes in omega arith) (λ fails. let none = ap one_if fails in omega arith)

-- a number stands in the list at most once
abbrev StateOnce : List ℕ → Type 0
StateOnce vs = (t : ℕ) → sum_by (λ v. one_if (eqb t v)) vs ≤ 1

none_below : (test : ℕ → Bool) (n first t : ℕ) → t < first → sum_by (λ v. one_if (eqb t v)) (numbers_from first n test) ≡ 0
unfolding numbers_from
none_below test zero first t less = refl
none_below test (suc n) first t less =
    let rest = none_below test n (first + 1) t (omega arith) in
    let apart = ap one_if (ne_eqb t first (λ same. omega arith)) in
    let cons = sum_by-cons (λ v. one_if (eqb t v)) first (numbers_from (first + 1) n test) in
    cond_both (test first) (first ∷ numbers_from (first + 1) n test) (numbers_from (first + 1) n test) (λ (vs : List ℕ). sum_by (λ v. one_if (eqb t v)) vs ≡ 0) (λ passes. omega arith) (λ fails. rest)

numbers_once : (test : ℕ → Bool) (n first : ℕ) → StateOnce (numbers_from first n test)
unfolding numbers_from
numbers_once test zero first t = omega arith
numbers_once test (suc n) first t =
    let rest = numbers_once test n (first + 1) t in
    let cons = sum_by-cons (λ v. one_if (eqb t v)) first (numbers_from (first + 1) n test) in
    cond_both (test first) (first ∷ numbers_from (first + 1) n test) (numbers_from (first + 1) n test) (λ (vs : List ℕ). sum_by (λ v. one_if (eqb t v)) vs ≤ 1)
    (λ passes. elim (cases_eq t first) [
      | inl same ↦ let here = ap one_if (eq-eqb t first same) in let none = none_below test n (first + 1) t (omega arith) in omega arith
      | inr apart ↦ let here = ap one_if (ne_eqb t first apart) in omega arith
    ])
    (λ fails. rest)

-- so each field leads from at most one of them
all_within : (vs : List ℕ) (fields : List PatchField) → StateOnce vs → sum_by (from_node fields) vs ≤ length fields
all_within vs [] once = omega (arith, sum_of_none (from_node []) vs (each_of_all (λ v. from_node [] v ≡ 0) vs (λ v. refl)))
all_within vs (f ∷ fs) once =
    let split = sums_split (λ v. one_if (leads_from v f)) (from_node fs) (from_node (f ∷ fs)) vs
    (each_of_all (λ v. one_if (leads_from v f) + from_node fs v ≡ from_node (f ∷ fs) v) vs (λ v. sym (sum_by-cons (λ (g : PatchField). one_if (leads_from v g)) f fs))) in
    omega (arith, split, once f.tail, all_within vs fs once)

degrees_same : (rules : Rules) (vs : List ℕ) → sum_by (degree rules) vs ≡ sum_by (from_node rules.mesh.index.fields) vs
degrees_same rules [] = refl
degrees_same rules (v ∷ vs) = omega (arith, sum_by-cons (degree rules) v vs, sum_by-cons (from_node rules.mesh.index.fields) v vs, length_from (leads_from v) rules.mesh.index.fields 0, degrees_same rules vs)

-- the nodes of the order have no more patches than there are
pub order_has_few : (rules : Rules) → sum_by (degree rules) (node_order rules) ≤ length rules.mesh.index.fields
order_has_few rules =
    let once = numbers_once (is_inner rules.mesh.index.fields) (length rules.mesh.index.nodes) 0 in
    omega (arith, sum_by-IsPermutation (degree rules) (inner_nodes rules) (node_order rules) (order_permutes rules), degrees_same rules (inner_nodes rules), all_within (inner_nodes rules) rules.mesh.index.fields once)
