-- The patches that are locked, and those that are owed.
use Rattle.std.proofs.Common.{◌≡◌, ℕ, zero, suc, ◌+◌, ◌<◌, List, [], ◌∷◌, ◌++◌, length, take, drop, get_or, Option, Some, None, refl, sym, ap, subst, ◌∙◌, arith}
use Rattle.std.proofs.lemmas.List.{length_push, take_more}
use Rattle.mesh_model.specs.Graph.{outgoing}
use Rattle.round_model.specs.Order.{Rules}
use Rattle.cut_refiner.specs.Refiners.{AreFirst}

one_above : (k : ℕ) → suc k + 1 ≡ suc (k + 1)
one_above k = omega arith

pub drop_one : (k : ℕ) (xs : List ℕ) → drop (k + 1) xs ≡ drop 1 (drop k xs)
drop_one zero xs = refl
drop_one (suc k) [] = ap (λ n. drop n []) (one_above k)
drop_one (suc k) (x ∷ xs) = ap (λ n. drop n (x ∷ xs)) (one_above k) ∙ drop_one k xs

-- none are the first of any
pub first_none : (rules : Rules) (locked : List ℕ) (hand : Option ℕ) → locked ≡ [] → AreFirst rules locked hand
first_none rules locked None none = tt
first_none rules locked (Some node) none = subst (λ (ps : List ℕ). ps ≡ take (length ps) (outgoing rules.mesh.index.fields node)) (sym none) refl

-- one more of the first
pub first_more : (arcs locked new : List ℕ) → locked ≡ take (length locked) arcs → length locked < length arcs → new ≡ locked ++ get_or arcs (length locked) 0 ∷ [] → new ≡ take (length new) arcs
first_more arcs locked new are within is =
    let many : length new ≡ length locked + 1 = ap length is ∙ length_push locked (get_or arcs (length locked) 0) in
    is ∙ ap (λ (ps : List ℕ). ps ++ get_or arcs (length locked) 0 ∷ []) are ∙ sym (take_more arcs (length locked) 0 within) ∙ ap (λ n. take n arcs) (sym many)
