-- What a vector has after its items were written through a slice.
use Rattle.std.proofs.Common.{◌≡◌, ℕ, List, length, Vec, vec_len, Option, Some, None, ◌<◌, subst, sym, ap, ◌∙◌}
use Rattle.std.specs.Prelude.{slice_index_or, slice_set, option_map, IfSome}
use Rattle.std.specs.Arc.{arc_value}
use Rattle.std.specs.declared.sync.Arc.{Arc}
use Rattle.std.specs.Vec.{with_items}
use Rattle.std.proofs.lemmas.List.{with_items_is, map-set, get_or-map, get_or_default, length-map}
use Rattle.tier_budget.specs.Heads.{bodies_in}

pub written : {X Z : Type 0} (v : Vec X Z) (slice items : List X) → slice ≡ v.items → length items ≡ length slice → (with_items v items).items ≡ items
written v slice items is same_length = with_items_is v items (same_length ∙ ap length is ∙ sym v.ok.0)

pub body_written : {X Z : Type 0} (bodies : List (Option (Arc X Z))) (p : ℕ) (o : Option (Arc X Z)) → bodies_in (slice_set bodies p o) ≡ slice_set (bodies_in bodies) p (option_map arc_value o)
body_written bodies p o = map-set (option_map arc_value) bodies p o

-- a body that was read, whatever is told past the end
pub body_read : {X Z : Type 0} (bodies : List (Option (Arc X Z))) (p : ℕ) (o : Option (Arc X Z)) → p < length bodies → o ≡ slice_index_or bodies p o → option_map arc_value o ≡ slice_index_or (bodies_in bodies) p None
body_read bodies p o within is = ap (option_map arc_value) (is ∙ get_or_default bodies p o None within) ∙ sym (get_or-map (option_map arc_value) bodies p None None within)

-- what holds of the number that is there
pub at_some : (P : ℕ → Type 0) (o : Option ℕ) (p : ℕ) → o ≡ Some p → P p → IfSome o P
at_some P o p is holds = subst (λ (q : Option ℕ). IfSome q P) (sym is) holds

-- there is a place for each patch
pub has_place : {X Z W : Type 0} (v : Vec (Option (Arc X Z)) W) (n p : ℕ) → length (bodies_in v.items) ≡ n → p < n → p < vec_len v
has_place v n p many within = subst (λ (k : ℕ). p < k) (sym (v.ok.0 ∙ sym (length-map v.items (option_map arc_value)) ∙ many)) within

pub has_item : {X Z : Type 0} (bodies : List (Option (Arc X Z))) (n p : ℕ) → length (bodies_in bodies) ≡ n → p < n → p < length bodies
has_item bodies n p many within = subst (λ (k : ℕ). p < k) (sym (sym (length-map bodies (option_map arc_value)) ∙ many)) within

-- the bodies behind a slice are as many as there are patches
pub as_many : {X Z : Type 0} (bodies slice : List (Option (Arc X Z))) (n : ℕ) → slice ≡ bodies → length (bodies_in bodies) ≡ n → length slice ≡ n
as_many bodies slice n is many = ap length is ∙ sym (length-map bodies (option_map arc_value)) ∙ many
