-- How many bodies there are, after one comes or goes, and small laws on lists of numbers.
use Rattle.std.proofs.Common.{◌≡◌, ℕ, ◌+◌, ◌<◌, Bool, true, List, length, Option, Some, None, is_some, ap, subst, ◌∙◌, arith}
use Rattle.std.specs.Prelude.{cond, slice_get, slice_index, slice_index_or, slice_set}
use Rattle.std.specs.List.{count_by}
use Rattle.std.proofs.lemmas.List.{get_or_default, length-map}
use Rattle.std.proofs.lemmas.List.Sums.{sum_by-set}
use Rattle.std.proofs.lemmas.Option.{slice_get_within}
use Rattle.file_model.specs.Lists.{SeenBody}
use Rattle.tier_model.specs.Tiers.{TierState, count, size, places, IsTier}
use Rattle.tier_laws.specs.BodyLaws.{away_not_there}
use Rattle.tier_budget.specs.TierView.{TierSeen}

-- one for a body, else 0
abbrev one_if_there : {X : Type 0} → Option X → ℕ
one_if_there o = cond (is_some o) 1 0

pub count_more : {X : Type 0} (bodies : List (Option X)) (p : ℕ) (o : Option X) → slice_get bodies p ≡ Some None → is_some o ≡ true → count_by (λ b. is_some b) (slice_set bodies p o) ≡ count_by (λ b. is_some b) bodies + 1
count_more bodies p o away there =
    let within = slice_get_within bodies p None away in
    let set = sum_by-set (λ b. one_if_there b) bodies p o None within in
    let before : one_if_there (slice_index_or bodies p None) ≡ 0 = ap (λ (b : Bool). cond b 1 0) (away_not_there bodies p away) in
    let after : one_if_there o ≡ 1 = ap (λ (b : Bool). cond b 1 0) there in
    omega arith

pub count_fewer : {X : Type 0} (bodies : List (Option X)) (p : ℕ) → p < length bodies → is_some (slice_index_or bodies p None) ≡ true → count_by (λ b. is_some b) (slice_set bodies p None) + 1 ≡ count_by (λ b. is_some b) bodies
count_fewer bodies p within there =
    let set = sum_by-set (λ b. one_if_there b) bodies p None None within in
    let before : one_if_there (slice_index_or bodies p None) ≡ 1 = ap (λ (b : Bool). cond b 1 0) there in
    omega arith

-- an item that was read, which stands whatever is told past the end
pub item_is : (xs : List ℕ) (i x : ℕ) → i < length xs → x ≡ slice_index_or xs i x → x ≡ slice_index xs i
item_is xs i x within is = is ∙ get_or_default xs i x 0 within

-- what was read of a tier's sizes is the size of the patch
pub size_read : (v w : TierSeen) (p x : ℕ) → v ≡ w → p < count w.state → x ≡ slice_index_or v.state.sizes p x → x ≡ size w.state p
size_read v w p x same within is = item_is w.state.sizes p x within (subst (λ (u : TierSeen). x ≡ slice_index_or u.state.sizes p x) same is)

-- a patch that is told to be marked or not is one of the tier's
pub marked_within : (s : TierState) (p : ℕ) (m : Bool) → IsTier s → slice_get (places s).held p ≡ Some m → p < count s
marked_within s p m tier is =
    let within = slice_get_within (places s).held p m is in
    let many = length-map s.held (λ (o : Option SeenBody). is_some o) in
    let sized = tier.sized.held in
    omega arith
