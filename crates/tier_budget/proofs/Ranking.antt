-- Which of two patches ranks above, read of their wishes.
use Rattle.std.proofs.Common.{◌≡◌, ℕ, length, ◌<◌, ◌≤◌, true, false, ◌&&◌, ◌||◌, ltb, eqb, refl, sym, subst, ◌∙◌, arith}
use Rattle.std.specs.Prelude.{slice_index_or}
use Rattle.std.proofs.lemmas.Bool.{or_left, lt-ltb, eq-eqb, ne_eqb, le-ltb}
use Rattle.tier_model.specs.Tiers.{count, kept_wish, IsTier}
use Rattle.tier_model.specs.Ranks.{outranks}
use Rattle.tier_budget.specs.TierView.{TierSeen}
use Rattle.tier_budget.proofs.SumLaws.{item_is}

-- what was read of a tier's wishes is the patch's
pub wish_read : (v w : TierSeen) (p x : ℕ) → v ≡ w → IsTier w.state → p < count w.state → x ≡ slice_index_or v.state.wishes p x → x ≡ kept_wish w.state p
wish_read v w p x same tier within is =
    let there : p < length w.state.wishes = (let sized = tier.sized.wishes in omega arith) in
    item_is w.state.wishes p x there (subst (λ (u : TierSeen). x ≡ slice_index_or u.state.wishes p x) same is)

outranks_by : (wish : ℕ → ℕ) (p q x y : ℕ) → x ≡ wish p → y ≡ wish q → (ltb y x || (eqb x y && ltb p q)) ≡ outranks wish p q
unfolding outranks
outranks_by wish p q x y is_x is_y = rw (is_x, is_y)

pub more_wished : (wish : ℕ → ℕ) (p q x y : ℕ) → x ≡ wish p → y ≡ wish q → y < x → ltb y x ≡ outranks wish p q
more_wished wish p q x y is_x is_y more = let t = lt-ltb y x more in t ∙ sym (or_left (ltb y x) (eqb x y && ltb p q) t) ∙ outranks_by wish p q x y is_x is_y

pub as_wished : (wish : ℕ → ℕ) (p q x y : ℕ) → x ≡ wish p → y ≡ wish q → x ≤ y → x ≡ y → ltb p q ≡ outranks wish p q
as_wished wish p q x y is_x is_y less same =
    let f : ltb y x ≡ false = le-ltb y x less in
    let t : eqb x y ≡ true = eq-eqb x y same in
    let both : (ltb y x || (eqb x y && ltb p q)) ≡ ltb p q = rw (f, t) refl in
    sym both ∙ outranks_by wish p q x y is_x is_y

pub less_wished : (wish : ℕ → ℕ) (p q x y : ℕ) → x ≡ wish p → y ≡ wish q → x ≤ y → (x ≡ y → ⊥) → eqb x y ≡ outranks wish p q
less_wished wish p q x y is_x is_y less ne =
    let f : ltb y x ≡ false = le-ltb y x less in
    let n : eqb x y ≡ false = ne_eqb x y ne in
    let both : (ltb y x || (eqb x y && ltb p q)) ≡ false = rw (f, n) refl in
    n ∙ sym both ∙ outranks_by wish p q x y is_x is_y
