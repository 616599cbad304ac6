-- What is known of an order in which no test finds a fault.
use Rattle.std.proofs.Common.{◌≡◌, ℕ, ◌&&◌, Bool, true, false, not, refl}
use Rattle.script_model.specs.declared.orders.Order.{Order}
use Rattle.script_model.specs.Histories.{History}
use Rattle.script_model.specs.OrderFaults.{names_no_session, opens_again, names_closed, lacks_view, names_no_tier, allows}

-- no test found a fault
pub record FindsNone (tiers : ℕ) (history : History) (order : Order) : Type 0 where
  pub number : names_no_session order ≡ false
  pub apart : opens_again history order ≡ false
  pub there : names_closed history order ≡ false
  pub viewed : lacks_view history order ≡ false
  pub tier : names_no_tier tiers order ≡ false

pub record AreFalse (a b c d e : Bool) : Type 0 where
  pub first : a ≡ false
  pub second : b ≡ false
  pub third : c ≡ false
  pub fourth : d ≡ false
  pub fifth : e ≡ false

pub all_false : (a b c d e : Bool) → (not a && not b && not c && not d && not e) ≡ true → AreFalse a b c d e
all_false true b c d e is = absurd (cc)
all_false false true c d e is = absurd (cc)
all_false false false true d e is = absurd (cc)
all_false false false false true e is = absurd (cc)
all_false false false false false true is = absurd (cc)
all_false false false false false false is = record { first = refl; second = refl; third = refl; fourth = refl; fifth = refl }

pub finds_none : (tiers : ℕ) (history : History) (order : Order) → allows tiers history order ≡ true → FindsNone tiers history order
unfolding allows
finds_none tiers history order allowed =
    let none = all_false (names_no_session order) (opens_again history order) (names_closed history order) (lacks_view history order) (names_no_tier tiers order) allowed in
    record { number = none.first; apart = none.second; there = none.third; viewed = none.fourth; tier = none.fifth }

pub holds : (test : Bool) → not test ≡ false → test ≡ true
holds true is = refl
holds false is = absurd (cc)
