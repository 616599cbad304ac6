-- What a round asks for, and where it stands then.
use Rattle.std.proofs.Common.{◌≡◌, ℕ, List, [], ◌∷◌, Option, Some, None, refl, ap}
use Rattle.round_model.specs.declared.asks.Ask.TheVariants.{Lock, GiveBack}
use Rattle.round_model.specs.Rounds.{NodeInProgress}
use Rattle.round_model.specs.Refiners.{Refining, round_state, next_try, next_ask, pending_ask}

-- nothing is owed, and the round stands at the patch
pub record AsksToLock (r : Refining) (p : ℕ) : Type 0 where
  pub owed : r.owed ≡ []
  pub hand : NodeInProgress
  pub at : (round_state r).at ≡ Some hand
  pub patch : hand.patch ≡ p

-- the patch is the first that is owed
pub record AsksBack (r : Refining) (p : ℕ) : Type 0 where
  pub rest : List ℕ
  pub owed : r.owed ≡ p ∷ rest

some_try : (at : Option NodeInProgress) (p : ℕ) → next_try at ≡ Lock p → (hand : NodeInProgress) × (at ≡ Some hand) × (hand.patch ≡ p)
some_try None p e = absurd (cc)
some_try (Some hand) p e = (hand, refl, cc)

lock_from : (owed : List ℕ) (at : Option NodeInProgress) (p : ℕ) → next_ask owed at ≡ Lock p → (owed ≡ []) × ((hand : NodeInProgress) × (at ≡ Some hand) × (hand.patch ≡ p))
lock_from [] at p e = (refl, some_try at p e)
lock_from (q ∷ qs) at p e = absurd (cc)

never_back : (at : Option NodeInProgress) (p : ℕ) → next_try at ≡ GiveBack p → ⊥
never_back None p e = cc
never_back (Some hand) p e = cc

back_from : (owed : List ℕ) (at : Option NodeInProgress) (p : ℕ) → next_ask owed at ≡ GiveBack p → (rest : List ℕ) × (owed ≡ p ∷ rest)
back_from [] at p e = absurd (never_back at p e)
back_from (q ∷ qs) at p e = (qs, ap (λ (x : ℕ). x ∷ qs) (same e))
  where
    same : GiveBack q ≡ GiveBack p → q ≡ p
    same h = cc

pub asks_to_lock : (r : Refining) (p : ℕ) → pending_ask r ≡ Lock p → AsksToLock r p
unfolding pending_ask
asks_to_lock r p e = let parts = lock_from r.owed (round_state r).at p e in record { owed = parts.0; hand = parts.1.0; at = parts.1.1; patch = parts.1.2 }

pub asks_back : (r : Refining) (p : ℕ) → pending_ask r ≡ GiveBack p → AsksBack r p
unfolding pending_ask
asks_back r p e = let parts = back_from r.owed (round_state r).at p e in record { rest = parts.0; owed = parts.1 }
