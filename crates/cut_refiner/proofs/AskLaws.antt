-- What a round asks for, and where it stands then.
use Rattle.std.proofs.Common.{◌≡◌, ℕ, List, [], ◌∷◌, Option, Some, None, refl, sym, ap, ◌∙◌}
use Rattle.std.specs.Prelude.{slice_get}
use Rattle.file_model.specs.declared.fields.Try.{Try}
use Rattle.round_model.specs.declared.asks.Ask.TheVariants.{Lock, GiveBack, Done}
use Rattle.round_model.specs.Order.{Rules}
use Rattle.round_model.specs.Rounds.{NodeInProgress, RoundState, round_of, epochs_of, IsWhole}
use Rattle.round_model.specs.Refiners.{Refining, round_state, next_try, next_ask, pending_ask}
use Rattle.round_laws.specs.Epochs.{hand_is}
use Rattle.cut_refiner.specs.declared.refinement_states.RefinementState.{RefinementState}
use Rattle.cut_refiner.specs.Refiners.{IsTrying, IsAt}

-- ---- from what is owed and where the round stands to what is asked for

back_at : (owed : List ℕ) (at : Option NodeInProgress) (p : ℕ) → slice_get owed 0 ≡ Some p → next_ask owed at ≡ GiveBack p
back_at [] at p h = absurd (cc)
back_at (q ∷ qs) at p h = ap (λ (x : ℕ). GiveBack x) (same h)
  where
    same : Some q ≡ Some p → q ≡ p
    same e = cc

pub none_owed : (owed : List ℕ) → slice_get owed 0 ≡ None → owed ≡ []
none_owed [] h = refl
none_owed (q ∷ qs) h = absurd (cc)

pub asks_back : (r : Refining) (p : ℕ) → slice_get r.owed 0 ≡ Some p → pending_ask r ≡ GiveBack p
unfolding pending_ask
asks_back r p owed = back_at r.owed (round_state r).at p owed

pub asks_next : (r : Refining) → slice_get r.owed 0 ≡ None → pending_ask r ≡ next_try (round_state r).at
unfolding pending_ask
asks_next r owed = ap (λ (ps : List ℕ). next_ask ps (round_state r).at) (none_owed r.owed owed)

pub asks_lock : (r : Refining) (refinement : RefinementState) (node granted : ℕ) → slice_get r.owed 0 ≡ None → (trying : IsTrying r.rules r.tries refinement node granted) → pending_ask r ≡ Lock trying.hand.patch
asks_lock r refinement node granted owed trying = asks_next r owed ∙ ap (λ (s : RoundState). next_try s.at) trying.stand

pub asks_done : (r : Refining) (refinement : RefinementState) (granted : ℕ) → slice_get r.owed 0 ≡ None → IsAt r.rules r.tries refinement granted None → pending_ask r ≡ Done
asks_done r refinement granted owed at = asks_next r owed ∙ ap (λ (s : RoundState). next_try s.at) at.stand

-- ---- and back

-- nothing is owed, and the round is through
pub record IsDone (r : Refining) : Type 0 where
  pub owed : r.owed ≡ []
  pub at : (round_state r).at ≡ None

-- nothing is owed, and the round stands at the patch
pub record IsLocking (r : Refining) (patch : ℕ) : Type 0 where
  pub owed : r.owed ≡ []
  pub hand : NodeInProgress
  pub at : (round_state r).at ≡ Some hand
  pub patch_is : hand.patch ≡ patch

-- the patch is owed
pub record IsOwed (owed : List ℕ) (patch : ℕ) : Type 0 where
  pub rest : List ℕ
  pub is : owed ≡ patch ∷ rest

none_try : (at : Option NodeInProgress) → next_try at ≡ Done → at ≡ None
none_try None e = refl
none_try (Some hand) e = absurd (cc)

done_from : (owed : List ℕ) (at : Option NodeInProgress) → next_ask owed at ≡ Done → (owed ≡ []) × (at ≡ None)
done_from [] at e = (refl, none_try at e)
done_from (p ∷ ps) at e = absurd (cc)

some_try : (at : Option NodeInProgress) (patch : ℕ) → next_try at ≡ Lock patch → (hand : NodeInProgress) × (at ≡ Some hand) × (hand.patch ≡ patch)
some_try None patch e = absurd (cc)
some_try (Some hand) patch e = (hand, refl, cc)

lock_from : (owed : List ℕ) (at : Option NodeInProgress) (patch : ℕ) → next_ask owed at ≡ Lock patch → (owed ≡ []) × ((hand : NodeInProgress) × (at ≡ Some hand) × (hand.patch ≡ patch))
lock_from [] at patch e = (refl, some_try at patch e)
lock_from (p ∷ ps) at patch e = absurd (cc)

no_try_back : (at : Option NodeInProgress) (patch : ℕ) → next_try at ≡ GiveBack patch → ⊥
no_try_back None patch e = cc
no_try_back (Some hand) patch e = cc

back_from : (owed : List ℕ) (at : Option NodeInProgress) (patch : ℕ) → next_ask owed at ≡ GiveBack patch → IsOwed owed patch
back_from [] at patch e = absurd (no_try_back at patch e)
back_from (p ∷ ps) at patch e = record { rest = ps; is = ap (λ (q : ℕ). q ∷ ps) (same e) }
  where
    same : GiveBack p ≡ GiveBack patch → p ≡ patch
    same h = cc

pub done : (r : Refining) → pending_ask r ≡ Done → IsDone r
unfolding pending_ask
done r e = let parts = done_from r.owed (round_state r).at e in record { owed = parts.0; at = parts.1 }

pub locking : (r : Refining) (patch : ℕ) → pending_ask r ≡ Lock patch → IsLocking r patch
unfolding pending_ask
locking r patch e = let parts = lock_from r.owed (round_state r).at patch e in record { owed = parts.0; hand = parts.1.0; at = parts.1.1; patch_is = parts.1.2 }

pub owing : (r : Refining) (patch : ℕ) → pending_ask r ≡ GiveBack patch → IsOwed r.owed patch
unfolding pending_ask
owing r patch e = back_from r.owed (round_state r).at patch e

-- ---- where the parts say that the round stands

-- a refiner as callers see it
abbrev pub seen_as : Rules → List Try → List ℕ → Refining
seen_as rules tries owed = record { rules = rules; tries = tries; owed = owed }

pub whole_of : (rules : Rules) (tries : List Try) (refinement : RefinementState) (granted : ℕ) → IsAt rules tries refinement granted None → IsWhole (round_of rules (epochs_of tries))
whole_of rules tries refinement granted at = record { through = ap (λ (s : RoundState). s.at) at.stand; used = ap (λ (s : RoundState). s.unused) at.stand }

pub none_in_hand : (rules : Rules) (tries : List Try) (refinement : RefinementState) (granted : ℕ) (hand : Option ℕ) → IsAt rules tries refinement granted hand → (round_of rules (epochs_of tries)).at ≡ None → hand ≡ None
none_in_hand rules tries refinement granted None at through = refl
none_in_hand rules tries refinement granted (Some hand) at through = absurd (let stands = ap (λ (s : RoundState). s.at) at.stand in cc)

pub not_both : (rules : Rules) (tries : List Try) (refinement : RefinementState) (granted : ℕ) (hand : NodeInProgress) → IsAt rules tries refinement granted None → (round_of rules (epochs_of tries)).at ≡ Some hand → ⊥
not_both rules tries refinement granted hand at stands = let through = ap (λ (s : RoundState). s.at) at.stand in cc

pub same_hand : (rules : Rules) (tries : List Try) (refinement : RefinementState) (node granted : ℕ) (trying : IsTrying rules tries refinement node granted) (hand : NodeInProgress) → (round_of rules (epochs_of tries)).at ≡ Some hand → hand ≡ trying.hand
same_hand rules tries refinement node granted trying hand stands = hand_is hand trying.hand (sym stands ∙ ap (λ (s : RoundState). s.at) trying.stand)

pub set_at : (rules : Rules) (tries : List Try) (refinement : RefinementState) (granted : ℕ) (hand : Option ℕ) → IsAt rules tries refinement granted hand → (round_of rules (epochs_of tries)).set ≡ refinement.growing.in_cut.items
set_at rules tries refinement granted None at = ap (λ (s : RoundState). s.set) at.stand
set_at rules tries refinement granted (Some hand) at = ap (λ (s : RoundState). s.set) at.stand
