-- A session and its pass change alike.
use Rattle.std.proofs.Common.{◌≡◌, ℕ, ◌<◌, ◌≤◌, Bool, false, List, length, get_or, set, Option, Some, None, refl, sym, ap, subst, ◌∙◌, inl, inr}
use Rattle.std.proofs.lemmas.Bool.{cases_eq}
use Rattle.std.proofs.lemmas.List.{get_or-set_same, get_or-set_other}
use Rattle.std.specs.Option.{option_map_or}
use Rattle.round_model.specs.declared.asks.Ask.{Ask}
use Rattle.round_model.specs.declared.asks.Ask.TheVariants.{Done as NothingAsked}
use Rattle.round_model.specs.Refiners.{Refining, pending_ask}
use Rattle.token_words.specs.Changes.{SetAt}
use Rattle.session_model.specs.Sessions.{SessionState, locks, uses}
use Rattle.session_locks.specs.Sessions.{SessionSeen, with_state}
use Rattle.session_locks.specs.Passes.{IsPassOf}
use Rattle.session_locks.specs.Taken.{asked_of, IsAsking}

-- two tests that were alike and changed alike are alike
pub moves_by : (f g now then : ℕ → Bool) (p : ℕ) (value : Bool) → ((q : ℕ) → f q ≡ g q) → SetAt f p value now → SetAt g p value then → (q : ℕ) → now q ≡ then q
moves_by f g now then p value same first second q =
    elim (cases_eq q p) [
      | inl here ↦ ap now here ∙ first.here ∙ sym second.here ∙ ap then (sym here)
      | inr apart ↦ first.others q apart ∙ same q ∙ sym (second.others q apart)
    ]

-- one flag is set
pub flag_set : (flags : List Bool) (p : ℕ) (value : Bool) → p < length flags → SetAt (λ q. get_or flags q false) p value (λ q. get_or (set flags p value) q false)
flag_set flags p value within = record { here = get_or-set_same flags p value false within; others = λ q apart. get_or-set_other flags p q value false apart }

-- what is asked for is asked by the round that stands
abbrev pub asking_of : (seen arg : SessionSeen) (r : Refining) (ask : Ask) → seen ≡ arg → arg.state.round ≡ Some r → asked_of arg.state ≡ ask → IsAsking seen.state.round ask
asking_of seen arg r ask same there asks = record {
  r = r;
  there = ap (λ (s : SessionSeen). s.state.round) same ∙ there;
  asks = sym (ap (λ (o : Option Refining). option_map_or pending_ask o NothingAsked) there) ∙ asks;
}

some_asks : (round : Option Refining) (ask : Ask) → option_map_or pending_ask round NothingAsked ≡ ask → (ask ≡ NothingAsked → ⊥) → (r : Refining) × (round ≡ Some r)
some_asks None ask is asks = absurd (asks (sym is))
some_asks (Some r) ask is asks = (r, refl)

pub asking_now : (seen arg : SessionSeen) (ask : Ask) → seen ≡ arg → asked_of arg.state ≡ ask → (ask ≡ NothingAsked → ⊥) → IsAsking seen.state.round ask
asking_now seen arg ask same asked asks = let some = some_asks arg.state.round ask asked asks in asking_of seen arg some.0 ask same some.1 asked

module _ (before after : Type 0) (patches now_patches : ℕ) (used locked now_used now_locked : ℕ → Bool) (seen : SessionSeen) (t : SessionState) (p : ℕ) (pass : IsPassOf before patches used locked seen) (many : now_patches ≡ patches) (is : after) where
  -- a use and a lock change
  pub pass_after : (used_then locked_then : Bool) → SetAt used p used_then now_used → SetAt locked p locked_then now_locked → SetAt (uses seen.state) p used_then (uses t) → SetAt (locks seen.state) p locked_then (locks t) → IsPassOf after now_patches now_used now_locked (with_state seen t)
  pass_after used_then locked_then set_use set_lock uses_set locks_set = record {
    of_words = is;
    many = subst (λ (n : ℕ). length seen.mesh.index.fields ≤ n) (sym many) pass.many;
    uses_are = moves_by used (uses seen.state) now_used (uses t) p used_then pass.uses_are set_use uses_set;
    locks_are = moves_by locked (locks seen.state) now_locked (locks t) p locked_then pass.locks_are set_lock locks_set;
  }

-- the same, as the code sees the session
pub pass_moves : (before after : Type 0) (patches now_patches : ℕ) (used locked now_used now_locked : ℕ → Bool) (arg seen now : SessionSeen) (t : SessionState) (p : ℕ) (used_then locked_then : Bool) → IsPassOf before patches used locked arg → seen ≡ arg → now ≡ with_state seen t → now_patches ≡ patches → after → SetAt used p used_then now_used → SetAt locked p locked_then now_locked → SetAt (uses seen.state) p used_then (uses t) → SetAt (locks seen.state) p locked_then (locks t) → IsPassOf after now_patches now_used now_locked now
pass_moves before after patches now_patches used locked now_used now_locked arg seen now t p used_then locked_then pass same is many words set_use set_lock uses_set locks_set =
    let P : SessionSeen → Type 0 = λ s. IsPassOf before patches used locked s in
    let Q : SessionSeen → Type 0 = λ s. IsPassOf after now_patches now_used now_locked s in
    subst Q (sym is) (pass_after before after patches now_patches used locked now_used now_locked seen t p (subst P (sym same) pass) many words used_then locked_then set_use set_lock uses_set locks_set)
