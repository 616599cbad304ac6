-- What an event leaves of a session: it is one over the mesh, and what is locked was locked or has an odd epoch.
use Rattle.std.proofs.Common.{◌≡◌, ℕ, ◌⊎◌, true, false, Option, Some, None, refl, sym, ap, ◌∙◌, inl, inr}
use Rattle.std.proofs.lemmas.Bool.{cases_eq}
use Rattle.file_model.specs.Tries.{is_odd}
use Rattle.mesh_model.specs.Meshes.{MeshLists, IsMesh}
use Rattle.round_model.specs.declared.asks.Ask.{Ask}
use Rattle.round_model.specs.declared.asks.Ask.TheVariants.{Lock, GiveBack, Done as NothingAsked}
use Rattle.round_model.specs.Views.{ViewSeen}
use Rattle.round_model.specs.Refiners.{Refining, pending_ask}
use Rattle.token_words.specs.Changes.{SetAt}
use Rattle.session_model.specs.declared.steps.Stepped.{Stepped}
use Rattle.session_model.specs.declared.steps.Stepped.TheVariants.{Unlocked, Tried, Withdrew, GaveBack, Done}
use Rattle.session_model.specs.Sessions.{SessionState, locks, least_old, settled, with_view, printed_once}
use Rattle.session_model.specs.Steps.{round_or_begun, answer_ask, go_on, unlock_or, withdraw_or, step, epoch_for, IsOfEpochs, step_by, free_step}
use Rattle.session_model.specs.SessionStates.{IsSessionState}
use Rattle.session_laws.specs.StateLaws.{viewed_is, viewed_locks, printed_is, printed_locks}
use Rattle.session_model.specs.Does.{Does}
use Rattle.session_laws.specs.StepLaws.{step_is}
use Rattle.session_laws.specs.FreeLaws.{free_step_is}
use Rattle.session_model.specs.Freeing.{DoesFree}

-- ---- a step whose try is answered by its patch's epoch

module _ (mesh : MeshLists) (epochs : ℕ → ℕ) (epoch : ℕ) where
  answered_ask : (s : SessionState) (r : Refining) (ask : Ask) → IsOfEpochs epochs (answer_ask s r epoch ask).did → answer_ask s r epoch ask ≡ answer_ask s r (epoch_for epochs (answer_ask s r 0 ask).did) ask
  answered_ask s r (Lock p) is = ap (λ (e : ℕ). answer_ask s r e (Lock p)) is
  answered_ask s r (GiveBack p) is = refl
  answered_ask s r NothingAsked is = refl

  answered_round : (s : SessionState) (round : Option Refining) → IsOfEpochs epochs (go_on s epoch round).did → go_on s epoch round ≡ go_on s (epoch_for epochs (go_on s 0 round).did) round
  answered_round s (Some r) is = answered_ask s r (pending_ask r) is
  answered_round s None is = refl

  answered_old : (s : SessionState) (old : Option ℕ) → IsOfEpochs epochs (unlock_or mesh s epoch old).did → unlock_or mesh s epoch old ≡ unlock_or mesh s (epoch_for epochs (unlock_or mesh s 0 old).did) old
  answered_old s (Some p) is = refl
  answered_old s None is = answered_round s (round_or_begun mesh s) is

  answered_flight : (s : SessionState) (flight : Option ℕ) → IsOfEpochs epochs (withdraw_or mesh s epoch flight).did → withdraw_or mesh s epoch flight ≡ withdraw_or mesh s (epoch_for epochs (withdraw_or mesh s 0 flight).did) flight
  answered_flight s (Some p) is = refl
  answered_flight s None is = answered_old (settled s) (least_old (settled s)) is

  pub is_step_by : (s : SessionState) → IsOfEpochs epochs (step mesh s epoch).did → step mesh s epoch ≡ step_by mesh epochs s
  unfolding step step_by
  is_step_by s is = answered_flight s s.flight is

-- so it is: the epoch of the step is the patch's
module _ (mesh : MeshLists) (epochs : ℕ → ℕ) where
  of_ask : (s : SessionState) (r : Refining) (ask : Ask) → IsOfEpochs epochs (answer_ask s r (epoch_for epochs (answer_ask s r 0 ask).did) ask).did
  of_ask s r (Lock p) = refl
  of_ask s r (GiveBack p) = tt
  of_ask s r NothingAsked = tt

  of_round : (s : SessionState) (round : Option Refining) → IsOfEpochs epochs (go_on s (epoch_for epochs (go_on s 0 round).did) round).did
  of_round s (Some r) = of_ask s r (pending_ask r)
  of_round s None = tt

  of_old : (s : SessionState) (old : Option ℕ) → IsOfEpochs epochs (unlock_or mesh s (epoch_for epochs (unlock_or mesh s 0 old).did) old).did
  of_old s (Some p) = tt
  of_old s None = of_round s (round_or_begun mesh s)

  of_flight : (s : SessionState) (flight : Option ℕ) → IsOfEpochs epochs (withdraw_or mesh s (epoch_for epochs (withdraw_or mesh s 0 flight).did) flight).did
  of_flight s (Some p) = tt
  of_flight s None = of_old (settled s) (least_old (settled s))

  pub step_by_is_of_epochs : (s : SessionState) → IsOfEpochs epochs (step_by mesh epochs s).did
  unfolding step step_by
  step_by_is_of_epochs s = of_flight s s.flight

-- ---- what is locked afterwards

-- the session is one over the mesh, and what it has locked it had locked, or the epoch is odd
pub record IsNext (mesh : MeshLists) (epochs : ℕ → ℕ) (s t : SessionState) : Type 0 where
  pub is : IsSessionState mesh t
  pub locked : (p : ℕ) → locks t p ≡ true → (locks s p ≡ true) ⊎ (is_odd (epochs p) ≡ true)

was_locked : (s t : SessionState) (p : ℕ) → SetAt (locks s) p false (locks t) → (q : ℕ) → locks t q ≡ true → locks s q ≡ true
was_locked s t p set q held =
    elim (cases_eq q p) [
      | inl same ↦ absurd (let left = ap (locks t) same ∙ set.here in cc)
      | inr apart ↦ sym (set.others q apart) ∙ held
    ]

locked_after : (epochs : ℕ → ℕ) (s t : SessionState) (did : Stepped) → IsOfEpochs epochs did → Does s did t → (q : ℕ) → locks t q ≡ true → (locks s q ≡ true) ⊎ (is_odd (epochs q) ≡ true)
locked_after epochs s t (Tried p epoch) is does q held =
    elim (cases_eq q p) [
      | inl same ↦ inr (ap (λ (k : ℕ). is_odd (epochs k)) same ∙ sym (ap is_odd is) ∙ sym does.locked.here ∙ ap (locks t) (sym same) ∙ held)
      | inr apart ↦ inl (sym (does.locked.others q apart) ∙ held)
    ]
locked_after epochs s t (Unlocked p) is does q held = inl (was_locked s t p does.locked q held)
locked_after epochs s t (GaveBack p) is does q held = inl (was_locked s t p does.locked q held)
locked_after epochs s t (Withdrew p) is does q held = inl (sym (does.locked q) ∙ held)
locked_after epochs s t Done is does q held = inl (sym (does.locked q) ∙ held)

pub next_stepped : (mesh : MeshLists) → IsMesh mesh → (epochs : ℕ → ℕ) (s : SessionState) → IsSessionState mesh s → (epoch : ℕ) → IsOfEpochs epochs (step mesh s epoch).did → IsNext mesh epochs s (step mesh s epoch).state
next_stepped mesh accepted epochs s is epoch of_epochs =
    let one = step_is mesh accepted s is epoch in
    record { is = one.keeps; locked = locked_after epochs s (step mesh s epoch).state (step mesh s epoch).did of_epochs one.does }

freed_locked : (s t : SessionState) (did : Option Stepped) → DoesFree s did t → (q : ℕ) → locks t q ≡ true → locks s q ≡ true
freed_locked s t (Some (Unlocked p)) does q held = was_locked s t p does.locked q held
freed_locked s t (Some (Withdrew p)) does q held = sym (does.locked q) ∙ held
freed_locked s t (Some (Tried p epoch)) does q held = absurd does
freed_locked s t (Some (GaveBack p)) does q held = absurd does
freed_locked s t (Some Done) does q held = absurd does
freed_locked s t None does q held = sym (does.same.locked q) ∙ held

pub next_freed : (mesh : MeshLists) → IsMesh mesh → (epochs : ℕ → ℕ) (s : SessionState) → IsSessionState mesh s → IsNext mesh epochs s (free_step s).state
next_freed mesh accepted epochs s is =
    let one = free_step_is mesh accepted s is in
    record { is = one.keeps; locked = λ p held. inl (freed_locked s (free_step s).state (free_step s).did one.does p held) }

pub next_viewed : (mesh : MeshLists) (epochs : ℕ → ℕ) (s : SessionState) (view : ViewSeen) → IsSessionState mesh s → IsNext mesh epochs s (with_view view s)
next_viewed mesh epochs s view is = record { is = viewed_is mesh s view is; locked = λ p held. inl (sym (viewed_locks mesh s view is p) ∙ held) }

pub next_printed : (mesh : MeshLists) (epochs : ℕ → ℕ) (s : SessionState) → IsSessionState mesh s → IsNext mesh epochs s (printed_once s)
next_printed mesh epochs s is = record { is = printed_is mesh s is; locked = λ p held. inl (sym (printed_locks s p) ∙ held) }
