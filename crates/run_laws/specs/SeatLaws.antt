-- What sessions do, what is posted and what is taken off keep a state sound.
use Rattle.std.proofs.Common.{◌≡◌, ◌≢◌, ℕ, Bool, true, false, eqb, cond, Option, Some, None, refl, sym, subst, inl, inr}
use Rattle.std.proofs.lemmas.Bool.{cases_eq, cond-true, cond-false, eq-eqb, ne_eqb, or_left}
use Rattle.std.proofs.lemmas.Option.{same_Some}
use Rattle.mesh_model.specs.Meshes.{MeshLists, IsMesh}
use Rattle.session_model.specs.Sessions.{SessionState, locks, is_in_flight, opened, with_view, printed_once}
use Rattle.session_model.specs.Steps.{step, epoch_for, step_by, free_step}
use Rattle.session_model.specs.SessionStates.{IsSessionState}
use Rattle.session_laws.specs.StateLaws.{opened_is, opened_uses}
use Rattle.session_laws.specs.NextStates.{IsNext, next_stepped, step_by_is_of_epochs, next_freed, next_viewed, next_printed}
use Rattle.round_model.specs.Views.{ViewSeen}
use Rattle.tier_model.specs.Ranks.{Posted}
use Rattle.token_words.specs.Sessions.{IsSession}
use Rattle.run_model.specs.Worlds.{World, patch_count, IsWorld}
use Rattle.run_model.specs.States.{State, put, seat_uses, seated, posting}
use Rattle.run_laws.specs.Sound.{IsSeated, IsSound}

-- ---- one number gets a value

pub put_here : {A : Type 0} (f : ℕ → A) (i : ℕ) (x : A) → put f i x i ≡ x
put_here f i x = cond-true (eqb i i) x (f i) (eq-eqb i i refl)

pub put_other : {A : Type 0} (f : ℕ → A) (i j : ℕ) (x : A) → j ≢ i → put f i x j ≡ f j
put_other f i j x ne = cond-false (eqb j i) x (f j) (ne_eqb j i ne)

pub each_put : {A : Type 0} (P : ℕ → A → Type 0) (f : ℕ → A) (i : ℕ) (x : A) → ((j : ℕ) → j ≢ i → P j (f j)) → P i x → (j : ℕ) → P j (put f i x j)
each_put P f i x others here j =
    elim (cases_eq j i) [
      | inl same ↦ subst (λ (n : ℕ). P n (put f i x n)) (sym same) (subst (P i) (sym (put_here f i x)) here)
      | inr ne ↦ subst (P j) (sym (put_other f i j x ne)) (others j ne)
    ]

sets_put : (users : ℕ → ℕ → Bool) (sessions : ℕ → Option SessionState) (i : ℕ) (seat : Option SessionState) (p j : ℕ) → users j p ≡ seat_uses (sessions j) p → put users i (seat_uses seat) j p ≡ seat_uses (put sessions i seat j) p
sets_put users sessions i seat p j sets = chosen (eqb j i)
  where
    chosen : (here : Bool) → (cond here (seat_uses seat) (users j)) p ≡ seat_uses (cond here seat (sessions j)) p
    chosen true = refl
    chosen false = sets

-- ---- a session changes

abbrev SeatsAre : World → State → Option SessionState → ℕ → Type 0
SeatsAre w a seat j = (s : SessionState) → seat ≡ Some s → IsSeated w a.chain.epochs j s

pub seated_sound : (w : World) (a : State) (i : ℕ) (seat : Option SessionState) → IsSound w a → SeatsAre w a seat i → IsSound w (seated a i seat)
unfolding seated
seated_sound w a i seat sound is = record {
  many = sound.many;
  tiers = sound.tiers;
  tied = sound.tied;
  no_pins = sound.no_pins;
  base_odd = sound.base_odd;
  seats = each_put (λ j o. SeatsAre w a o j) a.sessions i seat (λ j ne. sound.seats j) is;
  sets = λ j p. sets_put a.users a.sessions i seat p j (sound.sets j p);
}

-- a session goes on to its next state
next_sound : (w : World) (a : State) (i : ℕ) (s t : SessionState) → IsSound w a → a.sessions i ≡ Some s → IsNext w.mesh a.chain.epochs s t → IsSound w (seated a i (Some t))
next_sound w a i s t sound at next =
    let seat = sound.seats i s at in
    seated_sound w a i (Some t) sound (λ u same. subst (IsSeated w a.chain.epochs i) (same_Some t u same) (record {
      number = seat.number;
      is = next.is;
      locked = λ p held. elim (next.locked p held) [ inl before ↦ seat.locked p before | inr odd ↦ odd ];
    }))

next_stepped_by : (mesh : MeshLists) → IsMesh mesh → (epochs : ℕ → ℕ) (s : SessionState) → IsSessionState mesh s → IsNext mesh epochs s (step_by mesh epochs s).state
unfolding step_by
next_stepped_by mesh accepted epochs s is = next_stepped mesh accepted epochs s is (epoch_for epochs (step mesh s 0).did) (step_by_is_of_epochs mesh epochs s)

pub stepped_sound : (w : World) (a : State) (i : ℕ) (s : SessionState) → IsWorld w → IsSound w a → a.sessions i ≡ Some s → IsSound w (seated a i (Some (step_by w.mesh a.chain.epochs s).state))
stepped_sound w a i s world sound at =
    next_sound w a i s (step_by w.mesh a.chain.epochs s).state sound at (next_stepped_by w.mesh world.mesh a.chain.epochs s (sound.seats i s at).is)

pub freed_sound : (w : World) (a : State) (i : ℕ) (s : SessionState) → IsWorld w → IsSound w a → a.sessions i ≡ Some s → IsSound w (seated a i (Some (free_step s).state))
freed_sound w a i s world sound at =
    next_sound w a i s (free_step s).state sound at (next_freed w.mesh world.mesh a.chain.epochs s (sound.seats i s at).is)

pub viewed_sound : (w : World) (a : State) (i : ℕ) (s : SessionState) (view : ViewSeen) → IsSound w a → a.sessions i ≡ Some s → IsSound w (seated a i (Some (with_view view s)))
viewed_sound w a i s view sound at = next_sound w a i s (with_view view s) sound at (next_viewed w.mesh a.chain.epochs s view (sound.seats i s at).is)

pub printed_sound : (w : World) (a : State) (i : ℕ) (s : SessionState) → IsSound w a → a.sessions i ≡ Some s → IsSound w (seated a i (Some (printed_once s)))
printed_sound w a i s sound at = next_sound w a i s (printed_once s) sound at (next_printed w.mesh a.chain.epochs s (sound.seats i s at).is)

-- a session opens, and has nothing locked
no_lock : (patches p : ℕ) → locks (opened patches) p ≡ true → ⊥
no_lock patches p held =
    let used = or_left (locks (opened patches) p) (is_in_flight (opened patches).flight p) held in
    let unused = opened_uses patches p in cc

pub opened_sound : (w : World) (a : State) (i : ℕ) → IsSound w a → IsSession i → IsSound w (seated a i (Some (opened (patch_count w))))
opened_sound w a i sound number =
    seated_sound w a i (Some (opened (patch_count w))) sound (λ u same. subst (IsSeated w a.chain.epochs i) (same_Some (opened (patch_count w)) u same) (record {
      number = number;
      is = opened_is w.mesh;
      locked = λ p held. absurd (no_lock (patch_count w) p held);
    }))

-- a session ends
pub ended_sound : (w : World) (a : State) (i : ℕ) → IsSound w a → IsSound w (seated a i None)
ended_sound w a i sound = seated_sound w a i None sound (λ s same. absurd (cc))

-- ---- what is posted

pub posting_sound : (w : World) (a : State) (i : ℕ) (view : Option Posted) → IsSound w a → IsSound w (posting a i view)
unfolding posting
posting_sound w a i view sound = record {
  many = sound.many;
  tiers = sound.tiers;
  tied = sound.tied;
  no_pins = sound.no_pins;
  base_odd = sound.base_odd;
  seats = sound.seats;
  sets = sound.sets;
}
