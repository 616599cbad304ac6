-- Where a run goes on, it goes on behind sessions that joined it again.
use Rattle.std.proofs.Common.{◌≡◌, ◌≢◌, ℕ, false, List, [], ◌∷◌, ◌++◌, Option, Some, None, refl, sym, ap, subst, ◌∙◌}
use Rattle.std.specs.List.{AllByRecursion}
use Rattle.std.specs.Option.{option_map}
use Rattle.std.proofs.lemmas.Option.{same_Some}
use Rattle.script_model.specs.declared.orders.Order.TheVariants as orders
use Rattle.session_model.specs.Sessions.{SessionState, counted_from}
use Rattle.session_laws.specs.StateLaws.{counted_is}
use Rattle.run_model.specs.Worlds.{World, IsWorld}
use Rattle.run_model.specs.States.{State, board_of, posted_by, seated}
use Rattle.run_model.specs.Safe.{IsSafe}
use Rattle.run_model.specs.Kept.{TakeWishes, seat_view, ArePosted}
use Rattle.run_model.specs.Lines.{DidOpen, DidView}
use Rattle.run_laws.specs.Sound.{IsSeated, IsSound, sound_safe, safe_sound}
use Rattle.run_laws.specs.SeatLaws.{each_put, seated_sound, ended_sound}
use Rattle.run_laws.specs.RunLaws.{does_keeps_safe}
use Rattle.run_laws.specs.KeptLaws.{does_kept}
use Rattle.resumed_model.specs.Resting.{GoesOn}
use Rattle.resumed_model.specs.Rejoins.{Viewer, recounted, Rejoin, NoneRejoins, OneRejoins, AreApart, joined_session, Stands}
use Rattle.resumed_model.specs.JoinLaws.{HasViewed, has_viewed, joined_state, joined_chain, other_seat, other_posted, joined_stands, joined_unused}

-- ---- a session that counts on

counted_seat : (w : World) (epochs : ℕ → ℕ) (i frames : ℕ) (s : SessionState) → IsSeated w epochs i s
    → IsSeated w epochs i (counted_from frames s)
unfolding counted_from
counted_seat w epochs i frames s seat = record {
  number = seat.number;
  is = counted_is w.mesh s frames seat.is;
  locked = seat.locked;
}

recounted_seat : (w : World) (a : State) (i frames : ℕ) (seat : Option SessionState) → IsSound w a
    → a.sessions i ≡ seat → IsSound w (seated a i (option_map (counted_from frames) seat))
recounted_seat w a i frames None sound at = ended_sound w a i sound
recounted_seat w a i frames (Some s) sound at =
    seated_sound w a i (Some (counted_from frames s)) sound
    (λ u same. subst (IsSeated w a.chain.epochs i) (same_Some (counted_from frames s) u same)
    (counted_seat w a.chain.epochs i frames s (sound.seats i s at)))

recounted_sound : (w : World) (a : State) (i frames : ℕ) → IsSound w a → IsSound w (recounted a i frames)
unfolding recounted
recounted_sound w a i frames sound = recounted_seat w a i frames (a.sessions i) sound refl

pub recounted_takes : (w : World) (a : State) (i frames : ℕ) → TakeWishes w a → TakeWishes w (recounted a i frames)
unfolding recounted seated board_of
recounted_takes w a i frames take = record {
  versions = take.versions;
  wishes = λ k t at. record { wishes = (take.wishes k t at).wishes };
}

counted_view : (frames : ℕ) (seat : Option SessionState)
    → seat_view (option_map (counted_from frames) seat) ≡ seat_view seat
unfolding counted_from
counted_view frames None = refl
counted_view frames (Some s) = refl

recounted_posted : (w : World) (a : State) (i frames : ℕ) → ArePosted w a → ArePosted w (recounted a i frames)
unfolding recounted seated
recounted_posted w a i frames posted = record {
  each = each_put (λ j o. a.posted j ≡ option_map (posted_by w) (seat_view o)) a.sessions i
      (option_map (counted_from frames) (a.sessions i)) (λ j ne. posted.each j)
      (posted.each i ∙ ap (option_map (posted_by w)) (sym (counted_view frames (a.sessions i))));
}

pub recounted_safe : (w : World) (a : State) (i frames : ℕ) → IsWorld w → IsSafe w a → IsSafe w (recounted a i frames)
recounted_safe w a i frames world safe =
    sound_safe w (recounted a i frames) world (recounted_sound w a i frames (safe_sound w a safe))

pub recounted_goes_on : (w : World) (a : State) (i frames : ℕ) → IsWorld w → GoesOn w a
    → GoesOn w (recounted a i frames)
recounted_goes_on w a i frames world goes = record {
  safe = recounted_safe w a i frames world goes.safe;
  kept = record {
    wishes = recounted_takes w a i frames goes.kept.wishes;
    posted = recounted_posted w a i frames goes.kept.posted;
  };
}

-- ---- sessions that join

pub rejoined_goes_on : (w : World) (a d : State) (vs : List Viewer) → IsWorld w → GoesOn w a → Rejoin w a vs d
    → GoesOn w d
rejoined_goes_on w a d _ world goes NoneRejoins = goes
rejoined_goes_on w a d _ world goes (OneRejoins {b = b} {c = c} {vs = vs} v opens views rest) =
    let safe = does_keeps_safe w a b (orders.Open v.session) (DidOpen v.session) world goes.safe opens in
    let kept = does_kept w a b (orders.Open v.session) (DidOpen v.session) world goes.safe opens goes.kept in
    let viewed : GoesOn w c = record {
      safe = does_keeps_safe w b c (orders.View v.session v.view) (DidView v.session) world safe views;
      kept = does_kept w b c (orders.View v.session v.view) (DidView v.session) world safe views kept;
    } in
    rejoined_goes_on w (recounted c v.session v.frames) d vs world
    (recounted_goes_on w c v.session v.frames world viewed) rest

pub rejoined_chain : (w : World) (a d : State) (vs : List Viewer) → Rejoin w a vs d → d.chain ≡ a.chain
rejoined_chain w a d _ NoneRejoins = refl
rejoined_chain w a d _ (OneRejoins {b = b} {c = c} {vs = vs} v opens views rest) =
    let is = (has_viewed w a v (DidOpen v.session) b (DidView v.session) c opens views).is in
    rejoined_chain w (recounted c v.session v.frames) d vs rest ∙ ap (λ (s : State). s.chain) is ∙ joined_chain w a v

pub rejoined_unused : (w : World) (a d : State) (vs : List Viewer) (p : ℕ) → ((i : ℕ) → a.users i p ≡ false)
    → Rejoin w a vs d → (i : ℕ) → d.users i p ≡ false
rejoined_unused w a d _ p unused NoneRejoins = unused
rejoined_unused w a d _ p unused (OneRejoins {b = b} {c = c} {vs = vs} v opens views rest) =
    let is = (has_viewed w a v (DidOpen v.session) b (DidView v.session) c opens views).is in
    rejoined_unused w (recounted c v.session v.frames) d vs p
    (λ i. ap (λ (s : State). s.users i p) is ∙ joined_unused w a v p unused i) rest

-- sessions join, and then others
pub rejoin_both : (w : World) (a b c : State) (vs us : List Viewer) → Rejoin w a vs b → Rejoin w b us c
    → Rejoin w a (vs ++ us) c
rejoin_both w a b c _ us NoneRejoins more = more
rejoin_both w a d e _ us (OneRejoins {b = b} {c = c} {vs = vs} v opens views rest) more =
    OneRejoins v opens views (rejoin_both w (recounted c v.session v.frames) d e vs us rest more)

-- ---- each stands, as long as others join

-- a session that is open isn't one that joins
not_open : (a : State) (i j : ℕ) (s : SessionState) → a.sessions i ≡ Some s → a.sessions j ≡ None → i ≢ j
not_open a i j s there closed same = let here = subst (λ (k : ℕ). a.sessions k ≡ Some s) same there in cc

-- it stays, and so does its view on the board
pub record StaysOpen (a d : State) (i : ℕ) (vs : List Viewer) : Type 0 where
  pub seat : d.sessions i ≡ a.sessions i
  pub posted : d.posted i ≡ a.posted i
  pub apart : AllByRecursion (λ (u : Viewer). u.session ≢ i) vs

pub stays_open : (w : World) (a d : State) (vs : List Viewer) (i : ℕ) (s : SessionState) → a.sessions i ≡ Some s
    → Rejoin w a vs d → StaysOpen a d i vs
stays_open w a d _ i s there NoneRejoins = record { seat = refl; posted = refl; apart = tt }
stays_open w a d _ i s there (OneRejoins {b = b} {c = c} {vs = vs} v opens views rest) =
    let viewed = has_viewed w a v (DidOpen v.session) b (DidView v.session) c opens views in
    let ne = not_open a i v.session s there viewed.closed in
    let seat = ap (λ (t : State). t.sessions i) viewed.is ∙ other_seat w a v i ne in
    let later = stays_open w (recounted c v.session v.frames) d vs i s (seat ∙ there) rest in
    record {
      seat = later.seat ∙ seat;
      posted = later.posted ∙ ap (λ (t : State). t.posted i) viewed.is ∙ other_posted w a v i ne;
      apart = (λ same. ne (sym same), later.apart);
    }

stands_here : (w : World) (a : State) (v : Viewer) (c : State) → HasViewed w a v c
    → Stands w (recounted c v.session v.frames) v
stands_here w a v c viewed = subst (λ (t : State). Stands w t v) (sym viewed.is) (joined_stands w a v)

pub all_stand : (w : World) (a d : State) (vs : List Viewer) → Rejoin w a vs d → AllByRecursion (Stands w d) vs
all_stand w a d _ NoneRejoins = tt
all_stand w a d _ (OneRejoins {b = b} {c = c} {vs = vs} v opens views rest) =
    let here = stands_here w a v c (has_viewed w a v (DidOpen v.session) b (DidView v.session) c opens views) in
    let stays = stays_open w (recounted c v.session v.frames) d vs v.session (joined_session w v) here.at rest in (
      record { at = stays.seat ∙ here.at; posted = stays.posted ∙ here.posted },
      all_stand w (recounted c v.session v.frames) d vs rest,
    )

pub all_apart : (w : World) (a d : State) (vs : List Viewer) → Rejoin w a vs d → AreApart vs
all_apart w a d _ NoneRejoins = tt
all_apart w a d _ (OneRejoins {b = b} {c = c} {vs = vs} v opens views rest) =
    let here = stands_here w a v c (has_viewed w a v (DidOpen v.session) b (DidView v.session) c opens views) in (
      (stays_open w (recounted c v.session v.frames) d vs v.session (joined_session w v) here.at rest).apart,
      all_apart w (recounted c v.session v.frames) d vs rest,
    )

-- ---- they come to one state

module _ (w : World) where
  -- the state that they come to
  rejoined_state : State → List Viewer → State
  rejoined_state a [] = a
  rejoined_state a (v ∷ vs) = rejoined_state (joined_state w a v) vs

  rejoined_is : (a d : State) (vs : List Viewer) → Rejoin w a vs d → d ≡ rejoined_state a vs
  unfolding rejoined_state
  rejoined_is a d _ NoneRejoins = refl
  rejoined_is a d _ (OneRejoins {b = b} {c = c} {vs = vs} v opens views rest) =
      let is = (has_viewed w a v (DidOpen v.session) b (DidView v.session) c opens views).is in
      rejoined_is (recounted c v.session v.frames) d vs rest ∙ ap (λ (s : State). rejoined_state s vs) is

  pub rejoined_one : (a d e : State) (vs : List Viewer) → Rejoin w a vs d → Rejoin w a vs e → d ≡ e
  rejoined_one a d e vs first second = rejoined_is a d vs first ∙ sym (rejoined_is a e vs second)
