-- What one session that joins a run changes.
use Rattle.std.proofs.Common.{◌≡◌, ◌≢◌, ℕ, false, ◌||◌, Option, Some, None, refl, sym, ap, ◌∙◌}
use Rattle.std.specs.Option.{option_map}
use Rattle.std.proofs.lemmas.Option.{same_Some}
use Rattle.script_model.specs.declared.orders.Order.TheVariants as orders
use Rattle.session_model.specs.Sessions.{SessionState, uses, is_in_flight, round_ended, opened, with_view, counted_from}
use Rattle.session_laws.specs.StateLaws.{opened_is, opened_uses, viewed_locks, counted_uses}
use Rattle.token_words.specs.Sessions.{IsSession}
use Rattle.run_model.specs.Worlds.{World, patch_count}
use Rattle.run_model.specs.States.{State, posted_by, seat_uses, seated, posting}
use Rattle.run_model.specs.Lines.{Did, Does, DoesOpen, DoesView}
use Rattle.run_laws.specs.SeatLaws.{each_put, put_here, put_other}
use Rattle.run_laws.specs.SessionReach.{seat_at}
use Rattle.resumed_model.specs.Rejoins.{Viewer, recounted, joined_session, Stands}

-- ---- the state behind it

-- its view is set and posted, where it is in this state
abbrev seen_state : World → State → Viewer → SessionState → State
seen_state w a v s =
    let open_state = seated a v.session (Some (opened (patch_count w))) in
    posting (seated open_state v.session (Some (with_view v.view s))) v.session (Some (posted_by w v.view))

abbrev viewed_state : World → State → Viewer → State
viewed_state w a v = seen_state w a v (opened (patch_count w))

abbrev pub joined_state : World → State → Viewer → State
joined_state w a v = recounted (viewed_state w a v) v.session v.frames

-- the session wasn't open, and its view is set and posted behind it
pub record HasViewed (w : World) (a : State) (v : Viewer) (c : State) : Type 0 where
  pub number : IsSession v.session
  pub closed : a.sessions v.session ≡ None
  pub is : recounted c v.session v.frames ≡ joined_state w a v

pub has_viewed : (w : World) (a : State) (v : Viewer) (did : Did) (b : State) (told : Did) (c : State)
    → Does w a (orders.Open v.session) did b → Does w b (orders.View v.session v.view) told c → HasViewed w a v c
has_viewed w a v did b told c (DoesOpen _ number closed) (DoesView _ s _ at) =
    record {
      number = number;
      closed = closed;
      is = ap (λ (u : SessionState). recounted (seen_state w a v u) v.session v.frames)
          (same_Some s (opened (patch_count w)) (sym at ∙ seat_at a v.session (Some (opened (patch_count w)))));
    }

module _ (w : World) (a : State) (v : Viewer) where
  -- ---- what stays

  pub joined_chain : (joined_state w a v).chain ≡ a.chain
  unfolding recounted seated posting
  joined_chain = refl

  pub other_seat : (j : ℕ) → j ≢ v.session → (joined_state w a v).sessions j ≡ a.sessions j
  unfolding recounted seated posting
  other_seat j ne =
      let first : Option SessionState = Some (opened (patch_count w)) in
      let seen : Option SessionState = Some (with_view v.view (opened (patch_count w))) in
      let before = (viewed_state w a v).sessions in
      put_other before v.session j (option_map (counted_from v.frames) (before v.session)) ne
      ∙ put_other (seated a v.session first).sessions v.session j seen ne ∙ put_other a.sessions v.session j first ne

  pub other_posted : (j : ℕ) → j ≢ v.session → (joined_state w a v).posted j ≡ a.posted j
  unfolding recounted seated posting
  other_posted j ne = put_other a.posted v.session j (Some (posted_by w v.view)) ne

  -- ---- what is there

  viewed_at : (viewed_state w a v).sessions v.session ≡ Some (with_view v.view (opened (patch_count w)))
  unfolding posting
  viewed_at = seat_at (seated a v.session (Some (opened (patch_count w)))) v.session
      (Some (with_view v.view (opened (patch_count w))))

  pub joined_stands : Stands w (joined_state w a v) v
  unfolding recounted seated posting
  joined_stands = record {
    at = put_here (viewed_state w a v).sessions v.session
        (option_map (counted_from v.frames) ((viewed_state w a v).sessions v.session))
        ∙ ap (option_map (counted_from v.frames)) viewed_at;
    posted = put_here a.posted v.session (Some (posted_by w v.view));
  }

  -- ---- it uses nothing

  pub unused_session : (p : ℕ) → uses (joined_session w v) p ≡ false
  unfolding with_view round_ended
  unused_session p =
      let first = opened (patch_count w) in
      counted_uses (with_view v.view first) v.frames p
      ∙ ap (λ b. b || is_in_flight first.flight p) (viewed_locks w.mesh first v.view (opened_is w.mesh) p)
      ∙ opened_uses (patch_count w) p

  pub joined_unused : (p : ℕ) → ((j : ℕ) → a.users j p ≡ false) → (j : ℕ) → (joined_state w a v).users j p ≡ false
  unfolding recounted seated posting
  joined_unused p unused =
      let first : Option SessionState = Some (opened (patch_count w)) in
      let seen : Option SessionState = Some (with_view v.view (opened (patch_count w))) in
      let before = (viewed_state w a v).sessions v.session in
      each_put (λ j used. used p ≡ false) (viewed_state w a v).users v.session
      (seat_uses (option_map (counted_from v.frames) before))
      (λ j ne. ap (λ used. used p)
      (put_other (seated a v.session first).users v.session j (seat_uses seen) ne
      ∙ put_other a.users v.session j (seat_uses first) ne) ∙ unused j)
      (ap (λ o. seat_uses (option_map (counted_from v.frames) o) p) viewed_at ∙ unused_session p)
