-- Where one seat changes, the state of the run changes as that session does.
use Rattle.std.proofs.Common.{◌≡◌, ◌≢◌, ℕ, zero, suc, ◌+◌, ◌-◌, ◌<◌, Bool, eqb, cond, List, length, get_or, set, Option, Some, None, refl, sym, ap, ap₂, subst, ◌∙◌, arith, inl, inr}
use Rattle.std.specs.Prelude.{slice_index_or, slice_set}
use Rattle.std.specs.Option.{option_map}
use Rattle.std.proofs.Math.Path.{fun_ext}
use Rattle.std.proofs.lemmas.Bool.{cases_eq}
use Rattle.std.proofs.lemmas.List.{get_or-set_same, get_or-set_other}
use Rattle.std.proofs.lemmas.Option.{same_Some}
use Rattle.mesh_model.specs.Meshes.{MeshLists}
use Rattle.round_model.specs.Views.{ViewSeen}
use Rattle.session_model.specs.Sessions.{SessionState, locks}
use Rattle.session_model.specs.SessionStates.{IsSessionState}
use Rattle.tier_model.specs.Chains.{Chain}
use Rattle.tier_model.specs.Tiers.{TierState}
use Rattle.tier_model.specs.Ranks.{Posted}
use Rattle.token_words.specs.Changes.{SetAt, Stays}
use Rattle.token_words.specs.Sessions.{IsSession}
use Rattle.token_words.specs.PlainTokens.{epoch_in, is_user_in, is_locker_in}
use Rattle.token_words.specs.declared.entries.Entry.{Entry}
use Rattle.token_words.specs.declared.session_sets.TheConstants.{SESSIONS}
use Rattle.run_model.specs.States.{State, put, seat_uses, seated, posting}
use Rattle.run_laws.specs.SeatLaws.{put_here, put_other}
use Rattle.session_seats.specs.Seats.{at_seat, state_of, AreSeated, IsOpen, HasView, seat_told}
use Rattle.session_model.specs.Told.{SessionTold, session_told}
use Rattle.session_seats.specs.SeatChanges.{KeepsWords, ChangesSeat}

-- ---- one seat

sub_one : (i : ℕ) → suc i - 1 ≡ i
sub_one i = omega arith

module _ {A : Type 0} (seats : List (Option A)) (many : length seats ≡ SESSIONS) where
  seat_here : (i : ℕ) (seat : Option A) → IsSession i → at_seat (slice_set seats (i - 1) seat) i ≡ seat
  seat_here zero seat number = absurd (omega (arith, number.0))
  seat_here (suc i) seat number = rw (sub_one i) (get_or-set_same seats i seat None (omega (arith, number.1)))

  seat_other : (i j : ℕ) (seat : Option A) → IsSession i → j ≢ i → at_seat (slice_set seats (i - 1) seat) j ≡ at_seat seats j
  seat_other zero j seat number ne = absurd (omega (arith, number.0))
  seat_other (suc i) zero seat number ne = refl
  seat_other (suc i) (suc j) seat number ne = rw (sub_one i) (get_or-set_other seats i j seat None (λ same. ne (ap suc same)))

  -- a seat of the list is set as its number's
  pub seat_set : (i : ℕ) (seat : Option A) → IsSession i → (j : ℕ) → at_seat (slice_set seats (i - 1) seat) j ≡ put (at_seat seats) i seat j
  seat_set i seat number j =
      elim (cases_eq j i) [
        | inl same ↦ subst (λ (n : ℕ). at_seat (slice_set seats (i - 1) seat) n ≡ put (at_seat seats) i seat n) (sym same) (seat_here i seat number ∙ sym (put_here (at_seat seats) i seat))
        | inr ne ↦ seat_other i j seat number ne ∙ sym (put_other (at_seat seats) i j seat ne)
      ]

  pub seat_is : (i : ℕ) (seat : Option A) → IsSession i → at_seat (slice_set seats (i - 1) seat) i ≡ seat
  seat_is i seat number = seat_here i seat number

  pub seat_stays : (i j : ℕ) (seat : Option A) → IsSession i → j ≢ i → at_seat (slice_set seats (i - 1) seat) j ≡ at_seat seats j
  seat_stays i j seat number ne = seat_other i j seat number ne

-- ---- the state of the run

-- what stands in a state
abbrev state_with : List TierState → (ℕ → ℕ) → (ℕ → ℕ → Bool) → (ℕ → Option SessionState) → (ℕ → Option Posted) → ℕ → State
state_with tiers epochs users sessions posted version = record { chain = record { tiers = tiers; epochs = epochs }; users = users; sessions = sessions; posted = posted; version = version }

users_put : (words now : List Entry) (i : ℕ) (seat : Option SessionState) → KeepsWords i words now → ((p : ℕ) → is_user_in now i p ≡ seat_uses seat p) → (j : ℕ) → is_user_in now j ≡ put (is_user_in words) i (seat_uses seat) j
users_put words now i seat keeps uses j =
    elim (cases_eq j i) [
      | inl same ↦ ap (is_user_in now) same ∙ fun_ext uses ∙ sym (put_here (is_user_in words) i (seat_uses seat)) ∙ ap (put (is_user_in words) i (seat_uses seat)) (sym same)
      | inr ne ↦ fun_ext (keeps.use_sets j ne) ∙ sym (put_other (is_user_in words) i j (seat_uses seat) ne)
    ]

module _ (words : List Entry) (sessions : List (Option SessionState)) (many : length sessions ≡ SESSIONS) (i : ℕ) (number : IsSession i) where
  -- a session is in this state, or isn't open
  pub seat_changed : (seat : Option SessionState) (words_now : List Entry) (sessions_now : List (Option SessionState)) → ChangesSeat i seat words sessions words_now sessions_now → (tiers : List TierState) (posted : List (Option Posted)) (version : ℕ)
      → state_of tiers words_now sessions_now posted version ≡ seated (state_of tiers words sessions posted version) i seat
  unfolding state_of seated
  seat_changed seat words_now sessions_now changes tiers posted version =
      ap (λ (epochs : ℕ → ℕ). state_with tiers epochs (is_user_in words_now) (at_seat sessions_now) (at_seat posted) version) (fun_ext changes.keeps.epochs)
      ∙ ap (λ (users : ℕ → ℕ → Bool). state_with tiers (epoch_in words) users (at_seat sessions_now) (at_seat posted) version) (fun_ext (users_put words words_now i seat changes.keeps changes.uses))
      ∙ ap (λ (seats : ℕ → Option SessionState). state_with tiers (epoch_in words) (put (is_user_in words) i (seat_uses seat)) seats (at_seat posted) version)
      (ap at_seat changes.seats ∙ fun_ext (seat_set sessions many i seat number))

  -- the words are those of the sessions still
  pub seated_now : (mesh : MeshLists) (seat : Option SessionState) (words_now : List Entry) (sessions_now : List (Option SessionState)) → ChangesSeat i seat words sessions words_now sessions_now → ((s : SessionState) → seat ≡ Some s → IsSessionState mesh s) → AreSeated mesh words sessions → AreSeated mesh words_now sessions_now
  seated_now mesh seat words_now sessions_now changes is are =
      let P : List (Option SessionState) → Type 0 = λ seats. AreSeated mesh words_now seats in
      subst P (sym changes.seats) (record {
        many = changes.keeps.many ∙ are.many;
        are = λ j s at. elim (cases_eq j i) [
          | inl same ↦ is s (sym (here j same) ∙ at)
          | inr ne ↦ are.are j s (sym (seat_stays sessions many i j seat number ne) ∙ at)
        ];
        uses_are = λ j p. elim (cases_eq j i) [
          | inl same ↦ ap (λ (k : ℕ). is_user_in words_now k p) same ∙ changes.uses p ∙ ap (λ (o : Option SessionState). seat_uses o p) (sym (here j same))
          | inr ne ↦ changes.keeps.use_sets j ne p ∙ are.uses_are j p ∙ ap (λ (o : Option SessionState). seat_uses o p) (sym (seat_stays sessions many i j seat number ne))
        ];
        locks_are = λ j s at p. elim (cases_eq j i) [
          | inl same ↦ ap (λ (k : ℕ). is_locker_in words_now k p) same ∙ changes.locked s (sym (here j same) ∙ at) p
          | inr ne ↦ changes.keeps.lock_sets j ne p ∙ are.locks_are j s (sym (seat_stays sessions many i j seat number ne) ∙ at) p
        ];
      })
    where
      here : (j : ℕ) → j ≡ i → at_seat (slice_set sessions (i - 1) seat) j ≡ seat
      here j same = ap (at_seat (slice_set sessions (i - 1) seat)) same ∙ seat_is sessions many i seat number

  -- what is told of the session changes, and of no other
  pub told_set : (seat : Option SessionState) (sessions_now : List (Option SessionState)) → sessions_now ≡ slice_set sessions (i - 1) seat → SetAt (seat_told sessions) i (option_map session_told seat) (seat_told sessions_now)
  told_set seat sessions_now is = record {
    here = ap (option_map session_told) (ap (λ (seats : List (Option SessionState)). at_seat seats i) is ∙ seat_is sessions many i seat number);
    others = λ j ne. ap (option_map session_told) (ap (λ (seats : List (Option SessionState)). at_seat seats j) is ∙ seat_stays sessions many i j seat number ne);
  }

  -- where the session tells the same as before, nothing that is told changes
  pub told_stays : (s t : SessionState) (sessions_now : List (Option SessionState)) → at_seat sessions i ≡ Some s → session_told t ≡ session_told s → sessions_now ≡ slice_set sessions (i - 1) (Some t) → Stays (seat_told sessions) (seat_told sessions_now)
  told_stays s t sessions_now at same is j =
      elim (cases_eq j i) [
        | inl here ↦ ap (seat_told sessions_now) here ∙ (told_set (Some t) sessions_now is).here ∙ ap Some same ∙ sym (ap (option_map session_told) at) ∙ sym (ap (seat_told sessions) here)
        | inr ne ↦ (told_set (Some t) sessions_now is).others j ne
      ]

put_same : {A : Type 0} (f : ℕ → A) (i : ℕ) (x : A) → f i ≡ x → (j : ℕ) → put f i x j ≡ f j
put_same f i x is j =
    elim (cases_eq j i) [
      | inl same ↦ ap (put f i x) same ∙ put_here f i x ∙ sym is ∙ ap f (sym same)
      | inr ne ↦ put_other f i j x ne
    ]

-- a session that is put where it stands changes nothing
pub seat_again : (mesh : MeshLists) (words : List Entry) (sessions : List (Option SessionState)) (i : ℕ) (s : SessionState) → AreSeated mesh words sessions → at_seat sessions i ≡ Some s → (tiers : List TierState) (posted : List (Option Posted)) (version : ℕ)
    → seated (state_of tiers words sessions posted version) i (Some s) ≡ state_of tiers words sessions posted version
unfolding state_of seated
seat_again mesh words sessions i s are at tiers posted version =
    ap (λ (users : ℕ → ℕ → Bool). state_with tiers (epoch_in words) users (put (at_seat sessions) i (Some s)) (at_seat posted) version)
    (fun_ext (put_same (is_user_in words) i (seat_uses (Some s)) (fun_ext (λ (p : ℕ). are.uses_are i p ∙ ap (λ (o : Option SessionState). seat_uses o p) at))))
    ∙ ap (λ (seats : ℕ → Option SessionState). state_with tiers (epoch_in words) (is_user_in words) seats (at_seat posted) version) (fun_ext (put_same (at_seat sessions) i (Some s) at))

-- a view is posted, or taken off
pub view_posted : (posted : List (Option Posted)) → length posted ≡ SESSIONS → (i : ℕ) → IsSession i → (view : Option Posted) (tiers : List TierState) (words : List Entry) (sessions : List (Option SessionState)) (version : ℕ)
    → state_of tiers words sessions (slice_set posted (i - 1) view) (version + 1) ≡ posting (state_of tiers words sessions posted version) i view
unfolding state_of posting
view_posted posted many i number view tiers words sessions version =
    ap (λ (views : ℕ → Option Posted). state_with tiers (epoch_in words) (is_user_in words) (at_seat sessions) views (version + 1)) (fun_ext (seat_set posted many i view number))

-- ---- what is told

of_some : (o : Option SessionState) (told : SessionTold) → option_map session_told o ≡ Some told → (s : SessionState) × (o ≡ Some s) × (session_told s ≡ told)
of_some None told is = absurd (cc)
of_some (Some s) told is = (s, refl, same_Some (session_told s) told is)

-- a session of which something is told is open,
pub open_where_told : (sessions : List (Option SessionState)) (i : ℕ) (told : SessionTold) → seat_told sessions i ≡ Some told → IsOpen sessions i
open_where_told sessions i told is = let there = of_some (at_seat sessions i) told is in record { session = there.0; at = there.1 }

-- has the view that is told,
pub view_where_told : (sessions : List (Option SessionState)) (i : ℕ) (told : SessionTold) (view : ViewSeen) → seat_told sessions i ≡ Some told → told.view ≡ Some view → HasView sessions i
view_where_told sessions i told view is viewed =
    let there = of_some (at_seat sessions i) told is in
    record { session = there.0; at = there.1; view = view; viewed = ap (λ (x : SessionTold). x.view) there.2 ∙ viewed }

-- and where nothing is told it isn't open
pub closed_where_untold : (sessions : List (Option SessionState)) (i : ℕ) → seat_told sessions i ≡ None → at_seat sessions i ≡ None
closed_where_untold sessions i is = of_none (at_seat sessions i) is
  where
    of_none : (o : Option SessionState) → option_map session_told o ≡ None → o ≡ None
    of_none None untold = refl
    of_none (Some s) untold = absurd (cc)
