-- What is posted and taken off, as what its line orders.
use Rattle.std.proofs.Common.{◌≡◌, ℕ, zero, suc, ◌+◌, ◌-◌, ◌<◌, ◌≤◌, ◌^◌, Bool, true, false, cond, List, length, map, Option, Some, None, is_some, refl, sym, ap, subst, ◌∙◌, arith}
use Rattle.std.specs.Prelude.{slice_index_or, slice_set}
use Rattle.std.proofs.Math.Nat.{mod-eq_of_lt}
use Rattle.std.proofs.lemmas.List.{length-set}
use Rattle.mesh_model.specs.Meshes.{MeshLists}
use Rattle.round_model.specs.Scores.{score_of}
use Rattle.round_model.specs.Views.{ViewSeen, rules_of, view_rules}
use Rattle.script_model.specs.declared.orders.Order.TheVariants as orders
use Rattle.session_model.specs.Sessions.{SessionState, uses, with_view}
use Rattle.tier_model.specs.Tiers.{TierState}
use Rattle.tier_model.specs.Ranks.{Posted}
use Rattle.token_words.specs.Sessions.{IsSession}
use Rattle.token_words.specs.declared.entries.Entry.{Entry}
use Rattle.token_words.specs.declared.session_sets.TheConstants.{SESSIONS}
use Rattle.wish_board.specs.Boards.{BoardSeen, next_version, without_view}
use Rattle.wish_board.specs.Boards.{view_of as view_on, with_view as board_with}
use Rattle.wish_board.specs.BoardLaws.{fits_with_view}
use Rattle.run_model.specs.States.{State, seated, posting, posting_of, posted_by}
use Rattle.run_model.specs.Lines.{DidView, DidClose, taken_off, Does, DoesView, DoesClose}
use Rattle.session_laws.specs.FreeLaws.{freed_has_no_use}
use Rattle.run_laws.specs.SessionReach.{seat_twice}
use Rattle.session_seats.specs.Seats.{SeatsSeen, at_seat, state_of}
use Rattle.session_seats.specs.SeatChanges.{ChangesSeat}
use Rattle.session_seats.specs.Boards.{IsBoardFor, posted_on}
use Rattle.session_seats.specs.Orders.{DoesPosting, FreesUses}
use Rattle.session_seats.specs.SeatLaws.{seat_changed, view_posted}
use Rattle.session_seats.specs.OrderLaws.{keeps_words}

-- ---- the board's list

next_is : (version : ℕ) → version < 2 ^ 63 → next_version version ≡ version + 1
next_is version few = mod-eq_of_lt {n = version + 1} {m = 2 ^ 64} (omega arith)

view_there : (board : BoardSeen) (i : ℕ) → IsSession i → view_on board i ≡ at_seat board.views i
view_there board zero number = absurd (omega (arith, number.0))
view_there board (suc i) number = ap (λ (k : ℕ). slice_index_or board.views k None) (omega arith)

-- a board with another view of the session, and the state over it
board_changed : (board : BoardSeen) (i : ℕ) (view : Option Posted) → length board.views ≡ SESSIONS → IsSession i → board.version < 2 ^ 63 → (tiers : List TierState) (words : List Entry) (sessions : List (Option SessionState))
    → state_of tiers words sessions (board_with board i view).views (board_with board i view).version ≡ posting (state_of tiers words sessions board.views board.version) i view
unfolding board_with
board_changed board i view many number few tiers words sessions =
    ap (λ (version : ℕ). state_of tiers words sessions (slice_set board.views (i - 1) view) version) (next_is board.version few)
    ∙ view_posted board.views many i number view tiers words sessions board.version

-- ---- a board stays the mesh's

many_with : (board : BoardSeen) (i : ℕ) (view : Option Posted) → length board.views ≡ SESSIONS → length (board_with board i view).views ≡ SESSIONS
unfolding board_with
many_with board i view many = length-set board.views (i - 1) view ∙ many

pub posted_for : (mesh : MeshLists) (board : BoardSeen) (i : ℕ) (view : Option Posted) → IsBoardFor mesh board → IsBoardFor mesh (board_with board i view)
posted_for mesh board i view is = record { fits = fits_with_view board mesh.index i view is.fits; many = many_with board i view is.many }

chosen_for : (had : Bool) (mesh : MeshLists) (board changed : BoardSeen) → IsBoardFor mesh changed → IsBoardFor mesh board → IsBoardFor mesh (cond had changed board)
chosen_for true mesh board changed changed_is is = changed_is
chosen_for false mesh board changed changed_is is = is

pub taken_off_for : (mesh : MeshLists) (board : BoardSeen) (i : ℕ) → IsBoardFor mesh board → IsBoardFor mesh (without_view board i)
unfolding without_view
taken_off_for mesh board i is = chosen_for (is_some (view_on board i)) mesh board (board_with board i None) (posted_for mesh board i None is) is

-- ---- its version

-- a view that is posted raises the version by one,
pub posted_version : (board : BoardSeen) (i : ℕ) (view : Option Posted) → board.version < 2 ^ 63 → (board_with board i view).version ≡ board.version + 1
unfolding board_with
posted_version board i view few = next_is board.version few

chosen_version : (had : Bool) (board changed : BoardSeen) → changed.version ≡ board.version + 1 → (cond had changed board).version ≤ board.version + 1
chosen_version true board changed is = omega arith
chosen_version false board changed is = omega arith

-- and one that is taken off at most by one
pub taken_off_version : (board : BoardSeen) (i : ℕ) → board.version < 2 ^ 63 → (without_view board i).version ≤ board.version + 1
unfolding without_view
taken_off_version board i few = chosen_version (is_some (view_on board i)) board (board_with board i None) (posted_version board i None few)

-- ---- a view is set and posted

posted_by_view : (mesh : MeshLists) (view : ViewSeen) → posting_of (view_rules view mesh) ≡ record { scores = map (score_of view.eye view.focal) mesh.index.nodes; threshold = view.threshold }
unfolding rules_of
posted_by_view mesh view = refl

module _ (words : List Entry) (old : SeatsSeen) (many : length old.sessions ≡ SESSIONS) (i : ℕ) (number : IsSession i) (board : BoardSeen) (is_for : IsBoardFor old.mesh board) (few : board.version < 2 ^ 63) where
  stands : (tiers : List TierState) (o : Option SessionState) → at_seat old.sessions i ≡ o → (state_of tiers words old.sessions board.views board.version).sessions i ≡ o
  unfolding state_of
  stands tiers o at = at

  pub views : (s : SessionState) → at_seat old.sessions i ≡ Some s → (view : ViewSeen) (now : SeatsSeen) → ChangesSeat i (Some (with_view view s)) words old.sessions words now.sessions → (board_now : BoardSeen) → board_now ≡ posted_on board i view old.mesh → DoesPosting (orders.View i view) (DidView i) words old board.views board.version words now board_now.views board_now.version
  views s at view now changes board_now posted = record {
    does = λ w same tiers.
        let a = state_of tiers words old.sessions board.views board.version in
        let on : Posted = posting_of (view_rules view old.mesh) in
        let on_is : posted_by w view ≡ on = ap (λ (m : MeshLists). posting_of (view_rules view m)) same in
        let is = ap (λ (p : Posted). posting (seated a i (Some (with_view view s))) i (Some p)) on_is
        ∙ ap (λ (b : State). posting b i (Some on)) (sym (seat_changed words old.sessions many i number (Some (with_view view s)) words now.sessions changes tiers board.views board.version))
        ∙ sym (board_changed board i (Some on) is_for.many number few tiers words now.sessions)
        ∙ ap (λ (p : Posted). state_of tiers words now.sessions (board_with board i (Some p)).views (board_with board i (Some p)).version) (posted_by_view old.mesh view)
        ∙ ap (λ (b : BoardSeen). state_of tiers words now.sessions b.views b.version) (sym posted) in
        subst (Does w a (orders.View i view) (DidView i)) is (DoesView i s view (stands tiers (Some s) at));
  }

  off_or_not : (had : Bool) (tiers : List TierState)
      → state_of tiers words old.sessions (cond had (board_with board i None) board).views (cond had (board_with board i None) board).version
      ≡ cond had (posting (state_of tiers words old.sessions board.views board.version) i None) (state_of tiers words old.sessions board.views board.version)
  off_or_not true tiers = board_changed board i None is_for.many number few tiers words old.sessions
  off_or_not false tiers = refl

  had_view : (tiers : List TierState) → is_some (view_on board i) ≡ is_some ((state_of tiers words old.sessions board.views board.version).posted i)
  unfolding state_of
  had_view tiers = ap (λ (o : Option Posted). is_some o) (view_there board i number)

  -- the state over a board that the session's view was taken off
  pub off : (tiers : List TierState) → state_of tiers words old.sessions (without_view board i).views (without_view board i).version ≡ taken_off (state_of tiers words old.sessions board.views board.version) i
  unfolding without_view
  off tiers = off_or_not (is_some (view_on board i)) tiers ∙ ap (λ (had : Bool). cond had (posting (state_of tiers words old.sessions board.views board.version) i None) (state_of tiers words old.sessions board.views board.version)) (had_view tiers)

-- ---- a session closes

module _ (i : ℕ) (words : List Entry) (old : SeatsSeen) (unlocks : ℕ) (words_now : List Entry) (mid : SeatsSeen) (freed : FreesUses i words old unlocks words_now mid) where
  seats_now : length mid.sessions ≡ SESSIONS
  seats_now = ap length freed.changes.seats ∙ length-set old.sessions (i - 1) (Some freed.last) ∙ freed.seats

  -- the seat of a session that has no use is left
  pub leaves : (now : SeatsSeen) → now.sessions ≡ slice_set mid.sessions (i - 1) None → ChangesSeat i None words_now mid.sessions words_now now.sessions
  leaves now is = record {
    seats = is;
    keeps = keeps_words i words_now;
    uses = λ p. freed.changes.uses p ∙ freed_has_no_use freed.session freed.last unlocks freed.frees p;
    locked = λ s there p. absurd (cc);
  }

  pub closes : (board : BoardSeen) → IsBoardFor old.mesh board → board.version < 2 ^ 63 → (now : SeatsSeen) → now.sessions ≡ slice_set mid.sessions (i - 1) None → (board_now : BoardSeen) → board_now ≡ without_view board i → DoesPosting (orders.Close i) (DidClose i unlocks) words old board.views board.version words_now now board_now.views board_now.version
  closes board is_for few now left board_now is = record {
    does = λ w same tiers.
        let a = state_of tiers words old.sessions board.views board.version in
        let b = without_view board i in
        let to = ap (λ (x : State). seated x i None) (sym (off words old freed.seats i freed.number board is_for few tiers))
        ∙ sym (seat_twice (state_of tiers words old.sessions b.views b.version) i (Some freed.last) None)
        ∙ ap (λ (x : State). seated x i None) (sym (seat_changed words old.sessions freed.seats i freed.number (Some freed.last) words_now mid.sessions freed.changes tiers b.views b.version))
        ∙ sym (seat_changed words_now mid.sessions seats_now i freed.number None words_now now.sessions (leaves now left) tiers b.views b.version)
        ∙ ap (λ (c : BoardSeen). state_of tiers words_now now.sessions c.views c.version) (sym is) in
        subst (Does w a (orders.Close i) (DidClose i unlocks)) to
        (DoesClose i unlocks freed.session freed.last (stands words old freed.seats i freed.number board is_for few tiers (Some freed.session) freed.was) freed.frees);
  }
