-- The machine over tiers at rest, and a session of a machine that counts its frames on.
use Rattle.std.proofs.Common.{◌≡◌, ℕ, List, length, Option, Some, refl, sym, ap, ap₂, subst, ◌∙◌}
use Rattle.std.specs.Option.{option_map}
use Rattle.mesh_model.specs.Meshes.{MeshLists}
use Rattle.accepted_mesh.specs.MeshView.{MeshSeen}
use Rattle.session_model.specs.Sessions.{SessionState, counted_from}
use Rattle.session_laws.specs.StateLaws.{counted_locks, counted_uses}
use Rattle.token_words.specs.PlainTokens.{patch_count, words_seen, epoch_of, is_pinned, IsUnused}
use Rattle.token_words.specs.Sessions.{IsSession}
use Rattle.token_words.specs.declared.entries.Entry.{Entry}
use Rattle.token_words.specs.declared.plain_words.PlainTokens.{PlainTokens}
use Rattle.token_words.specs.declared.session_sets.TheConstants.{SESSIONS}
use Rattle.tier_model.specs.Tiers.{TierState}
use Rattle.wish_board.specs.Boards.{BoardSeen, empty_board}
use Rattle.run_model.specs.Worlds.{World, is_base, IsWorld}
use Rattle.run_model.specs.States.{State, seated}
use Rattle.run_model.specs.Safe.{IsSafe}
use Rattle.run_model.specs.Kept.{TakeWishes}
use Rattle.resumed_model.specs.Resting.{resting, AreResting}
use Rattle.resumed_model.specs.Rejoins.{recounted}
use Rattle.resumed_model.specs.RestingLaws.{resting_goes_on}
use Rattle.resumed_model.specs.RejoinLaws.{recounted_safe, recounted_takes}
use Rattle.session_seats.specs.OrderLaws.{same_uses}
use Rattle.session_seats.specs.SeatLaws.{seat_changed}
use Rattle.session_seats.specs.Seats.{SeatsSeen, AreSeated, IsOpen, at_seat, with_seat, empty_seats, state_of}
use Rattle.session_seats.specs.StartLaws.{none_seated}
use Rattle.view_machine.specs.EmptyStates.{board_for, empty_state}
use Rattle.view_machine.specs.Machines.{world_with, state_in, IsMachine}

-- these tiers of a world are at rest with the words' epochs: there is a word for each patch, the base patches are
-- pinned, and
-- no session uses a patch
pub record RestsOver (mesh : MeshLists) (bytes : Option (List ℕ)) (tiers : List TierState)
    (words : PlainTokens) : Type 0 where
  pub world : IsWorld (world_with mesh bytes tiers)
  pub are : AreResting (world_with mesh bytes tiers) tiers (epoch_of words)
  pub patches : patch_count words ≡ length mesh.index.fields
  pub pins : (p : ℕ) → is_pinned words p ≡ is_base (world_with mesh bytes tiers) p
  pub unused : IsUnused words

-- so they are a machine, with closed seats and a board without views
pub rests_machine : (mesh : MeshLists) (bytes : Option (List ℕ)) (tiers : List TierState) (words : PlainTokens)
    → RestsOver mesh bytes tiers words
    → IsMachine mesh bytes tiers (words_seen words) (empty_seats mesh) (empty_board mesh)
rests_machine mesh bytes tiers words rests =
    let w = world_with mesh bytes tiers in
    let same = empty_state mesh tiers words rests.unused in
    let goes = resting_goes_on w tiers (epoch_of words) rests.are rests.world in
    record {
      world = rests.world;
      safe = subst (IsSafe w) (sym same) goes.safe;
      take = subst (TakeWishes w) (sym same) goes.kept.wishes;
      on_board = board_for mesh;
      over = refl;
      seated = none_seated mesh words rests.patches rests.unused;
      pins = rests.pins;
    }

-- the same of a chain that is made of these parts, with such seats and such a board
pub rests_again : (mesh now : MeshSeen) (bytes bytes_now : Option (List ℕ)) (tiers tiers_now : List TierState)
    (words : PlainTokens) (seats : SeatsSeen) (board : BoardSeen) → now ≡ mesh → bytes_now ≡ bytes → tiers_now ≡ tiers
    → seats ≡ empty_seats mesh.lists → board ≡ empty_board mesh.lists
    → RestsOver mesh.lists bytes tiers words → IsMachine now.lists bytes_now tiers_now (words_seen words) seats board
rests_again mesh now bytes bytes_now tiers tiers_now words seats board same_mesh same_bytes same_tiers closed blank
    rests =
    subst (λ (m : MeshSeen). IsMachine m.lists bytes_now tiers_now (words_seen words) seats board) (sym same_mesh)
    (subst (λ (bs : Option (List ℕ)). IsMachine mesh.lists bs tiers_now (words_seen words) seats board) (sym same_bytes)
    (subst (λ (ts : List TierState). IsMachine mesh.lists bytes ts (words_seen words) seats board) (sym same_tiers)
    (subst (λ (s : SeatsSeen). IsMachine mesh.lists bytes tiers (words_seen words) s board) (sym closed)
    (subst (IsMachine mesh.lists bytes tiers (words_seen words) (empty_seats mesh.lists)) (sym blank)
    (rests_machine mesh.lists bytes tiers words rests)))))

-- and its state is that of the tiers and the epochs alone
pub rests_state : (mesh : MeshLists) (tiers tiers_now : List TierState) (words : PlainTokens) (seats : SeatsSeen)
    (board : BoardSeen)
    → tiers_now ≡ tiers → seats ≡ empty_seats mesh → board ≡ empty_board mesh → IsUnused words
    → state_in tiers_now (words_seen words) seats board ≡ resting tiers (epoch_of words)
rests_state mesh tiers tiers_now words seats board same_tiers closed blank unused =
    ap (λ (ts : List TierState). state_in ts (words_seen words) seats board) same_tiers
    ∙ ap₂ (state_in tiers (words_seen words)) closed blank
    ∙ empty_state mesh tiers words unused

-- ---- a session that counts on

module _ (mesh : MeshLists) (bytes : Option (List ℕ)) (tiers : List TierState) (words : List Entry) (seats : SeatsSeen)
    (board : BoardSeen) (is : IsMachine mesh bytes tiers words seats board)
    (i frames : ℕ) (is_open : IsOpen seats.sessions i) (many : length seats.sessions ≡ SESSIONS)
    (seats_now : SeatsSeen)
    (counted : (s : SessionState) → at_seat seats.sessions i ≡ Some s
    → seats_now ≡ with_seat seats i (Some (counted_from frames s))) where
  abbrev w : World
  w = world_with mesh bytes tiers

  abbrev a : State
  a = state_in tiers words seats board

  abbrev s : SessionState
  s = is_open.session

  stands : a.sessions i ≡ Some s
  unfolding state_of
  stands = is_open.at

  counts : seated a i (Some (counted_from frames s)) ≡ recounted a i frames
  unfolding recounted
  counts = ap (λ (seat : Option SessionState). seated a i (option_map (counted_from frames) seat)) (sym stands)

  -- so it does in the state of the run
  pub counted_state : state_in tiers words seats_now board ≡ recounted a i frames
  counted_state =
      let number : IsSession i = is.safe.numbers i s stands in
      let changes = same_uses words seats.sessions is.seated i s (counted_from frames s) is_open.at
      (counted_uses s frames) (counted_locks s frames) seats_now.sessions
      (ap (λ (m : SeatsSeen). m.sessions) (counted s is_open.at)) in
      seat_changed words seats.sessions many i number
      (Some (counted_from frames s)) words seats_now.sessions changes tiers board.views board.version ∙ counts

  -- and the machine is one still
  pub counted_machine : AreSeated seats_now.mesh words seats_now.sessions
      → IsMachine mesh bytes tiers words seats_now board
  counted_machine seated =
      let over = ap (λ (m : SeatsSeen). m.mesh) (counted s is_open.at) ∙ is.over in
      record {
        world = is.world;
        safe = subst (IsSafe w) (sym counted_state) (recounted_safe w a i frames is.world is.safe);
        take = subst (TakeWishes w) (sym counted_state) (recounted_takes w a i frames is.take);
        on_board = is.on_board;
        over = over;
        seated = subst (λ (m : MeshLists). AreSeated m words seats_now.sessions) over seated;
        pins = is.pins;
      }
