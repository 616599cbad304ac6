-- What a machine keeps, wherever its run goes or stops.
use Rattle.std.proofs.Common.{◌≡◌, ℕ, suc, ◌≤◌, List, [], ◌∷◌, length, map, Option, Some, refl, sym, ap, ap₂, subst, ◌∙◌, arith}
use Rattle.std.specs.Prelude.{slice_get}
use Rattle.std.proofs.lemmas.Option.{same_Some}
use Rattle.file_model.specs.declared.fields.PatchField.{PatchField}
use Rattle.file_model.specs.Lists.{BodyLists}
use Rattle.mesh_model.specs.Meshes.{MeshLists}
use Rattle.body_loads.specs.ToldBodies.{told_bodies}
use Rattle.token_words.specs.Changes.{Stays}
use Rattle.token_words.specs.PlainTokens.{epoch_in, is_pinned_in}
use Rattle.token_words.specs.declared.entries.Entry.{Entry}
use Rattle.tier_model.specs.Tiers.{TierState}
use Rattle.tier_model.specs.Ranks.{Posted, wish_of}
use Rattle.tier_model.specs.Turns.{Board}
use Rattle.tier_laws.specs.TieLaws.{tied-again}
use Rattle.tier_model.specs.Keeping.{KeepsWishes}
use Rattle.tier_laws.specs.ChainLaws.{IsTopTied}
use Rattle.transfer_step.specs.TurnWords.{board_of as board_for}
use Rattle.wish_board.specs.Boards.{BoardSeen, board_wish}
use Rattle.cache_chain.specs.Turning.{chain_of, AllKeepWishes}
use Rattle.run_model.specs.Worlds.{World, is_base, IsWorld}
use Rattle.run_model.specs.States.{State, board_of}
use Rattle.run_model.specs.Safe.{IsSetUp, IsSafe}
use Rattle.run_laws.specs.Sound.{IsSound, safe_sound}
use Rattle.run_model.specs.Kept.{TakeWishes}
use Rattle.session_seats.specs.Boards.{IsBoardFor}
use Rattle.session_seats.specs.Seats.{SeatsSeen, AreSeated, state_of}
use Rattle.session_seats.specs.StartLaws.{views_are}
use Rattle.view_machine.specs.Machines.{world_with, width_of, state_in, IsMachine}
use Rattle.view_machine.specs.Stops.{StopsAt, stops_safe, stops_take}

-- ---- the board

-- the wishes of the run are the board's
pub board_is : (w : World) (tiers : List TierState) (words : List Entry) (seats : SeatsSeen) (board : BoardSeen) → IsBoardFor w.mesh board → board_of w (state_in tiers words seats board) ≡ board_for (board_wish board) board.version
unfolding board_of state_of
board_is w tiers words seats board for =
    ap₂ (λ (fields : List PatchField) (views : List (Option Posted)). board_for (wish_of fields views) board.version) (sym for.fits.fields) (views_are board.views for.many)

-- ---- the world

budgets_are : (tiers : List TierState) (budgets : List ℕ) → length tiers ≡ length budgets → ((k : ℕ) (t : TierState) → slice_get tiers k ≡ Some t → slice_get budgets k ≡ Some t.budget) → map (λ (t : TierState). t.budget) tiers ≡ budgets
budgets_are [] [] many same = refl
budgets_are [] (b ∷ bs) many same = absurd (omega arith)
budgets_are (t ∷ ts) [] many same = absurd (omega arith)
budgets_are (t ∷ ts) (b ∷ bs) many same =
    ap₂ (λ (x : ℕ) (xs : List ℕ). x ∷ xs) (sym (same_Some b t.budget (same 0 t refl)))
    (budgets_are ts bs (omega arith) (λ k s at. same (suc k) s at))

width_is : (tiers : List TierState) (width : ℕ) → 1 ≤ length tiers → ((k : ℕ) (t : TierState) → slice_get tiers k ≡ Some t → t.width ≡ width) → width_of tiers ≡ width
width_is [] width some_tier same = absurd (omega arith)
width_is (t ∷ ts) width some_tier same = same 0 t refl

-- tiers of a world tell its budgets and its width
pub world_told : (w : World) (bytes : Option (List ℕ)) (tiers : List TierState) → 1 ≤ length w.budgets
    → length tiers ≡ length w.budgets → ((k : ℕ) (t : TierState) → slice_get tiers k ≡ Some t → IsSetUp w k t)
    → w.bodies ≡ told_bodies w.mesh.index bytes → world_with w.mesh bytes tiers ≡ w
world_told w bytes tiers some_tier many set_up told =
    let budgets = budgets_are tiers w.budgets many (λ k t at. (set_up k t at).budget) in
    let width = width_is tiers w.width (subst (λ (n : ℕ). 1 ≤ n) (sym many) some_tier) (λ k t at. (set_up k t at).width) in
    ap₂ (λ (bs : List ℕ) (n : ℕ). record { mesh = w.mesh; bodies = told_bodies w.mesh.index bytes; budgets = bs; width = n }) budgets width
    ∙ ap (λ (bodies : Option (List BodyLists)). record w { bodies = bodies }) (sym told)

-- so do those of a safe state
pub world_stays : (mesh : MeshLists) (bytes : Option (List ℕ)) (tiers now : List TierState) (b : State) → IsWorld (world_with mesh bytes tiers) → b.chain.tiers ≡ now → IsSafe (world_with mesh bytes tiers) b → world_with mesh bytes now ≡ world_with mesh bytes tiers
world_stays mesh bytes tiers now b world is safe =
    ap (world_with mesh bytes) (sym is)
    ∙ world_told (world_with mesh bytes tiers) bytes b.chain.tiers world.some_tier safe.many safe.set_up refl

-- ---- what a turn asks for

module _ (mesh : MeshLists) (bytes : Option (List ℕ)) (tiers : List TierState) (words : List Entry) (seats : SeatsSeen) (board : BoardSeen) (is : IsMachine mesh bytes tiers words seats board) where
  abbrev w : World
  w = world_with mesh bytes tiers

  pub keeps_wishes : AllKeepWishes (board_for (board_wish board) board.version) tiers
  unfolding state_of
  keeps_wishes = record { each = λ k s at. subst (λ (b : Board). KeepsWishes b s) (board_is w tiers words seats board is.on_board) (is.take.wishes k s at) }

  pub is_tied : IsTopTied (chain_of tiers (epoch_in words)) (is_pinned_in words)
  unfolding state_of
  is_tied =
      let sound : IsSound w (state_in tiers words seats board) = safe_sound w (state_in tiers words seats board) is.safe in
      record { top = λ t at. tied-again t (epoch_in words) (epoch_in words) (is_base w) (is_pinned_in words) (λ p. refl) is.pins (sound.tied.top t at) }

-- ---- what is kept

-- the machine is one still, over the same world
pub record KeepsMachine (mesh : MeshLists) (bytes : Option (List ℕ)) (tiers now : List TierState) (words : List Entry) (seats : SeatsSeen) (board : BoardSeen) : Type 0 where
  pub is : IsMachine mesh bytes now words seats board
  pub world : world_with mesh bytes now ≡ world_with mesh bytes tiers

-- the same of a world that is known
record IsMachineIn (w : World) (mesh : MeshLists) (tiers : List TierState) (words : List Entry) (seats : SeatsSeen) (board : BoardSeen) : Type 0 where
  world : IsWorld w
  safe : IsSafe w (state_in tiers words seats board)
  take : TakeWishes w (state_in tiers words seats board)
  pins : (p : ℕ) → is_pinned_in words p ≡ is_base w p

tiers_in : (tiers : List TierState) (words : List Entry) (seats : SeatsSeen) (board : BoardSeen) → (state_in tiers words seats board).chain.tiers ≡ tiers
unfolding state_of
tiers_in tiers words seats board = refl

pub keeps_machine : (mesh : MeshLists) (bytes : Option (List ℕ)) (tiers now : List TierState) (words words_now : List Entry) (seats seats_now : SeatsSeen) (board board_now : BoardSeen) → IsMachine mesh bytes tiers words seats board
    → StopsAt (world_with mesh bytes tiers) (state_in tiers words seats board) (state_in now words_now seats_now board_now)
    → IsBoardFor mesh board_now → seats_now.mesh ≡ mesh → AreSeated mesh words_now seats_now.sessions → Stays (is_pinned_in words) (is_pinned_in words_now)
    → KeepsMachine mesh bytes tiers now words_now seats_now board_now
keeps_machine mesh bytes tiers now words words_now seats seats_now board board_now is stops for over seated pins =
    let w = world_with mesh bytes tiers in
    let a = state_in tiers words seats board in
    let b = state_in now words_now seats_now board_now in
    let safe = stops_safe w a b is.world is.safe stops in
    let take = stops_take w a b is.world is.safe is.take stops in
    let same = world_stays mesh bytes tiers now b is.world (tiers_in now words_now seats_now board_now) safe in
    let inside : IsMachineIn (world_with mesh bytes now) mesh now words_now seats_now board_now =
    subst (λ (v : World). IsMachineIn v mesh now words_now seats_now board_now) (sym same) (record { world = is.world; safe = safe; take = take; pins = λ p. pins p ∙ is.pins p }) in
    record {
      is = record { world = inside.world; safe = inside.safe; take = inside.take; on_board = for; over = over; seated = seated; pins = inside.pins };
      world = same;
    }
