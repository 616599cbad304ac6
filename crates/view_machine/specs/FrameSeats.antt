-- A session whose frame is printed, in the state of the run.
use Rattle.std.proofs.Common.{◌≡◌, ℕ, List, length, Option, Some, refl, sym, ap, subst, ◌∙◌}
use Rattle.std.specs.Prelude.{All}
use Rattle.round_model.specs.Refiners.{Refining, cut_patches}
use Rattle.mesh_model.specs.Meshes.{MeshLists}
use Rattle.script_model.specs.declared.orders.Order.TheVariants as orders
use Rattle.session_model.specs.Sessions.{SessionState, printed_once}
use Rattle.session_laws.specs.StateLaws.{printed_locks}
use Rattle.session_model.specs.DoneRounds.{HasDone}
use Rattle.token_words.specs.Sessions.{IsSession}
use Rattle.token_words.specs.declared.entries.Entry.{Entry}
use Rattle.token_words.specs.declared.session_sets.TheConstants.{SESSIONS}
use Rattle.tier_model.specs.Tiers.{TierState}
use Rattle.wish_board.specs.Boards.{BoardSeen}
use Rattle.run_model.specs.Worlds.{World}
use Rattle.run_model.specs.States.{State, seated}
use Rattle.run_model.specs.Events.{Reaches, Prints, Stays, Then}
use Rattle.run_model.specs.Lines.{DidFrame, frame_of, Does}
use Rattle.session_seats.specs.Orders.{FinishesRound}
use Rattle.session_seats.specs.OrderLaws.{printed_uses, same_uses, frame_printed}
use Rattle.session_seats.specs.SeatLaws.{seat_changed}
use Rattle.session_seats.specs.Seats.{SeatsSeen, at_seat, with_seat, state_of, AreSeated, IsDoneAt}
use Rattle.view_machine.specs.Machines.{world_with, state_in, IsMachine}
use Rattle.view_machine.specs.MachineLaws.{KeepsMachine}
use Rattle.view_machine.specs.SeatLines.{stop_keeps}
use Rattle.view_machine.specs.FrameLines.{IsAtTop, patches_at_top}
use Rattle.view_machine.specs.Stops.{StopsAt, AtEvents}

-- the top tier holds each patch of the frame that a session's round shows
round_at_top : (mesh : MeshLists) (bytes : Option (List ℕ)) (tiers : List TierState) (words : List Entry) (seats : SeatsSeen) (board : BoardSeen) → IsMachine mesh bytes tiers words seats board → (i : ℕ) (s : SessionState) → at_seat seats.sessions i ≡ Some s → (r : Refining) → s.round ≡ Some r → All (IsAtTop mesh.index.fields tiers) (cut_patches r)
unfolding state_of
round_at_top mesh bytes tiers words seats board is i s at r there = patches_at_top (world_with mesh bytes tiers) (state_in tiers words seats board) is.safe i s at r there

pub shown_at_top : (mesh : MeshLists) (bytes : Option (List ℕ)) (tiers : List TierState) (words : List Entry) (seats : SeatsSeen) (board : BoardSeen) → IsMachine mesh bytes tiers words seats board → (i : ℕ) (round : Refining) → ((s : SessionState) → at_seat seats.sessions i ≡ Some s → s.round ≡ Some round) → IsDoneAt seats.sessions i
    → (patches : List ℕ) → patches ≡ cut_patches round → All (IsAtTop mesh.index.fields tiers) patches
shown_at_top mesh bytes tiers words seats board is i round rounds done patches same =
    subst (All (IsAtTop mesh.index.fields tiers)) (sym same) (round_at_top mesh bytes tiers words seats board is i done.session done.at round (rounds done.session done.at))

module _ (mesh : MeshLists) (bytes : Option (List ℕ)) (tiers : List TierState) (words : List Entry) (seats : SeatsSeen) (board : BoardSeen) (is : IsMachine mesh bytes tiers words seats board) (i : ℕ) (seats_now : SeatsSeen)
    (printed : (s : SessionState) → at_seat seats.sessions i ≡ Some s → seats_now ≡ with_seat seats i (Some (printed_once s))) where
  abbrev w : World
  w = world_with mesh bytes tiers

  abbrev a : State
  a = state_in tiers words seats board

  stands : (s : SessionState) → at_seat seats.sessions i ≡ Some s → a.sessions i ≡ Some s
  unfolding state_of
  stands s at = at

  -- the round is marked as printed, which is an event
  pub printing : (s : SessionState) → at_seat seats.sessions i ≡ Some s → HasDone s → length seats.sessions ≡ SESSIONS → StopsAt w a (state_in tiers words seats_now board)
  printing s at done many =
      let number : IsSession i = is.safe.numbers i s (stands s at) in
      let changes = same_uses words seats.sessions is.seated i s (printed_once s) at (printed_uses s) (printed_locks s) seats_now.sessions (ap (λ (m : SeatsSeen). m.sessions) (printed s at)) in
      AtEvents (subst (Reaches w a) (sym (seat_changed words seats.sessions many i number (Some (printed_once s)) words seats_now.sessions changes tiers board.views board.version)) (Then (Prints i s (stands s at) done) Stays))

  pub printed_keeps : (s : SessionState) → at_seat seats.sessions i ≡ Some s → HasDone s → length seats.sessions ≡ SESSIONS → AreSeated seats_now.mesh words seats_now.sessions → KeepsMachine mesh bytes tiers tiers words seats_now board
  printed_keeps s at done many seated = stop_keeps mesh bytes tiers words seats board is words seats_now board (printing s at done many) (ap (λ (m : SeatsSeen). m.mesh) (printed s at)) seated is.on_board (λ p. refl)

  -- the line of a frame was done since its round was begun to be finished
  pub printed_does : (words_before : List Entry) (before : SeatsSeen) → seats.mesh ≡ before.mesh → (round : FinishesRound i words_before before words seats)
      → Does w (state_in tiers words_before before board) (orders.Frame i) (DidFrame (frame_of tiers i round.last round.done.round)) (state_in tiers words seats_now board)
  printed_does words_before before same round =
      let over : mesh ≡ before.mesh = sym is.over ∙ same in
      frame_printed i words_before before words seats round seats_now (subst (λ (m : MeshLists). AreSeated m words seats.sessions) over is.seated) (printed round.last round.is) w over tiers board.views board.version
