-- What a machine keeps over turns of its chain.
use Rattle.std.proofs.Common.{◌≡◌, ℕ, List, length, Option, Result, Ok, Err, sym, subst, ◌∙◌}
use Rattle.std.specs.Prelude.{IfOk, OnErr}
use Rattle.mesh_model.specs.Meshes.{MeshLists}
use Rattle.script_model.specs.declared.orders.Order.TheVariants as orders
use Rattle.session_model.specs.Sessions.{SessionState}
use Rattle.token_words.specs.Changes.{Stays, SetsStay}
use Rattle.token_words.specs.PlainTokens.{is_pinned_in, is_user_in, is_locker_in}
use Rattle.token_words.specs.declared.entries.Entry.{Entry}
use Rattle.tier_model.specs.declared.turns.Turn.{Turn}
use Rattle.tier_model.specs.Tiers.{TierState}
use Rattle.wish_board.specs.Boards.{BoardSeen}
use Rattle.run_model.specs.Worlds.{World}
use Rattle.run_model.specs.States.{State}
use Rattle.run_model.specs.Turning.{TurnsTo}
use Rattle.run_model.specs.Events.{Turns, Stays as NoEvent, Then}
use Rattle.session_seats.specs.Seats.{SeatsSeen, AreSeated}
use Rattle.view_machine.specs.Machines.{world_with, state_in, IsMachine}
use Rattle.view_machine.specs.MachineLaws.{KeepsMachine, keeps_machine}
use Rattle.view_machine.specs.Stops.{StopsAt, AtEvents}
use Rattle.view_machine.specs.OwnStops.{StopsIn, own_stops}

-- whether it was made or refused memory, it is known where the run stands
pub stops_either : {E : Type 0} (w : World) (k : ℕ) (a b : State) (result : Result Turn E) → IfOk result (λ answer. TurnsTo w k a answer b) → OnErr result (StopsIn w a (orders.Turn k) b) → StopsAt w a b
stops_either w k a b (Ok answer) turn stops = AtEvents (Then (Turns k answer turn) NoEvent)
stops_either w k a b (Err e) turn stops = own_stops w a (orders.Turn k) b stops

-- the sets of the words stay, with as many words
pub record KeepsSeats (words now : List Entry) : Type 0 where
  pub many : length now ≡ length words
  pub pins : Stays (is_pinned_in words) (is_pinned_in now)
  pub use_sets : SetsStay (is_user_in words) (is_user_in now)
  pub lock_sets : SetsStay (is_locker_in words) (is_locker_in now)

seated_still : (mesh : MeshLists) (words now : List Entry) (sessions : List (Option SessionState)) → KeepsSeats words now → AreSeated mesh words sessions → AreSeated mesh now sessions
seated_still mesh words now sessions keeps seated = record {
  many = keeps.many ∙ seated.many;
  are = seated.are;
  uses_are = λ i p. keeps.use_sets i p ∙ seated.uses_are i p;
  locks_are = λ i s at p. keeps.lock_sets i p ∙ seated.locks_are i s at p;
}

-- the machine is one still, over the same mesh and file
pub record StaysMachine (mesh mesh_now : MeshLists) (bytes bytes_now : Option (List ℕ)) (tiers now : List TierState) (words_now : List Entry) (seats : SeatsSeen) (board : BoardSeen) : Type 0 where
  pub is : IsMachine mesh_now bytes_now now words_now seats board
  pub world : world_with mesh_now bytes_now now ≡ world_with mesh bytes tiers

pub turns_keep : (mesh mesh_now : MeshLists) (bytes bytes_now : Option (List ℕ)) (tiers now : List TierState) (words words_now : List Entry) (seats : SeatsSeen) (board : BoardSeen) → IsMachine mesh bytes tiers words seats board
    → mesh_now ≡ mesh → bytes_now ≡ bytes → StopsAt (world_with mesh bytes tiers) (state_in tiers words seats board) (state_in now words_now seats board) → KeepsSeats words words_now
    → StaysMachine mesh mesh_now bytes bytes_now tiers now words_now seats board
turns_keep mesh mesh_now bytes bytes_now tiers now words words_now seats board is same_mesh same_bytes stops keeps =
    let kept : KeepsMachine mesh bytes tiers now words_now seats board =
    keeps_machine mesh bytes tiers now words words_now seats seats board board is stops is.on_board is.over (seated_still mesh words words_now seats.sessions keeps is.seated) keeps.pins in
    let here : StaysMachine mesh mesh bytes bytes tiers now words_now seats board = record { is = kept.is; world = kept.world } in
    subst (λ (m : MeshLists). StaysMachine mesh m bytes bytes_now tiers now words_now seats board) (sym same_mesh)
    (subst (λ (bs : Option (List ℕ)). StaysMachine mesh mesh bytes bs tiers now words_now seats board) (sym same_bytes) here)
