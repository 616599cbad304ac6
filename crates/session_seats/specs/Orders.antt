-- What the calls on seats do to the state of a run, whatever stands beside the seats.
use Rattle.std.specs.Prelude.{◌≡◌, ℕ, true, false, List, length, Option, Some, None}
use Rattle.mesh_model.specs.Meshes.{MeshLists}
use Rattle.round_model.specs.Views.{ViewSeen}
use Rattle.script_model.specs.declared.orders.Order.{Order}
use Rattle.session_model.specs.Sessions.{SessionState, uses, settled}
use Rattle.session_model.specs.DoneRounds.{HasDone}
use Rattle.session_model.specs.Finishes.{Steps, Finishes}
use Rattle.tier_model.specs.Tiers.{TierState}
use Rattle.tier_model.specs.Ranks.{Posted}
use Rattle.token_words.specs.PlainTokens.{epoch_in}
use Rattle.token_words.specs.declared.entries.Entry.{Entry}
use Rattle.token_words.specs.Sessions.{IsSession}
use Rattle.token_words.specs.declared.session_sets.TheConstants.{SESSIONS}
use Rattle.run_model.specs.Worlds.{World}
use Rattle.run_model.specs.Events.{Reaches}
use Rattle.session_model.specs.Freeing.{FreesAll}
use Rattle.run_model.specs.Lines.{Did, Does}
use Rattle.session_seats.specs.Seats.{SeatsSeen, at_seat, state_of}
use Rattle.session_seats.specs.SeatChanges.{ChangesSeat}

-- in each world of the mesh, and whatever the tiers and the posted views are, the line does this
pub record DoesOrder (order : Order) (did : Did) (words : List Entry) (old : SeatsSeen) (words_now : List Entry) (new : SeatsSeen) : Type 0 where
  pub does : (w : World) → w.mesh ≡ old.mesh → (tiers : List TierState) (posted : List (Option Posted)) (version : ℕ) → Does w (state_of tiers words old.sessions posted version) order did (state_of tiers words_now new.sessions posted version)

-- in each world of the mesh, and whatever the tiers are, the line does this, by which other views are posted
pub record DoesPosting (order : Order) (did : Did) (words : List Entry) (old : SeatsSeen) (posted : List (Option Posted)) (version : ℕ) (words_now : List Entry) (new : SeatsSeen) (posted_now : List (Option Posted)) (version_now : ℕ) : Type 0 where
  pub does : (w : World) → w.mesh ≡ old.mesh → (tiers : List TierState) → Does w (state_of tiers words old.sessions posted version) order did (state_of tiers words_now new.sessions posted_now version_now)

-- events lead there, in each world of the mesh, and whatever the tiers and the posted views are
pub record ReachesSeats (words : List Entry) (old : SeatsSeen) (words_now : List Entry) (new : SeatsSeen) : Type 0 where
  pub reaches : (w : World) → w.mesh ≡ old.mesh → (tiers : List TierState) (posted : List (Option Posted)) (version : ℕ) → Reaches w (state_of tiers words old.sessions posted version) (state_of tiers words_now new.sessions posted version)

-- there was no memory for the round that the session was to begin in this state: a printed one has ended, and the
-- session uses nothing
pub record LacksRound (i : ℕ) (last : SessionState) (words : List Entry) (old : SeatsSeen) (words_now : List Entry) (new : SeatsSeen) : Type 0 where
  pub seats : length old.sessions ≡ SESSIONS
  pub number : IsSession i
  pub no_round : (settled last).round ≡ None
  pub unused : (p : ℕ) → uses (settled last) p ≡ false
  pub changes : ChangesSeat i (Some (settled last)) words old.sessions words_now new.sessions

-- the session's step was to begin a round
pub record StopsStep (i : ℕ) (words : List Entry) (old : SeatsSeen) (words_now : List Entry) (new : SeatsSeen) : Type 0 where
  pub session : SessionState
  pub was : at_seat old.sessions i ≡ Some session
  pub lacks : LacksRound i session words old words_now new

-- the session took steps, and the next one was to begin a round
pub record StopsRound (i : ℕ) (words : List Entry) (old : SeatsSeen) (words_now : List Entry) (new : SeatsSeen) : Type 0 where
  pub session : SessionState
  pub was : at_seat old.sessions i ≡ Some session
  pub tries : List (ℕ × ℕ)
  pub last : SessionState
  pub steps : Steps old.mesh true (epoch_in words) session tries last
  pub lacks : LacksRound i last words old words_now new

-- the session took steps until its round was done
pub record FinishesRound (i : ℕ) (words : List Entry) (old : SeatsSeen) (words_now : List Entry) (new : SeatsSeen) : Type 0 where
  pub seats : length old.sessions ≡ SESSIONS
  pub number : IsSession i
  pub session : SessionState
  pub was : at_seat old.sessions i ≡ Some session
  pub view : ViewSeen
  pub viewed : session.view ≡ Some view
  pub tries : List (ℕ × ℕ)
  pub last : SessionState
  pub finishes : Finishes old.mesh true (epoch_in words) session tries last
  pub done : HasDone last
  pub is : at_seat new.sessions i ≡ Some last
  pub changes : ChangesSeat i (Some last) words old.sessions words_now new.sessions

-- the session took steps towards no use, until it had none
pub record FreesUses (i : ℕ) (words : List Entry) (old : SeatsSeen) (unlocks : ℕ) (words_now : List Entry) (new : SeatsSeen) : Type 0 where
  pub seats : length old.sessions ≡ SESSIONS
  pub number : IsSession i
  pub session : SessionState
  pub was : at_seat old.sessions i ≡ Some session
  pub last : SessionState
  pub frees : FreesAll session unlocks last
  pub changes : ChangesSeat i (Some last) words old.sessions words_now new.sessions
