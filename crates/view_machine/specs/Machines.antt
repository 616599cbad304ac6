-- What callers see of a machine, and what holds of it.
use Rattle.std.specs.Prelude.{◌≡◌, ℕ, List, map, Option, slice_get}
use Rattle.std.specs.Option.{option_map_or}
use Rattle.mesh_model.specs.Meshes.{MeshLists}
use Rattle.token_words.specs.PlainTokens.{is_pinned_in}
use Rattle.token_words.specs.declared.entries.Entry.{Entry}
use Rattle.tier_model.specs.Tiers.{TierState}
use Rattle.wish_board.specs.Boards.{BoardSeen}
use Rattle.cache_chain.specs.ChainStates.{ChainSeen}
use Rattle.run_model.specs.Worlds.{World, is_base, IsWorld}
use Rattle.run_model.specs.States.{State}
use Rattle.run_model.specs.Safe.{IsSafe}
use Rattle.run_model.specs.Kept.{TakeWishes}
use Rattle.session_seats.specs.Boards.{IsBoardFor}
use Rattle.session_seats.specs.Seats.{SeatsSeen, AreSeated, state_of}
use Rattle.body_loads.specs.ToldBodies.{told_bodies}

-- a chain of tiers, the words of the patches, the sessions at their seats, the board, and the bytes of the mesh's file,
-- where they are told
pub record MachineSeen (S : Type 0) : Type 0 where
  pub chain : ChainSeen S
  pub words : List Entry
  pub seats : SeatsSeen
  pub board : BoardSeen
  pub bytes : Option (List ℕ)

-- how many patches come to a tier at a time
abbrev pub width_of : List TierState → ℕ
width_of tiers = option_map_or (λ (t : TierState). t.width) (slice_get tiers 0) 0

-- the world of a run of these tiers over this mesh and its file
abbrev pub world_with : MeshLists → Option (List ℕ) → List TierState → World
world_with mesh bytes tiers = record { mesh = mesh; bodies = told_bodies mesh.index bytes; budgets = map (λ (t : TierState). t.budget) tiers; width = width_of tiers }

abbrev pub world_of : {S : Type 0} → MachineSeen S → World
world_of m = world_with m.chain.mesh.lists m.bytes m.chain.tiers

-- the state of the run
abbrev pub state_in : List TierState → List Entry → SeatsSeen → BoardSeen → State
state_in tiers words seats board = state_of tiers words seats.sessions board.views board.version

abbrev pub run_state : {S : Type 0} → MachineSeen S → State
run_state m = state_in m.chain.tiers m.words m.seats m.board

-- the state is a safe one of its world, the wishes that tiers have taken are the board's, and the words are those of the
-- sessions over this mesh, with the base patches pinned
pub record IsMachine (mesh : MeshLists) (bytes : Option (List ℕ)) (tiers : List TierState) (words : List Entry) (seats : SeatsSeen) (board : BoardSeen) : Type 0 where
  pub world : IsWorld (world_with mesh bytes tiers)
  pub safe : IsSafe (world_with mesh bytes tiers) (state_in tiers words seats board)
  pub take : TakeWishes (world_with mesh bytes tiers) (state_in tiers words seats board)
  pub on_board : IsBoardFor mesh board
  pub over : seats.mesh ≡ mesh
  pub seated : AreSeated mesh words seats.sessions
  pub pins : (p : ℕ) → is_pinned_in words p ≡ is_base (world_with mesh bytes tiers) p

-- the machine runs in the same world, over the same mesh and file in the same store
pub record KeepsPlace {S : Type 0} (old new : MachineSeen S) : Type 0 where
  pub world : world_of new ≡ world_of old
  pub mesh : new.chain.mesh ≡ old.chain.mesh
  pub file : new.chain.file ≡ old.chain.file
  pub bytes : new.bytes ≡ old.bytes
  pub lender : new.chain.lender ≡ old.chain.lender
