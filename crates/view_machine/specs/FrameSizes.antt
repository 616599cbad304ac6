-- How large frames are that are counted in place of being written.
use Rattle.std.proofs.Common.{◌≡◌, ℕ, List, length, map, sym, ap, subst, ◌∙◌}
use Rattle.edge_chain.specs.Chains.{Chain, IsNetOf}
use Rattle.mesh_model.specs.Nets.{HasOpenPairs}
use Rattle.round_model.specs.Refiners.{Refining, cut_of, cut_patches}
use Rattle.script_model.specs.declared.orders.Order.TheVariants as orders
use Rattle.session_model.specs.Sessions.{SessionState}
use Rattle.text_model.specs.FrameText.{Frame}
use Rattle.tier_model.specs.Tiers.{TierState}
use Rattle.wish_board.specs.Boards.{BoardSeen}
use Rattle.cache_chain.specs.ChainStates.{ChainSeen}
use Rattle.frame_writer.specs.Frames.{triangles_in}
use Rattle.run_model.specs.Worlds.{World}
use Rattle.run_model.specs.States.{State}
use Rattle.run_model.specs.Lines.{DidFrame, Does, top_body, frame_of, frame_with}
use Rattle.session_seats.specs.Orders.{FinishesRound}
use Rattle.view_machine.specs.declared.sizes.FrameSize.{FrameSize}
use Rattle.view_machine.specs.Machines.{MachineSeen, world_of, run_state, state_in, KeepsPlace}

-- the frame has so many nodes in its cut, patches, triangles and open edges
pub record HasSize (frame : Frame) (size : FrameSize) : Type 0 where
  pub nodes : length frame.cut ≡ size.nodes
  pub patches : length frame.patches ≡ size.patches
  pub triangles : length frame.triangles ≡ size.triangles
  pub open_edges : HasOpenPairs frame.triangles size.open_edges

-- the session prints a frame of this size
pub record ShowsSize (w : World) (i : ℕ) (a b : State) (size : FrameSize) : Type 0 where
  pub frame : Frame
  pub does : Does w a (orders.Frame i) (DidFrame frame) b
  pub has : HasSize frame size

-- the size of what a round shows
pub round_size : (tiers : List TierState) (i : ℕ) (s : SessionState) (r : Refining) (cut patches : List ℕ) (edges : Chain) (size : FrameSize) → cut ≡ cut_of r → patches ≡ cut_patches r
    → IsNetOf (triangles_in (map (top_body tiers) patches)) edges → ((frame : Frame) → frame.cut ≡ cut → frame.patches ≡ patches → IsNetOf frame.triangles edges → HasSize frame size) → HasSize (frame_of tiers i s r) size
unfolding frame_of frame_with
round_size tiers i s r cut patches edges size cut_is patches_are net sized =
    sized (frame_of tiers i s r) (sym cut_is) (sym patches_are) (subst (λ (ps : List ℕ). IsNetOf (triangles_in (map (top_body tiers) ps)) edges) patches_are net)

-- the round was finished, its frame was counted, and it counts as printed
pub size_line : {S : Type 0} (old mid new : MachineSeen S) (i : ℕ) (size : FrameSize) → KeepsPlace old mid → mid.board ≡ old.board → mid.chain ≡ old.chain → (round : FinishesRound i old.words old.seats mid.words mid.seats)
    → Does (world_of mid) (state_in mid.chain.tiers old.words old.seats mid.board) (orders.Frame i) (DidFrame (frame_of mid.chain.tiers i round.last round.done.round)) (run_state new)
    → HasSize (frame_of mid.chain.tiers i round.last round.done.round) size
    → ShowsSize (world_of old) i (run_state old) (run_state new) size
size_line {S = S} old mid new i size place board chain round does has = record {
  frame = frame_of mid.chain.tiers i round.last round.done.round;
  does =
      subst (λ (w : World). Does w (run_state old) (orders.Frame i) (DidFrame (frame_of mid.chain.tiers i round.last round.done.round)) (run_state new)) place.world
      (subst (λ (a : State). Does (world_of mid) a (orders.Frame i) (DidFrame (frame_of mid.chain.tiers i round.last round.done.round)) (run_state new)) start does);
  has = has;
}
  where
    start : state_in mid.chain.tiers old.words old.seats mid.board ≡ run_state old
    start = ap (λ (b : BoardSeen). state_in mid.chain.tiers old.words old.seats b) board ∙ ap (λ (tiers : List TierState). state_in tiers old.words old.seats old.board) (ap (λ (c : ChainSeen S). c.tiers) chain)
