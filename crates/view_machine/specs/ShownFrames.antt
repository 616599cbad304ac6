-- Frames that are shown: their bodies are in the top tier, and are the file's.
use Rattle.std.proofs.Common.{◌≡◌, ℕ, zero, suc, true, List, [], ◌∷◌, map, Option, Some, refl, sym, ap, subst, ◌∙◌}
use Rattle.std.specs.Prelude.{slice_get}
use Rattle.std.specs.List.{AllByRecursion}
use Rattle.mesh_model.specs.Meshes.{MeshLists}
use Rattle.file_model.specs.Lists.{SeenBody}
use Rattle.round_model.specs.Refiners.{Refining, cut_patches}
use Rattle.round_laws.specs.Among.{is_among, among_at}
use Rattle.script_model.specs.declared.orders.Order.TheVariants as orders
use Rattle.session_model.specs.Sessions.{SessionState}
use Rattle.text_model.specs.FrameText.{Frame}
use Rattle.tier_model.specs.Tiers.{TierState}
use Rattle.token_words.specs.declared.entries.Entry.{Entry}
use Rattle.wish_board.specs.Boards.{BoardSeen}
use Rattle.cache_chain.specs.ChainStates.{ChainSeen}
use Rattle.frame_writer.specs.Frames.{frame_of as text_frame}
use Rattle.run_model.specs.Worlds.{World, IsFileBody}
use Rattle.run_model.specs.States.{State}
use Rattle.run_model.specs.Safe.{IsSafe}
use Rattle.run_model.specs.Lines.{DidFrame, Does, top_body, frame_of}
use Rattle.run_laws.specs.PrintedFrames.{held_body, frame_held}
use Rattle.session_seats.specs.Orders.{FinishesRound}
use Rattle.session_seats.specs.Seats.{SeatsSeen, at_seat, state_of}
use Rattle.view_machine.specs.Machines.{MachineSeen, world_with, world_of, run_state, state_in, KeepsPlace, IsMachine}
use Rattle.view_machine.specs.ShownSeen.{ShownSeen}

-- the frame, with the triangles of its bodies
abbrev pub frame_shown : ShownSeen → Frame
frame_shown f = text_frame f.session f.number f.cut f.tries f.patches f.bodies

-- the top tier holds the body, which is its patch's in the file
pub record IsBodyAtTop (w : World) (tiers : List TierState) (body : SeenBody) : Type 0 where
  pub top : TierState
  pub is_top : slice_get tiers 0 ≡ Some top
  pub holds : slice_get top.held body.patch ≡ Some (Some body)
  pub of_file : IsFileBody w body.patch body

-- the session's next frame is shown, and each of its bodies is in the top tier
pub record IsRoundShown (w : World) (tiers : List TierState) (i : ℕ) (s : SessionState) (r : Refining) (shown : ShownSeen) : Type 0 where
  pub frame : frame_shown shown ≡ frame_of tiers i s r
  pub held : AllByRecursion (IsBodyAtTop w tiers) shown.bodies

-- the session prints a frame, which is shown, and each of its bodies is in the top tier
pub record ShowsFrame (w : World) (i : ℕ) (a b : State) (tiers : List TierState) (shown : ShownSeen) : Type 0 where
  pub does : Does w a (orders.Frame i) (DidFrame (frame_shown shown)) b
  pub held : AllByRecursion (IsBodyAtTop w tiers) shown.bodies

-- ---- in a safe state the bodies of a round's patches are in the top tier

all_made : (P : SeenBody → Type 0) (f : ℕ → SeenBody) (ps : List ℕ) → ((k p : ℕ) → slice_get ps k ≡ Some p → P (f p)) → AllByRecursion P (map f ps)
all_made P f [] each = tt
all_made P f (p ∷ ps) each = (each zero p refl, all_made P f ps (λ k. each (suc k)))

module _ (w : World) (a : State) (safe : IsSafe w a) (i : ℕ) (s : SessionState) (at : a.sessions i ≡ Some s) (r : Refining) (there : s.round ≡ Some r) where
  body_at_top : (p : ℕ) → is_among (cut_patches r) p ≡ true → IsBodyAtTop w a.chain.tiers (top_body a.chain.tiers p)
  body_at_top p among =
      let held = frame_held w a safe i s at r there p among in
      let patch : held.body.patch ≡ p = held.of_file.of_patch.patch in
      subst (IsBodyAtTop w a.chain.tiers) (sym (held_body w a p held)) (record {
        top = held.top;
        is_top = held.is_top;
        holds = subst (λ (n : ℕ). slice_get held.top.held n ≡ Some (Some held.body)) (sym patch) held.holds;
        of_file = subst (λ (n : ℕ). IsFileBody w n held.body) (sym patch) held.of_file;
      })

  bodies_at_top : AllByRecursion (IsBodyAtTop w a.chain.tiers) (map (top_body a.chain.tiers) (cut_patches r))
  bodies_at_top = all_made (IsBodyAtTop w a.chain.tiers) (top_body a.chain.tiers) (cut_patches r) (λ k p is. body_at_top p (among_at (cut_patches r) k p is))

pub round_bodies : (mesh : MeshLists) (bytes : Option (List ℕ)) (tiers : List TierState) (words : List Entry) (seats : SeatsSeen) (board : BoardSeen) → IsMachine mesh bytes tiers words seats board → (i : ℕ) (s : SessionState) → at_seat seats.sessions i ≡ Some s → (r : Refining) → s.round ≡ Some r
    → AllByRecursion (IsBodyAtTop (world_with mesh bytes tiers) tiers) (map (top_body tiers) (cut_patches r))
unfolding state_of
round_bodies mesh bytes tiers words seats board is i s at r there = bodies_at_top (world_with mesh bytes tiers) (state_in tiers words seats board) is.safe i s at r there

-- ---- the line

-- the round was finished, its frame was made, and it counts as printed
pub shown_line : {S : Type 0} (old mid new : MachineSeen S) (i : ℕ) (shown : ShownSeen) → KeepsPlace old mid → mid.board ≡ old.board → mid.chain ≡ old.chain → new.chain ≡ mid.chain → (round : FinishesRound i old.words old.seats mid.words mid.seats)
    → Does (world_of mid) (state_in mid.chain.tiers old.words old.seats mid.board) (orders.Frame i) (DidFrame (frame_of mid.chain.tiers i round.last round.done.round)) (run_state new)
    → IsRoundShown (world_of mid) mid.chain.tiers i round.last round.done.round shown
    → ShowsFrame (world_of old) i (run_state old) (run_state new) new.chain.tiers shown
shown_line {S = S} old mid new i shown place board chain later round does is = record {
  does =
      subst (λ (w : World). Does w (run_state old) (orders.Frame i) (DidFrame (frame_shown shown)) (run_state new)) place.world
      (subst (λ (a : State). Does (world_of mid) a (orders.Frame i) (DidFrame (frame_shown shown)) (run_state new)) start
      (subst (λ (f : Frame). Does (world_of mid) (state_in mid.chain.tiers old.words old.seats mid.board) (orders.Frame i) (DidFrame f) (run_state new)) (sym is.frame) does));
  held =
      subst (λ (w : World). AllByRecursion (IsBodyAtTop w new.chain.tiers) shown.bodies) place.world
      (subst (λ (c : ChainSeen S). AllByRecursion (IsBodyAtTop (world_of mid) c.tiers) shown.bodies) (sym later) is.held);
}
  where
    start : state_in mid.chain.tiers old.words old.seats mid.board ≡ run_state old
    start = ap (λ (b : BoardSeen). state_in mid.chain.tiers old.words old.seats b) board ∙ ap (λ (tiers : List TierState). state_in tiers old.words old.seats old.board) (ap (λ (c : ChainSeen S). c.tiers) chain)
