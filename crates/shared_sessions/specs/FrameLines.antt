-- The next frame of a session, whose round was finished: its text was appended.
use Rattle.std.proofs.Common.{◌≡◌, ℕ, ◌+◌, ◌^◌, ◌<◌, false, List, [], ◌++◌, Option, Some, refl, sym, ap, subst, ◌∙◌}
use Rattle.std.specs.List.{AllZip}
use Rattle.std.specs.Option.{option_map_or}
use Rattle.file_model.specs.declared.fields.Try.{Try}
use Rattle.file_model.specs.Lists.{SeenBody}
use Rattle.mesh_model.specs.Meshes.{MeshLists}
use Rattle.round_model.specs.Refiners.{Refining, cut_of, cut_patches}
use Rattle.round_model.specs.Views.{ViewSeen}
use Rattle.script_model.specs.declared.orders.Order.TheVariants as orders
use Rattle.session_model.specs.Sessions.{SessionState, printed_once}
use Rattle.session_model.specs.Finishes.{Finishes, pairs_of}
use Rattle.session_model.specs.Told.{SessionTold}
use Rattle.session_laws.specs.ToldLaws.{told_finishes}
use Rattle.session_locks.specs.Sessions.{SessionSeen}
use Rattle.session_locks.specs.Taken.{EndsDone}
use Rattle.text_model.specs.FrameText.{Frame}
use Rattle.frame_writer.specs.Frames.{AddsFrame}
use Rattle.frame_writer.specs.Frames.{frame_of as text_frame}
use Rattle.run_model.specs.Worlds.{World, IsFileBody}
use Rattle.run_model.specs.Lines.{DidFrame, frame_with}
use Rattle.serve_model.specs.ServedLines.{no_epochs, FinishesWith, Serves, ServesFrame}
use Rattle.shared_sessions.specs.SharedSeats.{IsResting}
use Rattle.shared_sessions.specs.ServedOrders.{ServesOne}

-- the text of the session's next frame was appended, with the file's bodies of its patches
pub record ShowsNext (w : World) (i : ℕ) (s : SessionState) (before after : List ℕ) : Type 0 where
  pub bodies : List SeenBody
  pub of_file : (r : Refining) → s.round ≡ Some r → AllZip (IsFileBody w) (cut_patches r) bodies
  pub adds : (r : Refining) → s.round ≡ Some r → AddsFrame before after (frame_with bodies i s r)

pub next_frame : (i : ℕ) (s : SessionState) (r : Refining) (bodies : List SeenBody) (number : ℕ) (cut : List ℕ)
    (tries : List Try) (patches : List ℕ) → number ≡ s.frames + 1 → cut ≡ cut_of r → tries ≡ r.tries
    → patches ≡ cut_patches r → text_frame i number cut tries patches bodies ≡ frame_with bodies i s r
unfolding frame_with
next_frame i s r bodies number cut tries patches number_is cut_is tries_are patches_are =
    rw (number_is, cut_is, tries_are, patches_are) refl

-- steps were made until a round was done, and by their tries the seat's tries grew
pub record FinishesRound (tries now : List (ℕ × ℕ)) (old mid : SessionSeen) : Type 0 where
  pub made : List (ℕ × ℕ)
  pub grown : now ≡ tries ++ made
  pub ends : EndsDone false no_epochs old made mid

-- steps print no frame
pub few_then : (tries now : List (ℕ × ℕ)) (old mid : SessionSeen) → FinishesRound tries now old mid
    → old.state.frames < 2 ^ 63 → mid.state.frames < 2 ^ 63
few_then tries now old mid finishes few =
    subst (λ (n : ℕ). n < 2 ^ 63) (sym (ap (λ (told : SessionTold). told.frames)
    (told_finishes old.mesh false no_epochs old.state finishes.made mid.state finishes.ends.finishes))) few

tries_of_frame : (bodies : List SeenBody) (i : ℕ) (s : SessionState) (r : Refining)
    → (frame_with bodies i s r).tries ≡ r.tries
unfolding frame_with
tries_of_frame bodies i s r = refl

-- the round was finished, shown, and counted as printed
pub serves_frame : (w : World) (i : ℕ) (tries now : List (ℕ × ℕ)) (before after : List ℕ) (old mid : SessionSeen)
    (new : SessionState) (view : ViewSeen) → old.mesh ≡ w.mesh → IsResting old.state → old.state.view ≡ Some view
    → FinishesRound tries now old mid → ShowsNext w i mid.state before after → new ≡ printed_once mid.state
    → ServesOne w (Some old.state) (orders.Frame i) (Some new) tries now before after
serves_frame w i tries now before after old mid new view over rests viewed finishes shows printed =
    let s = old.state in
    let t = mid.state in
    let done = finishes.ends.finished.done in
    let adds = shows.adds done.round done.there in
    let frame : Frame = frame_with shows.bodies i t done.round in
    let made : finishes.made ≡ pairs_of frame.tries =
    sym (ap pairs_of (tries_of_frame shows.bodies i t done.round) ∙ finishes.ends.finished.tries_are
    ∙ ap (λ (o : Option Refining). pairs_of (option_map_or (λ (r : Refining). r.tries) o []) ++ finishes.made) rests) in
    let goes : FinishesWith w s (pairs_of frame.tries) t =
    subst (λ (ts : List (ℕ × ℕ)). FinishesWith w s ts t) made
    (subst (λ (m : MeshLists). Finishes m false no_epochs s finishes.made t) over finishes.ends.finishes) in
    record {
      did = DidFrame frame;
      serves = subst (λ (u : SessionState). Serves w (Some s) (orders.Frame i) (DidFrame frame) (Some u)) (sym printed)
          (ServesFrame i s t view frame done viewed goes
          (record { bodies = shows.bodies; of_file = shows.of_file done.round done.there; is = refl }));
      grown = finishes.grown ∙ ap (λ (ts : List (ℕ × ℕ)). tries ++ ts) made;
      text = adds.text;
      is = adds.is_text;
      adds = adds.adds;
    }
