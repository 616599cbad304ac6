-- Frames of bodies that are the file's.
use Rattle.std.specs.Prelude.{◌≡◌, ℕ, List}
use Rattle.std.specs.List.{AllZip}
use Rattle.file_model.specs.Lists.{SeenBody}
use Rattle.round_model.specs.Refiners.{Refining, cut_patches}
use Rattle.session_model.specs.Sessions.{SessionState}
use Rattle.text_model.specs.FrameText.{Frame}
use Rattle.run_model.specs.Worlds.{World, IsFileBody}
use Rattle.run_model.specs.Lines.{frame_with}

-- the session's next frame, of this round: its triangles are those of the file's bodies of its patches, one for each
pub record IsServedFrame (w : World) (i : ℕ) (s : SessionState) (round : Refining) (frame : Frame) : Type 0 where
  pub bodies : List SeenBody
  pub of_file : AllZip (IsFileBody w) (cut_patches round) bodies
  pub is : frame ≡ frame_with bodies i s round
