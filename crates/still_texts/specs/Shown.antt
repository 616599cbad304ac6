-- Frames of the base.
use Rattle.std.specs.Prelude.{◌≡◌, ℕ, List, []}
use Rattle.file_model.specs.Lists.{FileLists}
use Rattle.mesh_model.specs.Frames.{root_alone}
use Rattle.text_model.specs.FrameText.{Frame, IsFrameText}
use Rattle.text_model.specs.ShownCuts.{ShowsCut}

-- the frame is the first of a session 0
pub record IsStill (frame : Frame) : Type 0 where
  pub session : frame.session ≡ 0
  pub number : frame.number ≡ 1

-- the text of the base: the frame of the root alone, for which nothing was tried
pub record IsBaseText (file : FileLists) (root : ℕ) (text : List ℕ) : Type 0 where
  pub frame : Frame
  pub still : IsStill frame
  pub shows : ShowsCut file root (root_alone root) frame
  pub untried : frame.tries ≡ []
  pub is : IsFrameText frame text

-- the text is a frame's, the first of a session 0, of whatever file
pub record IsStillText (text : List ℕ) : Type 0 where
  pub frame : Frame
  pub still : IsStill frame
  pub is : IsFrameText frame text
