-- Frames that are shown.
use Rattle.std.specs.Prelude.{◌≡◌, ℕ, List, length}
use Rattle.file_model.specs.declared.fields.Try.{Try}
use Rattle.text_model.specs.FrameText.{Frame}

-- the frame has these parts, and so many triangles
pub record HasParts (session number triangles : ℕ) (cut : List ℕ) (tries : List Try) (patches : List ℕ)
    (frame : Frame) : Type 0 where
  pub session_is : frame.session ≡ session
  pub number_is : frame.number ≡ number
  pub triangles_are : length frame.triangles ≡ triangles
  pub cut_is : frame.cut ≡ cut
  pub tries_are : frame.tries ≡ tries
  pub patches_are : frame.patches ≡ patches
