-- The frame that a session's round gives.
use Rattle.std.specs.Prelude.{◌≡◌, ℕ, List, map}
use Rattle.std.specs.List.{flat_map}
use Rattle.grid_vertex.specs.declared.triangles.Triangle.{Triangle}
use Rattle.file_model.specs.declared.fields.Try.{Try}
use Rattle.file_model.specs.Lists.{triangles_of}
use Rattle.text_model.specs.FrameText.{Frame, IsFrameText}
use Rattle.text_model.specs.Lines.{Adds}
use Rattle.file_model.specs.Lists.{SeenBody}

-- the triangles of the bodies, in order
abbrev pub triangles_in : List SeenBody → List Triangle
triangles_in bodies = flat_map (λ (body : SeenBody). triangles_of body.lists) bodies

-- the bodies are those of the patches, in order
abbrev pub AreBodiesOf : List ℕ → List SeenBody → Type 0
AreBodiesOf patches bodies = map (λ (body : SeenBody). body.patch) bodies ≡ patches

-- the frame of these patches with their bodies' triangles
abbrev pub frame_of : ℕ → ℕ → List ℕ → List Try → List ℕ → List SeenBody → Frame
frame_of session number cut tries patches bodies = record { session = session; number = number; cut = cut; tries = tries; patches = patches; triangles = triangles_in bodies }

-- the text of the frame was appended
pub record AddsFrame (before after : List ℕ) (frame : Frame) : Type 0 where
  pub text : List ℕ
  pub is_text : IsFrameText frame text
  pub adds : Adds before after text
