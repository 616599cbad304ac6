-- The triangle of a view's frame that a ray meets first, and its line.
use Rattle.std.specs.Prelude.{◌≡◌, ℕ, List, [], ◌∷◌, map, slice_get, codes, Option, Some, None}
use Rattle.std.specs.Fmt.{decimal, signed_decimal}
use Rattle.file_model.specs.Lists.{FileLists, SeenBody}
use Rattle.text_model.specs.FrameText.{Frame}
use Rattle.text_model.specs.Lines.{line_of}
use Rattle.round_model.specs.Views.{ViewSeen, view_rules}
use Rattle.ray_pick.specs.declared.picks.Hit.{Hit}
use Rattle.ray_pick.specs.Rays.{RaySeen}
use Rattle.ray_pick.specs.Picks.{IsPicked}
use Rattle.still_texts.specs.Full.{IsRoundFrame}

-- the triangle's place in the frame, its patch, its number in the patch, and the fraction at which it is hit
unfoldable pub hit_line : Hit → List ℕ
hit_line hit = line_of (codes "hit") (decimal hit.place ∷ codes "patch" ∷ decimal hit.patch ∷ codes "triangle" ∷ decimal hit.triangle ∷ codes "at" ∷ signed_decimal hit.above ∷ signed_decimal hit.below ∷ [])

-- a line for the first hit, or for none
abbrev pub pick_line : Option Hit → List ℕ
pick_line None = line_of (codes "miss") []
pick_line (Some hit) = hit_line hit

-- the bodies say what the file says of these patches
abbrev pub AreBodiesIn : FileLists → List ℕ → List SeenBody → Type 0
AreBodiesIn file patches bodies = map (slice_get file.bodies) patches ≡ map (λ (body : SeenBody). Some body.lists) bodies

-- the text is the line of what the ray meets first in the view's frame
pub record IsPickText (view : ViewSeen) (ray : RaySeen) (file : FileLists) (root : ℕ) (text : List ℕ) : Type 0 where
  pub frame : Frame
  pub of_round : IsRoundFrame (view_rules view) file root frame
  pub bodies : List SeenBody
  pub of_file : AreBodiesIn file frame.patches bodies
  pub found : Option Hit
  pub picked : IsPicked ray frame.patches bodies found
  pub is : text ≡ pick_line found

-- the text is the line of a hit or of none, in whatever file
pub record IsPickLine (text : List ℕ) : Type 0 where
  pub found : Option Hit
  pub is : text ≡ pick_line found
