-- One hit more, and where a body stands among others.
use Rattle.std.specs.Prelude.{◌≡◌, ℕ, Bool, List, slice_get, nat_lt, Option, Some, None, if◌then◌else◌, IfSome}
use Rattle.file_model.specs.Lists.{SeenBody}
use Rattle.ray_pick.specs.declared.picks.Hit.{Hit}
use Rattle.ray_pick.specs.Rays.{IsSmall}
use Rattle.ray_pick.specs.Picks.{crosswise}

-- the hit is at a lesser fraction than another
abbrev pub is_nearer : Hit → Hit → Bool
is_nearer hit best = nat_lt (crosswise hit.above best.below) (crosswise best.above hit.below)

-- the nearer of the best hit and a later one
abbrev pub nearer_of : Option Hit → Hit → Option Hit
nearer_of None hit = Some hit
nearer_of (Some best) hit = if is_nearer hit best then Some hit else Some best

abbrev pub IsSmallHit : Hit → Type 0
IsSmallHit hit = IsSmall hit.above hit.below

abbrev pub IsSmallPick : Option Hit → Type 0
IsSmallPick pick = IfSome pick IsSmallHit

-- the patch and its body at one place of their lists
pub record StandsAt (patches : List ℕ) (bodies : List SeenBody) (index patch : ℕ) (body : SeenBody) : Type 0 where
  pub patch_there : slice_get patches index ≡ Some patch
  pub body_there : slice_get bodies index ≡ Some body
