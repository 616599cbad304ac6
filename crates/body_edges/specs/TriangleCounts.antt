-- How many triangles a body has.
use Rattle.std.specs.Prelude.{◌≡◌, suc, List, [], ◌∷◌, length, refl}
use Rattle.std.proofs.Common.{ap}
use Rattle.grid_vertex.specs.declared.points.Point.{Point}
use Rattle.file_model.specs.Lists.{Corners, triangles_from}

-- a body has as many triangles as corners
pub length-triangles_from : (points : List Point) (corners : List Corners) → length (triangles_from points corners) ≡ length corners
unfolding triangles_from
length-triangles_from points [] = refl
length-triangles_from points (t ∷ ts) = ap (λ n. suc n) (length-triangles_from points ts)
