-- The least coordinates of points, all axes in one pass.
use Rattle.std.proofs.Common.{◌≡◌, ◌-◌, ◌≤◌, List, [], ◌∷◌, length, take, drop, get_or, refl, ap, ◌∙◌, arith}
use Rattle.std.proofs.lemmas.List.{take_rest}
use Rattle.std.specs.List.{fold}
use Rattle.grid_vertex.specs.declared.points.Point.{Point}
use Rattle.file_model.specs.Spelling.{origin_of}
use Rattle.patch_body.specs.Origins.{lower_of}

fold-lower_of : (p : Point) (ps : List Point) → fold lower_of p ps ≡ origin_of (p ∷ ps)
unfolding origin_of
fold-lower_of p [] = refl
fold-lower_of p (q ∷ qs) = fold-lower_of (lower_of p q) qs

-- the same of the first point of a slice and the others
pub fold-first : (ps : List Point) (d : Point) → 1 ≤ length ps → fold lower_of (get_or ps 0 d) (take (length ps - 1) (drop 1 ps)) ≡ origin_of ps
fold-first [] d h = absurd (omega arith)
fold-first (p ∷ ps) d h = ap (fold lower_of p) (take_rest (p ∷ ps) 1) ∙ fold-lower_of p ps
