-- The text of a point, and the line of a triangle from the texts of its corners.
use Rattle.std.specs.Prelude.{ℕ, List, [], ◌∷◌, ◌++◌}
use Rattle.std.specs.Fmt.{signed_decimal}
use Rattle.grid_vertex.specs.declared.points.Point.{Point}

-- x, y and z with a space between them
unfoldable pub shown_point : Point → List ℕ
shown_point p = signed_decimal p.x ++ (32 ∷ (signed_decimal p.y ++ (32 ∷ signed_decimal p.z)))

-- three texts with a space between them, and a line feed
unfoldable pub corners_line : List ℕ → List ℕ → List ℕ → List ℕ
corners_line a b c = a ++ (32 ∷ (b ++ (32 ∷ (c ++ (10 ∷ [])))))
