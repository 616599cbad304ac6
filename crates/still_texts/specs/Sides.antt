-- On which side of a plane the nodes of a file lie.
use Rattle.std.specs.Prelude.{◌≡◌, ℕ, ◌+◌, List, [], ◌∷◌, ◌++◌, map, codes}
use Rattle.std.specs.Fmt.{decimal}
use Rattle.file_model.specs.declared.fields.Node.{Node}
use Rattle.file_model.specs.Lists.{FileLists}
use Rattle.text_model.specs.Lines.{line_of}
use Rattle.view_planes.specs.declared.half_spaces.Side.{Side}
use Rattle.view_planes.specs.declared.half_spaces.Side.TheVariants.{Front, Across, Behind}
use Rattle.view_planes.specs.HalfSpaces.{HalfSpaceSeen, side_of}

abbrev pub side_word : Side → List ℕ
side_word Front = codes "front"
side_word Across = codes "across"
side_word Behind = codes "behind"

-- the node, and where it lies
unfoldable pub side_line : ℕ → Side → List ℕ
side_line node side = line_of (codes "node") (decimal node ∷ side_word side ∷ [])

-- a line for each node, of which the first has this number
unfoldable pub side_lines : ℕ → List Side → List ℕ
side_lines first [] = []
side_lines first (side ∷ sides) = side_line first side ++ side_lines (first + 1) sides

-- where each node lies
abbrev pub sides_of : HalfSpaceSeen → List Node → List Side
sides_of plane nodes = map (λ (node : Node). side_of plane node.ball) nodes

-- the text tells where each node of the file lies
abbrev pub IsSidesText : HalfSpaceSeen → FileLists → List ℕ → Type 0
IsSidesText plane file text = text ≡ side_lines 0 (sides_of plane file.index.nodes)

-- the text tells where nodes lie, of whatever file
pub record IsSidesLines (text : List ℕ) : Type 0 where
  pub sides : List Side
  pub is : text ≡ side_lines 0 sides
