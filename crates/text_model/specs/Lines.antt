-- Lines: words with one space between them, and a line feed at the end.
use Rattle.std.specs.Prelude.{◌≡◌, ℕ, ◌==◌, Bool, true, List, [], ◌∷◌, ◌++◌, map, if◌then◌else◌}
use Rattle.std.specs.Fmt.{decimal}

-- each word behind a space
unfoldable pub spaced : List (List ℕ) → List ℕ
spaced [] = []
spaced (word ∷ words) = 32 ∷ (word ++ spaced words)

-- a line of its first word and the others
unfoldable pub line_of : List ℕ → List (List ℕ) → List ℕ
line_of first words = first ++ (spaced words ++ (10 ∷ []))

-- numbers as words
abbrev pub decimals : List ℕ → List (List ℕ)
decimals ns = map decimal ns

-- nothing stands in the line yet: the text is empty or ends with a line feed
abbrev pub begins_line : List ℕ → Bool
begins_line [] = true
begins_line (c ∷ []) = c == 10
begins_line (c ∷ d ∷ cs) = begins_line (d ∷ cs)

-- the text with a further word in its last line: behind a space, but at the line's beginning
unfoldable pub with_word : List ℕ → List ℕ → List ℕ
with_word text word = if begins_line text then text ++ word else text ++ (32 ∷ word)

-- the new text is the old one and then the piece
pub record Adds (before after piece : List ℕ) : Type 0 where
  pub is : after ≡ before ++ piece
