-- Lines as words with one space between them, and what spelling means.
use Rattle.std.specs.Prelude.{◌≡◌, ℕ, ◌==◌, Bool, false, ◌||◌, List, [], ◌∷◌, ◌++◌, Option, Some, None, bytes_eq, if◌then◌else◌}
use Rattle.std.specs.List.{AllByRecursion, list_any, join_with_byte, slice_split}
use Rattle.std.specs.Option.{option_map, option_and_then}

-- a line as words: what stands between spaces
abbrev pub words_in : List ℕ → List (List ℕ)
words_in line = slice_split (λ b. b == 32) line

-- words as a line, without its line feed
abbrev pub spaced_words : List (List ℕ) → List ℕ
spaced_words words = join_with_byte 32 words

-- words as a whole line
abbrev pub line_with : List (List ℕ) → List ℕ
line_with words = spaced_words words ++ (10 ∷ [])

-- a space and a line feed end words
abbrev pub ends_word : ℕ → Bool
ends_word b = b == 32 || b == 10

-- the bytes are part of one word
abbrev pub IsPlain : List ℕ → Type 0
IsPlain word = list_any ends_word word ≡ false

-- a line has a word
abbrev pub HasFirst : List (List ℕ) → Type 0
HasFirst [] = ⊥
HasFirst (word ∷ words) = Unit {0}

-- words of one line
pub record AreWords (words : List (List ℕ)) : Type 0 where
  pub first : HasFirst words
  pub plain : AllByRecursion IsPlain words

-- words spell a value exactly where they are the words that are written for it and the value is allowed
pub record Spells {X : Type 0} (of_words : List (List ℕ) → Option X) (written : X → List (List ℕ))
    (Allowed : X → Type 0) : Type 0 where
  pub sound : (words : List (List ℕ)) (x : X) → of_words words ≡ Some x → (words ≡ written x) × Allowed x
  pub complete : (x : X) → Allowed x → of_words (written x) ≡ Some x
  pub plain : (x : X) → Allowed x → AllByRecursion IsPlain (written x)

-- a word spells a value exactly where it is the value's word and the value is allowed
pub record SpellsWord {X : Type 0} (of_word : List ℕ → Option X) (written : X → List ℕ)
    (Allowed : X → Type 0) : Type 0 where
  pub sound : (word : List ℕ) (x : X) → of_word word ≡ Some x → (word ≡ written x) × Allowed x
  pub complete : (x : X) → Allowed x → of_word (written x) ≡ Some x
  pub plain : (x : X) → Allowed x → IsPlain (written x)

-- a value in front of values
abbrev pub in_front : {X : Type 0} → Option (List X) → X → Option (List X)
in_front xs x = option_map (λ rest. x ∷ rest) xs

-- the words behind the one that is due as the first
abbrev pub behind_word : {X : Type 0} → List ℕ → (List (List ℕ) → Option X) → List (List ℕ) → Option X
behind_word due of_words [] = None
behind_word due of_words (word ∷ words) = if bytes_eq word due then of_words words else None

-- what each of the words spells, if each of them spells something
abbrev pub each_in : {X : Type 0} → (List ℕ → Option X) → List (List ℕ) → Option (List X)
each_in of_word [] = Some []
each_in of_word (word ∷ words) = option_and_then (in_front (each_in of_word words)) (of_word word)
