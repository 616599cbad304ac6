-- Bytes that a reader of lines takes, one after another.
use Rattle.std.specs.Prelude.{◌≡◌, ℕ, List, [], ◌∷◌, ◌++◌, length, Option, Some, None, nat_lt, if◌then◌else◌}
use Rattle.line_reader.specs.Reads.{HasRead, IsAtEnd}

-- what was read is kept behind what was, and nothing is kept only where the source ended
pub record Refills (kept kept_now : List ℕ) (before after : Option (List ℕ)) : Type 0 where
  pub read : List ℕ
  pub is_read : HasRead before read after
  pub whole : kept_now ≡ kept ++ read
  pub ends : kept_now ≡ [] → IsAtEnd after

-- the first byte that is kept was taken, if there is one
abbrev pub TakesKept : Option ℕ → List ℕ → List ℕ → Type 0
TakesKept None kept kept_now = (kept ≡ []) × (kept_now ≡ [])
TakesKept (Some byte) kept kept_now = kept ≡ byte ∷ kept_now

-- no byte is kept, none was read, and the source ended
pub record HasNoByte (kept kept_now : List ℕ) (before after : Option (List ℕ)) : Type 0 where
  pub none_kept : kept ≡ []
  pub none_now : kept_now ≡ []
  pub is_read : HasRead before [] after
  pub at_end : IsAtEnd after

-- the byte is the first of those that were kept and read, and the others are kept
pub record HasByte (byte : ℕ) (kept kept_now : List ℕ) (before after : Option (List ℕ)) : Type 0 where
  pub read : List ℕ
  pub is_read : HasRead before read after
  pub whole : kept ++ read ≡ byte ∷ kept_now

abbrev pub TakesByte : Option ℕ → List ℕ → List ℕ → Option (List ℕ) → Option (List ℕ) → Type 0
TakesByte None kept kept_now before after = HasNoByte kept kept_now before after
TakesByte (Some byte) kept kept_now before after = HasByte byte kept kept_now before after

-- a line with the byte behind it, if it had fewer than so many
abbrev pub keeps_byte : ℕ → List ℕ → ℕ → List ℕ
keeps_byte most line byte = if nat_lt (length line) most then line ++ byte ∷ [] else line
