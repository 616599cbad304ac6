-- The lines of a byte string, and the words of a line.
use Rattle.std.specs.Prelude.{ℕ, ◌==◌, Bool, ◌&&◌, ◌||◌, nat_le, nat_lt, List, length}
use Rattle.std.specs.List.{slice_split, filter}

-- the pieces between line feeds; what stands behind the last one is a line too
abbrev pub lines_of : List ℕ → List (List ℕ)
lines_of bytes = slice_split (λ byte. byte == 10) bytes

-- a byte that stands between words: a space, a tab or a carriage return
abbrev pub is_blank : ℕ → Bool
is_blank byte = byte == 32 || byte == 9 || byte == 13

-- has a byte
abbrev pub has_bytes : List ℕ → Bool
has_bytes piece = nat_lt 0 (length piece)

-- the pieces between blanks that have a byte
abbrev pub words_of : List ℕ → List (List ℕ)
words_of line = filter has_bytes (slice_split is_blank line)

-- a byte that a line may have: from the space to the tilde, a tab or a carriage return
abbrev pub is_text_byte : ℕ → Bool
is_text_byte byte = (nat_le 32 byte && nat_le byte 126) || byte == 9 || byte == 13
