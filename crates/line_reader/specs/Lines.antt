-- Lines that a reader finds.
use Rattle.std.specs.Prelude.{◌≡◌, ℕ, ◌-◌, ◌^◌, ◌<◌, ◌≤◌, ◌==◌, Bool, false, List, [], ◌∷◌, ◌++◌, length, Option, nat_le, if◌then◌else◌}
use Rattle.std.specs.List.{list_any}
use Rattle.line_reader.specs.declared.lines.LineRead.{LineRead}
use Rattle.line_reader.specs.declared.lines.LineRead.TheVariants.{Line, Long, End}
use Rattle.line_reader.specs.Reads.{HasRead, IsAtEnd}
use Rattle.line_reader.specs.Bytes.{HasNoByte}

-- has a line feed
abbrev pub has_feed : List ℕ → Bool
has_feed bytes = list_any (λ (byte : ℕ). byte == 10) bytes

-- how a line ends: with its line feed, or with the source where it has a byte, or where a counter would overflow
pub data IsEnding (line : List ℕ) : List ℕ → List ℕ → Option (List ℕ) → Type 0 where
  AtFeed : {kept : List ℕ} {after : Option (List ℕ)} → IsEnding line (10 ∷ []) kept after
  AtEnd : {after : Option (List ℕ)} → 0 < length line → IsAtEnd after → IsEnding line [] [] after
  TooFar : {kept : List ℕ} {after : Option (List ℕ)} → 2 ^ 64 - 1 ≤ length line → IsEnding line [] kept after

-- the line is the next of what was kept and read, and the bytes behind it are kept
pub record IsNextLine (line kept kept_now : List ℕ) (before after : Option (List ℕ)) : Type 0 where
  pub read : List ℕ
  pub is_read : HasRead before read after
  pub ending : List ℕ
  pub whole : kept ++ read ≡ line ++ (ending ++ kept_now)
  pub plain : has_feed line ≡ false
  pub ends : IsEnding line ending kept_now after

-- the next line has at most so many bytes
pub record FindsShort (line : List ℕ) (most : ℕ) (kept kept_now : List ℕ)
    (before after : Option (List ℕ)) : Type 0 where
  pub short : length line ≤ most
  pub next : IsNextLine line kept kept_now before after

-- the next line has more bytes
pub record FindsLong (most : ℕ) (kept kept_now : List ℕ) (before after : Option (List ℕ)) : Type 0 where
  pub line : List ℕ
  pub long : most < length line
  pub next : IsNextLine line kept kept_now before after

-- what was found: this line, one that is too long, or no byte
abbrev pub FindsLine : LineRead → ℕ → List ℕ → List ℕ → Option (List ℕ) → Option (List ℕ) → List ℕ → Type 0
FindsLine Line most kept kept_now before after line = FindsShort line most kept kept_now before after
FindsLine Long most kept kept_now before after line = FindsLong most kept kept_now before after
FindsLine End most kept kept_now before after line = HasNoByte kept kept_now before after

-- what is found where a line feed follows so many bytes
abbrev pub found_by : ℕ → ℕ → LineRead
found_by seen most = if nat_le seen most then Line else Long

-- what is found where the source ends behind so many bytes
abbrev pub ended_by : ℕ → ℕ → LineRead
ended_by seen most = if seen == 0 then End else found_by seen most
