-- The messages between a reader and the far side of its file, and the bytes that spell each.
use Rattle.std.specs.Prelude.{◌≡◌, ℕ, ◌+◌, ◌^◌, ◌<◌, ◌≤◌, ◌==◌, ◌&&◌, Bool, true, false, if◌then◌else◌, nat_le}
use Rattle.std.specs.Prelude.{List, ◌∷◌, ◌++◌, length, drop, slice_index, Option, None, Some}
use Rattle.std.specs.Str.{IsUtf8, is_utf8}
use Rattle.byteorder.specs.Endian.{little_bytes, little_number}
use Rattle.view_outside.specs.Files.{AreBytes}

-- a question for bytes and its answer, a question for a file of a name and its answer, and that the far side failed
pub data MessageSeen : Type 0 where
  AsksBytes : (number file offset size : ℕ) → MessageSeen
  GivesBytes : (number file offset size : ℕ) (bytes : List ℕ) → MessageSeen
  AsksName : (number : ℕ) (name : List ℕ) → MessageSeen
  GivesFile : (number file : ℕ) → MessageSeen
  SaysFailed : (number : ℕ) → MessageSeen

-- the number that ties an answer to its question
abbrev pub message_number : MessageSeen → ℕ
message_number (AsksBytes number file offset size) = number
message_number (GivesBytes number file offset size bytes) = number
message_number (AsksName number name) = number
message_number (GivesFile number file) = number
message_number (SaysFailed number) = number

-- a message that asks
abbrev pub is_question : MessageSeen → Bool
is_question (AsksBytes number file offset size) = true
is_question (GivesBytes number file offset size bytes) = false
is_question (AsksName number name) = true
is_question (GivesFile number file) = false
is_question (SaysFailed number) = false

-- ---- the ranges of a message's numbers

-- how many bytes are asked for at once
abbrev pub is_size : ℕ → Bool
is_size size = nat_le 1 size && nat_le size 1024

-- the place of a file's bytes that a message names fits its fields
pub record IsPlace (number file offset size : ℕ) : Type 0 where
  pub number_fits : number < 2 ^ 64
  pub file_fits : file < 2 ^ 32
  pub offset_fits : offset < 2 ^ 64
  pub size_fits : is_size size ≡ true

-- the bytes that are given are at most those that were asked for
pub record IsGiving (number file offset size : ℕ) (bytes : List ℕ) : Type 0 where
  pub asking : IsPlace number file offset size
  pub within : length bytes ≤ size
  pub given : AreBytes bytes

-- a name that can be asked for: 1 to 255 bytes of text
pub record IsName (name : List ℕ) : Type 0 where
  pub some : 1 ≤ length name
  pub few : length name ≤ 255
  pub text : IsUtf8 name

pub record IsNaming (number : ℕ) (name : List ℕ) : Type 0 where
  pub number_fits : number < 2 ^ 64
  pub named : IsName name

pub record IsNumbered (number file : ℕ) : Type 0 where
  pub number_fits : number < 2 ^ 64
  pub file_fits : file < 2 ^ 32

-- each number of the message fits its field, and its bytes or its name are no more than it may have
abbrev pub IsMessage : MessageSeen → Type 0
IsMessage (AsksBytes number file offset size) = IsPlace number file offset size
IsMessage (GivesBytes number file offset size bytes) = IsGiving number file offset size bytes
IsMessage (AsksName number name) = IsNaming number name
IsMessage (GivesFile number file) = IsNumbered number file
IsMessage (SaysFailed number) = number < 2 ^ 64

-- ---- bytes

-- a number in a field of so many bytes, the lowest byte first
unfoldable pub field : ℕ → ℕ → List ℕ
field width n = little_bytes width n

-- the number in the field of so many bytes at this place
unfoldable pub field_at : ℕ → ℕ → List ℕ → ℕ
field_at width place bytes = little_number width (drop place bytes)

-- the bytes of a message: its kind in one byte, and then its fields
unfoldable pub message_text : MessageSeen → List ℕ
message_text (AsksBytes number file offset size) =
    1 ∷ (field 8 number ++ (field 4 file ++ (field 8 offset ++ field 2 size)))
message_text (GivesBytes number file offset size bytes) =
    2 ∷ (field 8 number ++ (field 4 file ++ (field 8 offset ++ (field 2 size ++ (field 2 (length bytes) ++ bytes)))))
message_text (AsksName number name) = 3 ∷ (field 8 number ++ (field 1 (length name) ++ name))
message_text (GivesFile number file) = 4 ∷ (field 8 number ++ field 4 file)
message_text (SaysFailed number) = 5 ∷ field 8 number

-- a question for bytes, behind its kind
unfoldable pub asks_bytes_in : List ℕ → Option MessageSeen
asks_bytes_in bytes =
    if (length bytes == 23) && is_size (field_at 2 21 bytes)
    then Some (AsksBytes (field_at 8 1 bytes) (field_at 4 9 bytes) (field_at 8 13 bytes) (field_at 2 21 bytes))
    else None

-- the fields before the bytes that are given are there and in range, and just so many bytes follow
abbrev pub has_bytes : List ℕ → Bool
has_bytes bytes = nat_le 25 (length bytes)
    && (is_size (field_at 2 21 bytes)
    && (nat_le (field_at 2 23 bytes) (field_at 2 21 bytes) && (length bytes == 25 + field_at 2 23 bytes)))

unfoldable pub gives_bytes_in : List ℕ → Option MessageSeen
gives_bytes_in bytes =
    if has_bytes bytes
    then Some (GivesBytes (field_at 8 1 bytes) (field_at 4 9 bytes) (field_at 8 13 bytes) (field_at 2 21 bytes)
    (drop 25 bytes))
    else None

-- the name has at least a byte, and just so many follow
abbrev pub has_name_size : List ℕ → Bool
has_name_size bytes = nat_le 10 (length bytes)
    && (nat_le 1 (field_at 1 9 bytes) && (length bytes == 10 + field_at 1 9 bytes))

unfoldable pub asks_name_in : List ℕ → Option MessageSeen
asks_name_in bytes =
    if has_name_size bytes && is_utf8 (drop 10 bytes)
    then Some (AsksName (field_at 8 1 bytes) (drop 10 bytes)) else None

unfoldable pub gives_file_in : List ℕ → Option MessageSeen
gives_file_in bytes =
    if length bytes == 13 then Some (GivesFile (field_at 8 1 bytes) (field_at 4 9 bytes)) else None

unfoldable pub says_failed_in : List ℕ → Option MessageSeen
says_failed_in bytes = if length bytes == 9 then Some (SaysFailed (field_at 8 1 bytes)) else None

-- the message that a string of bytes is, if it is one
unfoldable pub message_in : List ℕ → Option MessageSeen
message_in bytes =
    if slice_index bytes 0 == 1 then asks_bytes_in bytes else
    if slice_index bytes 0 == 2 then gives_bytes_in bytes else
    if slice_index bytes 0 == 3 then asks_name_in bytes else
    if slice_index bytes 0 == 4 then gives_file_in bytes else
    if slice_index bytes 0 == 5 then says_failed_in bytes else None
