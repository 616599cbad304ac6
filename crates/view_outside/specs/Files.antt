-- The files of a store, where it tells them, and what a look-up and a read answer of them.
use Rattle.std.specs.Prelude.{◌≡◌, ℕ, ◌<◌, ◌≤◌, List, length, take, drop, slice_get, slice_index, position, bytes_eq, ⊤}
use Rattle.std.specs.Prelude.{Option, None, Some, IsSome, IfSome, MatchOption, option_map}
use Rattle.std.proofs.Common.{subst}

-- a file: the bytes of its name, and its bytes
abbrev pub Named : Type 0
Named = List ℕ × List ℕ

-- the number of the first file of this name
abbrev pub number_named : List Named → List ℕ → Option ℕ
number_named files name = position (λ named. bytes_eq named.0 name) files

-- the bytes of the file of this number
abbrev pub bytes_at : List Named → ℕ → Option (List ℕ)
bytes_at files file = option_map (λ named. named.1) (slice_get files file)

-- the bytes of the file of this number, where the store tells them
abbrev pub file_bytes : Option (List Named) → ℕ → Option (List ℕ)
file_bytes None file = None
file_bytes (Some files) file = bytes_at files file

-- each is a byte
abbrev pub AreBytes : List ℕ → Type 0
AreBytes bytes = (i : ℕ) → slice_index bytes i < 256

-- what the store tells of a file are bytes
abbrev pub TellsBytes : Option (List Named) → ℕ → Type 0
TellsBytes files file = IfSome (file_bytes files file) AreBytes

-- where told, the store has a file of this number
abbrev pub HasFile : Option (List Named) → ℕ → Type 0
HasFile None file = ⊤
HasFile (Some files) file = file < length files

-- where told, the store has a file of this name
abbrev pub HasName : Option (List Named) → List ℕ → Type 0
HasName None name = ⊤
HasName (Some files) name = IsSome (number_named files name)

-- the store tells its files, and none has this name
abbrev pub LacksName : Option (List Named) → List ℕ → Type 0
LacksName None name = ⊥
LacksName (Some files) name = number_named files name ≡ None

-- where told, this is the number of the first file of this name
abbrev pub Finds : Option (List Named) → List ℕ → ℕ → Type 0
Finds None name file = ⊤
Finds (Some files) name file = number_named files name ≡ Some file

-- the first n bytes of the buffer are those that stand at the offset, and none of a buffer with room means the end
pub record ReadsFrom (bytes : List ℕ) (offset : ℕ) (buffer : List ℕ) (n : ℕ) : Type 0 where
  pub same : take n buffer ≡ take n (drop offset bytes)
  pub there : n ≤ length (drop offset bytes)
  pub end : n ≡ 0 → 0 < length buffer → length (drop offset bytes) ≡ 0

-- where there is no such file, only a buffer with no room is answered, and it gets nothing
pub record ReadsNothing (buffer : List ℕ) (n : ℕ) : Type 0 where
  pub no_room : length buffer ≡ 0
  pub none_read : n ≡ 0

-- where told, the first n bytes of the buffer are the file's from the offset
abbrev pub ReadsFile : Option (List Named) → ℕ → ℕ → List ℕ → ℕ → Type 0
ReadsFile None file offset buffer n = ⊤
ReadsFile (Some files) file offset buffer n =
    MatchOption (bytes_at files file) (ReadsNothing buffer n) (λ bytes. ReadsFrom bytes offset buffer n)

told_of : (bytes : List ℕ) (offset n : ℕ) (buffer : List ℕ) → (found : Option (List ℕ)) → found ≡ Some bytes
    → MatchOption found (ReadsNothing buffer n) (λ bytes. ReadsFrom bytes offset buffer n)
    → ReadsFrom bytes offset buffer n
told_of bytes offset n buffer found is read =
    subst (λ o. MatchOption o (ReadsNothing buffer n) (λ bytes. ReadsFrom bytes offset buffer n)) is read

-- a read of a file whose bytes are told
pub ReadsFile-told : (files : Option (List Named)) (file offset n : ℕ) (bytes buffer : List ℕ)
    → file_bytes files file ≡ Some bytes → ReadsFile files file offset buffer n → ReadsFrom bytes offset buffer n
ReadsFile-told None file offset n bytes buffer is read = cc
ReadsFile-told (Some files) file offset n bytes buffer is read =
    told_of bytes offset n buffer (bytes_at files file) is read
