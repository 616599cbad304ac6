-- What a read takes from a store.
use Rattle.std.specs.Prelude.{◌≡◌, ℕ, ◌+◌, List, length, take, drop, Option, None, Some, Result, Ok, Err}
use Rattle.file_model.specs.declared.faults.FileFault.{FileFault}
use Rattle.file_model.specs.Reading.{Header, header_in, fields_size}

-- the first n bytes of the buffer are all that stand at the offset, up to the buffer's length
abbrev pub Fills : List ℕ → ℕ → List ℕ → ℕ → Type 0
Fills bytes offset buffer n = take n buffer ≡ take (length buffer) (drop offset bytes)

-- how many bytes the nodes and the fields have that a header announces
abbrev pub announced_size : Result Header FileFault → ℕ
announced_size (Ok header) = fields_size header
announced_size (Err fault) = 0

-- how many bytes the header and what it announces have; the most, where the file isn't told
abbrev pub index_size : Option (List ℕ) → ℕ
index_size None = 2097168
index_size (Some bytes) = 16 + announced_size (header_in (take 16 bytes))
