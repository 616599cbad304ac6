-- Filling a buffer read by read.
use Rattle.std.proofs.Common.{◌≡◌, ℕ, ◌+◌, ◌≤◌, List, ◌++◌, length, take, drop, Option, Some, None, refl, sym, ◌∙◌, arith, length-drop}
use Rattle.std.proofs.Math.Seq.{take-add}
use Rattle.std.proofs.lemmas.List.{take_at, drop_at, take-append-le, drop-drop, length-take}
use borrow.Rule.Slice.PartMut.{put_mid}
use Rattle.view_outside.specs.Files.{Named, file_bytes, ReadsFile, ReadsFrom, ReadsFile-told}

-- the first bytes of the buffer are those that stand at the offset, where they are told
abbrev pub HasFilled : Option (List ℕ) → ℕ → ℕ → List ℕ → Type 0
HasFilled None offset filled buffer = Unit {0}
HasFilled (Some bytes) offset filled buffer = (take filled buffer ≡ take filled (drop offset bytes)) × (filled ≤ length (drop offset bytes))

-- the buffer after a read behind its first `filled` bytes
take-put_mid_more : (filled n k : ℕ) (buffer part : List ℕ) → filled ≤ length buffer → n ≤ length part → take (filled + n) (put_mid filled k buffer part) ≡ take filled buffer ++ take n part
take-put_mid_more filled n k buffer part in_buffer in_part =
    let front : length (take filled buffer) ≡ filled = omega (arith, length-take filled buffer) in
    take-add filled n (put_mid filled k buffer part) ∙ rw (take_at (take filled buffer) _ filled front, drop_at (take filled buffer) _ filled front, take-append-le n part _ in_part) refl

read_more : (bytes : List ℕ) (offset filled n k : ℕ) (buffer part : List ℕ) → filled ≤ length buffer → n ≤ length part → ReadsFrom bytes (offset + filled) part n → HasFilled (Some bytes) offset filled buffer → HasFilled (Some bytes) offset (filled + n) (put_mid filled k buffer part)
read_more bytes offset filled n k buffer part in_buffer in_part read so_far =
    let rest : drop filled (drop offset bytes) ≡ drop (offset + filled) bytes = drop-drop filled offset bytes in
    let same : take n part ≡ take n (drop filled (drop offset bytes)) = rw rest read.same in
    let there : n ≤ length (drop filled (drop offset bytes)) = rw rest read.there in
    (take-put_mid_more filled n k buffer part in_buffer in_part ∙ rw (so_far.0, same) (sym (take-add filled n (drop offset bytes))), omega (arith, there, so_far.1, length-drop filled (drop offset bytes)))

pub HasFilled-more : (files : Option (List Named)) (file offset filled n k : ℕ) (buffer part : List ℕ) → filled ≤ length buffer → n ≤ length part → ReadsFile files file (offset + filled) part n → (told : Option (List ℕ)) → file_bytes files file ≡ told → HasFilled told offset filled buffer → HasFilled told offset (filled + n) (put_mid filled k buffer part)
HasFilled-more files file offset filled n k buffer part in_buffer in_part read None is so_far = tt
HasFilled-more files file offset filled n k buffer part in_buffer in_part read (Some bytes) is so_far =
    read_more bytes offset filled n k buffer part in_buffer in_part (ReadsFile-told files file (offset + filled) n bytes part is read) so_far
