-- Bytes that are copied from a block are the file's.
use Rattle.std.proofs.Common.{◌≡◌, ℕ, ◌+◌, ◌-◌, ◌<◌, ◌≤◌, List, take, drop, length, min, length-take}
use Rattle.std.proofs.Common.{Option, None, Some, MatchOption, ap, sym, ◌∙◌, arith}
use Rattle.std.proofs.lemmas.List.{drop-take, take-take, drop-drop}
use Rattle.view_outside.specs.Files.{Named, ReadsFrom, ReadsNothing, ReadsFile, bytes_at}

-- what stands in the block from a place on is what stands in the file behind the base
rest_of_part : (bytes block : List ℕ) (base place end : ℕ) → place ≤ end → take end block ≡ take end (drop base bytes)
    → drop place (take end block) ≡ take (end - place) (drop (base + place) bytes)
rest_of_part bytes block base place end within same =
    let m = end - place in
    let e : place + m ≡ end = omega arith in
    ap (λ (l : List ℕ). drop place l) same ∙ ap (λ k. drop place (take k (drop base bytes))) (sym e)
    ∙ drop-take place m (drop base bytes) ∙ ap (λ (l : List ℕ). take m l) (drop-drop place base bytes)

-- a copy of the block's rest from a place on
copies_rest : (bytes block buffer : List ℕ) (base place end n : ℕ) → place < end
    → take end block ≡ take end (drop base bytes) → ReadsFrom (take end block) place buffer n
    → ReadsFrom bytes (base + place) buffer n
copies_rest bytes block buffer base place end n within same copy =
    let m = end - place in
    let is = rest_of_part bytes block base place end (omega arith) same in
    let size : length (drop place (take end block)) ≡ min m (length (drop (base + place) bytes)) = ap length is
    ∙ length-take m (drop (base + place) bytes) in
    let there = copy.there in
    record {
      same = copy.same ∙ ap (λ (l : List ℕ). take n l) is
          ∙ take-take n m (drop (base + place) bytes) (omega (arith, size, there));
      there = omega (arith, size, there);
      end = λ none room. let empty = copy.end none room in omega (arith, size, empty, within);
    }

reads_told : (told : Option (List ℕ)) (block buffer : List ℕ) (base place end n : ℕ) → place < end
    → MatchOption told (ReadsNothing block end) (λ bytes. ReadsFrom bytes base block end)
    → ReadsFrom (take end block) place buffer n
    → MatchOption told (ReadsNothing buffer n) (λ bytes. ReadsFrom bytes (base + place) buffer n)
reads_told None block buffer base place end n within read copy =
    let none : end ≡ 0 = read.none_read in absurd (omega (arith, none, within))
reads_told (Some bytes) block buffer base place end n within read copy =
    copies_rest bytes block buffer base place end n within read.same copy

-- what is copied from a place within a block is a read of the file
pub reads_rest : (files : Option (List Named)) (file base place end n : ℕ) (block buffer : List ℕ) → place < end
    → ReadsFile files file base block end → ReadsFrom (take end block) place buffer n
    → ReadsFile files file (base + place) buffer n
reads_rest None file base place end n block buffer within read copy = tt
reads_rest (Some files) file base place end n block buffer within read copy =
    reads_told (bytes_at files file) block buffer base place end n within read copy
