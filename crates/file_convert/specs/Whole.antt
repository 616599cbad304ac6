-- All patches of a file, and what is loaded of them.
use Rattle.std.proofs.Common.{◌≡◌, ℕ, zero, suc, ◌+◌, List, [], ◌∷◌, length, map, Option, Some, None, Result, Ok, refl, sym, ap, ◌∙◌, arith}
use Rattle.std.specs.Prelude.{slice_get, option_map}
use Rattle.std.specs.List.{range_with_len}
use Rattle.std.proofs.lemmas.Option.{slice_get_past}
use Rattle.file_model.specs.declared.faults.FileFault.{FileFault}
use Rattle.file_model.specs.declared.fields.PatchField.{PatchField}
use Rattle.file_model.specs.Lists.{BodyLists, SeenBody, IndexLists, FileLists}
use Rattle.file_model.specs.Reading.{body_of_file, body_offset, file_in}
use Rattle.body_loads.specs.Loads.{body_at, read_as, AreBodiesAt}
use Rattle.body_loads.specs.LoadLaws.{loads_body}
use Rattle.file_convert.specs.Held.{lists_of, held_file}

-- all patches, ascending
abbrev pub all_patches : IndexLists → List ℕ
all_patches index = range_with_len 0 (length index.fields)

-- what is read at each patch from `first` on is a body of the list
abbrev AreAt : ℕ → (ℕ → Option (Result BodyLists FileFault)) → List BodyLists → Type 0
AreAt first at bodies = (k : ℕ) → at (first + k) ≡ option_map Ok (slice_get bodies k)

later_at : (first : ℕ) (at : ℕ → Option (Result BodyLists FileFault)) (b : BodyLists) (bodies : List BodyLists) → AreAt first at (b ∷ bodies) → AreAt (first + 1) at bodies
later_at first at b bodies are k = let number : first + 1 + k ≡ first + suc k = omega arith in ap at number ∙ are (suc k)

first_at : (first : ℕ) (at : ℕ → Option (Result BodyLists FileFault)) (bodies : List BodyLists) → AreAt first at bodies → at first ≡ option_map Ok (slice_get bodies 0)
first_at first at bodies are = let number : first ≡ first + 0 = omega arith in ap at number ∙ are 0

-- the bodies read at all patches before one where there is none are all bodies of the list
all_at : (first n : ℕ) (at : ℕ → Option (Result BodyLists FileFault)) (bodies : List BodyLists) (seen : List SeenBody) → AreAt first at bodies → at (first + n) ≡ None → map at (range_with_len first n) ≡ map read_as seen → lists_of seen ≡ bodies
all_at first zero at [] [] are end read = refl
all_at first zero at [] (s ∷ seen) are end read = absurd cc
all_at first zero at (b ∷ bodies) seen are end read = let here : at (first + 0) ≡ Some (Ok b) = are 0 in absurd cc
all_at first (suc n) at bodies [] are end read = absurd cc
all_at first (suc n) at [] (s ∷ seen) are end read = let none : at first ≡ None = first_at first at [] are in let some : at first ≡ read_as s = cc in absurd cc
all_at first (suc n) at (b ∷ bodies) (s ∷ seen) are end read =
    let is : at first ≡ Some (Ok b) = first_at first at (b ∷ bodies) are in
    let some : at first ≡ read_as s = cc in
    let others : map at (range_with_len (first + 1) n) ≡ map read_as seen = cc in
    let same : Some (Ok s.lists) ≡ Some (Ok b) = sym some ∙ is in
    let one : s.lists ≡ b = cc in
    let number : first + 1 + n ≡ first + suc n = omega arith in
    let rest : lists_of seen ≡ bodies = all_at (first + 1) n at bodies seen (later_at first at b bodies are) (ap at number ∙ end) others in
    λ i. one i ∷ rest i

none_past : (bytes : List ℕ) (index : IndexLists) → body_at index bytes (length index.fields) ≡ None
none_past bytes index = ap (λ (field : Option PatchField). option_map (λ (f : PatchField). body_of_file index.version (length index.fields) f (body_offset index (length index.fields)) bytes) field) (slice_get_past index.fields (length index.fields) (omega arith))

-- what is loaded of all patches of a file that can be read is the file
pub loaded_is_file : (bytes : List ℕ) (file : FileLists) (bodies : List SeenBody) → file_in bytes ≡ Ok file → AreBodiesAt file.index bytes (all_patches file.index) bodies → held_file file.index bodies ≡ file
loaded_is_file bytes file bodies is are =
    let number : (k : ℕ) → 0 + k ≡ k = λ k. omega arith in
    let all : lists_of bodies ≡ file.bodies = all_at 0 (length file.index.fields) (body_at file.index bytes) file.bodies bodies (λ k. ap (body_at file.index bytes) (number k) ∙ loads_body bytes file k is) (ap (body_at file.index bytes) (number (length file.index.fields)) ∙ none_past bytes file.index) are in
    λ i. record { index = file.index; bodies = all i }
