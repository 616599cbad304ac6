-- The bodies that the bytes of a file say are the file's, and each has a triangle.
use Rattle.std.proofs.Common.{◌≡◌, ℕ, zero, suc, ◌+◌, ◌≤◌, leb, List, [], ◌∷◌, length, map, Option, Some, Result, Ok, refl, ap, subst, ◌∙◌, arith}
use Rattle.std.specs.Prelude.{◌==◌, IsTrue, slice_get, option_map}
use Rattle.std.specs.List.{range_with_len, list_all}
use Rattle.std.proofs.lemmas.Bool.{and_parts, leb-true, eqb-true}
use Rattle.std.proofs.lemmas.Option.{same_Some}
use Rattle.file_model.specs.declared.limits.TheConstants.{MOST_IN_PATCH}
use Rattle.file_model.specs.declared.faults.FileFault.{FileFault}
use Rattle.file_model.specs.declared.fields.PatchField.{PatchField}
use Rattle.file_model.specs.Lists.{BodyLists, FileLists}
use Rattle.file_model.specs.Reading.{file_in}
use Rattle.file_model.specs.Rules.{is_between, has_ends, has_counts, is_field, fits_field, are_bodies, IsPatchFile}
use Rattle.file_laws.specs.Files.{are_bodies-parts}
use Rattle.body_loads.specs.Loads.{body_at}
use Rattle.body_loads.specs.LoadLaws.{loads_body}
use Rattle.body_loads.specs.ToldBodies.{lists_said, said_bodies}

-- what is read at each patch from `first` on is a body of the list
abbrev AreAt : ℕ → (ℕ → Option (Result BodyLists FileFault)) → List BodyLists → Type 0
AreAt first at bodies = (k : ℕ) → at (first + k) ≡ option_map Ok (slice_get bodies k)

all_said : (first n : ℕ) (at : ℕ → Option (Result BodyLists FileFault)) (bodies : List BodyLists) → AreAt first at bodies → length bodies ≡ n → map (λ p. lists_said (at p)) (range_with_len first n) ≡ bodies
all_said first zero at [] are many = refl
all_said first zero at (b ∷ bodies) are many = absurd (omega (arith, many))
all_said first (suc n) at [] are many = absurd (omega (arith, many))
all_said first (suc n) at (b ∷ bodies) are many =
    let here : first ≡ first + 0 = omega arith in
    let one : lists_said (at first) ≡ b = ap (λ (p : ℕ). lists_said (at p)) here ∙ ap lists_said (are 0) in
    let next : (k : ℕ) → first + 1 + k ≡ first + suc k = λ k. omega arith in
    let rest : map (λ p. lists_said (at p)) (range_with_len (first + 1) n) ≡ bodies = all_said (first + 1) n at bodies (λ k. ap at (next k) ∙ are (suc k)) (omega (arith, many)) in
    λ i. one i ∷ rest i

as_many : (version : ℕ) (fields : List PatchField) (bodies : List BodyLists) → IsTrue (are_bodies version fields bodies) → length bodies ≡ length fields
unfolding are_bodies
as_many version [] [] are = refl
as_many version [] (b ∷ bodies) are = absurd (cc)
as_many version (f ∷ fields) [] are = absurd (cc)
as_many version (f ∷ fields) (b ∷ bodies) are = ap suc (as_many version fields bodies (are_bodies-parts version f fields b bodies are).others)

pub said_is_file : (bytes : List ℕ) (file : FileLists) → file_in bytes ≡ Ok file → IsPatchFile file bytes → said_bodies file.index bytes ≡ file.bodies
unfolding said_bodies
said_is_file bytes file is spelling =
    let number : (k : ℕ) → 0 + k ≡ k = λ k. omega arith in
    all_said 0 (length file.index.fields) (body_at file.index bytes) file.bodies (λ k. ap (body_at file.index bytes) (number k) ∙ loads_body bytes file k is) (as_many file.index.version file.index.fields file.bodies spelling.bodies)

-- ---- triangles

corners_of_field : (nodes : ℕ) (f : PatchField) (b : BodyLists) → IsTrue (fits_field f b) → IsTrue (is_field nodes f) → 1 ≤ length b.corners
corners_of_field nodes f b fits rules =
    let sizes = and_parts (length b.points == f.points) (length b.corners == f.triangles) fits in
    let counts = and_parts (is_between 1 MOST_IN_PATCH f.points) (is_between 1 MOST_IN_PATCH f.triangles) (and_parts (has_ends nodes f) (has_counts f) rules).1 in
    let some = leb-true 1 f.triangles (and_parts (leb 1 f.triangles) (leb f.triangles MOST_IN_PATCH) counts.1).0 in
    let same = eqb-true (length b.corners) f.triangles sizes.1 in
    omega (arith, some, same)

pub some_corner : (version nodes : ℕ) (fields : List PatchField) (bodies : List BodyLists) → IsTrue (are_bodies version fields bodies) → IsTrue (list_all (is_field nodes) fields) → (p : ℕ) (lists : BodyLists) → slice_get bodies p ≡ Some lists → 1 ≤ length lists.corners
unfolding are_bodies
some_corner version nodes fields [] are rules p lists at = absurd (cc)
some_corner version nodes [] (b ∷ bodies) are rules p lists at = absurd (cc)
some_corner version nodes (f ∷ fields) (b ∷ bodies) are rules zero lists at =
    subst (λ (ls : BodyLists). 1 ≤ length ls.corners) (same_Some b lists at)
    (corners_of_field nodes f b (are_bodies-parts version f fields b bodies are).fits (and_parts (is_field nodes f) (list_all (is_field nodes) fields) rules).0)
some_corner version nodes (f ∷ fields) (b ∷ bodies) are rules (suc p) lists at =
    some_corner version nodes fields bodies (are_bodies-parts version f fields b bodies are).others (and_parts (is_field nodes f) (list_all (is_field nodes) fields) rules).1 p lists at
