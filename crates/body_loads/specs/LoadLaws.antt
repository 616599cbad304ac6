-- What is loaded of a file is what the file says.
use Rattle.std.proofs.Common.{◌≡◌, ℕ, zero, suc, ◌+◌, Bool, List, [], ◌∷◌, ◌++◌, length, map, take, Option, None, Some, Result, Ok, Err, refl, sym, ap, subst, ◌∙◌, inl, inr, arith}
use Rattle.std.specs.Prelude.{slice_get, option_map}
use Rattle.std.proofs.lemmas.Bool.{cases_Bool}
use Rattle.std.specs.List.{flat_map}
use Rattle.grid_vertex.specs.declared.triangles.Triangle.{Triangle}
use Rattle.file_model.specs.declared.faults.FileFault.{FileFault}
use Rattle.file_model.specs.declared.fields.PatchField.{PatchField}
use Rattle.file_model.specs.Lists.{BodyLists, IndexLists, FileLists, bodies_offset, bodies_size, body_size, triangles_of}
use Rattle.file_model.specs.Reading.{◌>>=◌, index_in, bodies_in, body_of_file, body_offset, end_in, file_in}
use Rattle.mesh_model.specs.Graph.{patches_from, patches_where}
use Rattle.mesh_model.specs.Frames.{triangles_where}
use Rattle.file_model.specs.Lists.{SeenBody}
use Rattle.body_loads.specs.Loads.{body_at, read_as, AreBodiesAt, lists_of}

-- ---- the body of one patch

-- the body of this number from its place on
abbrev numbered_body : ℕ → ℕ → ℕ → List ℕ → Option PatchField → Option (Result BodyLists FileFault)
numbered_body version number offset bytes field = option_map (λ (f : PatchField). body_of_file version number f offset bytes) field

-- the body of the k-th of these patches, the first of which is `first` and stands at `offset`
abbrev body_from : ℕ → ℕ → ℕ → List PatchField → List ℕ → ℕ → Option (Result BodyLists FileFault)
body_from version first offset fields bytes k = numbered_body version (first + k) (offset + bodies_size version (take k fields)) bytes (slice_get fields k)

read_first : (version first offset : ℕ) (f : PatchField) (fields : List PatchField) (bytes : List ℕ) (bodies : List BodyLists) (here : Result BodyLists FileFault) (others : Result (List BodyLists) FileFault) → (here >>= λ b. others >>= λ bs. Ok (b ∷ bs)) ≡ Ok bodies
    → (b : BodyLists) × (bs : List BodyLists) × (here ≡ Ok b) × (others ≡ Ok bs) × (bodies ≡ b ∷ bs)
read_first version first offset f fields bytes bodies (Ok b) (Ok bs) is = (b, bs, refl, refl, let e : Ok (b ∷ bs) ≡ Ok bodies = is in cc)
read_first version first offset f fields bytes bodies (Ok b) (Err fault) is = absurd cc
read_first version first offset f fields bytes bodies (Err fault) others is = absurd cc

bodies_at : (version first offset : ℕ) (fields : List PatchField) (bytes : List ℕ) (bodies : List BodyLists) → bodies_in version first offset fields bytes ≡ Ok bodies → (k : ℕ) → body_from version first offset fields bytes k ≡ option_map Ok (slice_get bodies k)
unfolding bodies_in bodies_size
bodies_at version first offset [] bytes bodies is k = let e : [] ≡ bodies = cc in rw (sym e) refl
bodies_at version first offset (f ∷ fields) bytes bodies is zero =
    let parts = read_first version first offset f fields bytes bodies (body_of_file version first f offset bytes) (bodies_in version (first + 1) (offset + body_size version f) fields bytes) is in
    let number : first + 0 ≡ first = omega arith in
    let place : offset + 0 ≡ offset = omega arith in
    ap (λ (n : ℕ). Some (body_of_file version n f (offset + 0) bytes)) number ∙ ap (λ (o : ℕ). Some (body_of_file version first f o bytes)) place ∙ ap (λ (r : Result BodyLists FileFault). Some r) parts.2 ∙ ap (λ (bs : List BodyLists). option_map Ok (slice_get bs 0)) (sym parts.4)
bodies_at version first offset (f ∷ fields) bytes bodies is (suc k) =
    let parts = read_first version first offset f fields bytes bodies (body_of_file version first f offset bytes) (bodies_in version (first + 1) (offset + body_size version f) fields bytes) is in
    let rest = bodies_at version (first + 1) (offset + body_size version f) fields bytes parts.1 parts.3 k in
    let number : first + suc k ≡ first + 1 + k = omega arith in
    let place : offset + (body_size version f + bodies_size version (take k fields)) ≡ offset + body_size version f + bodies_size version (take k fields) = omega arith in
    ap (λ (n : ℕ). numbered_body version n (offset + (body_size version f + bodies_size version (take k fields))) bytes (slice_get fields k)) number
    ∙ ap (λ (o : ℕ). numbered_body version (first + 1 + k) o bytes (slice_get fields k)) place
    ∙ rest
    ∙ ap (λ (bs : List BodyLists). option_map Ok (slice_get bs (suc k))) (sym parts.4)

as_many : (version first offset : ℕ) (fields : List PatchField) (bytes : List ℕ) (bodies : List BodyLists) → bodies_in version first offset fields bytes ≡ Ok bodies → length bodies ≡ length fields
unfolding bodies_in
as_many version first offset [] bytes bodies is = let e : [] ≡ bodies = cc in ap length (sym e)
as_many version first offset (f ∷ fields) bytes bodies is =
    let parts = read_first version first offset f fields bytes bodies (body_of_file version first f offset bytes) (bodies_in version (first + 1) (offset + body_size version f) fields bytes) is in
    ap length parts.4 ∙ ap suc (as_many version (first + 1) (offset + body_size version f) fields bytes parts.1 parts.3)

-- ---- the bodies of a file

-- a file's bodies are read behind its index
abbrev IsReadBehind : FileLists → List ℕ → Type 0
IsReadBehind file bytes = bodies_in file.index.version 0 (bodies_offset file.index) file.index.fields bytes ≡ Ok file.bodies

behind_index : (bytes : List ℕ) (file : FileLists) (index : IndexLists) (bodies : Result (List BodyLists) FileFault) (end : Result (Unit {0}) FileFault) → bodies_in index.version 0 (bodies_offset index) index.fields bytes ≡ bodies
    → (bodies >>= λ bs. end >>= λ _. Ok (record { index = index; bodies = bs })) ≡ Ok file → IsReadBehind file bytes
behind_index bytes file index (Ok bs) (Ok u) read is =
    let same : record { index = index; bodies = bs } ≡ file = cc in
    subst (λ (f : FileLists). IsReadBehind f bytes) same read
behind_index bytes file index (Ok bs) (Err fault) read is = absurd cc
behind_index bytes file index (Err fault) end read is = absurd cc

read_behind : (bytes : List ℕ) (file : FileLists) (index : Result IndexLists FileFault) → (index >>= λ i. bodies_in i.version 0 (bodies_offset i) i.fields bytes >>= λ bs. end_in i bytes >>= λ _. Ok (record { index = i; bodies = bs })) ≡ Ok file → IsReadBehind file bytes
read_behind bytes file (Ok index) is = behind_index bytes file index (bodies_in index.version 0 (bodies_offset index) index.fields bytes) (end_in index bytes) refl is
read_behind bytes file (Err fault) is = absurd cc

bodies_of_file : (bytes : List ℕ) (file : FileLists) → file_in bytes ≡ Ok file → IsReadBehind file bytes
unfolding file_in
bodies_of_file bytes file is = read_behind bytes file (index_in bytes) is

-- what is loaded of a patch is the file's body
pub loads_body : (bytes : List ℕ) (file : FileLists) (patch : ℕ) → file_in bytes ≡ Ok file → body_at file.index bytes patch ≡ option_map Ok (slice_get file.bodies patch)
loads_body bytes file patch is =
    let number : patch ≡ 0 + patch = omega arith in
    ap (λ (n : ℕ). numbered_body file.index.version n (body_offset file.index patch) bytes (slice_get file.index.fields patch)) number
    ∙ bodies_at file.index.version 0 (bodies_offset file.index) file.index.fields bytes file.bodies (bodies_of_file bytes file is) patch

no_fault_in : (body : Option BodyLists) (fault : FileFault) → option_map Ok body ≡ Some (Err fault) → ⊥
no_fault_in None fault is = cc
no_fault_in (Some b) fault is = cc

-- no body of the file has a fault
pub loads_no_fault : (bytes : List ℕ) (file : FileLists) (patch : ℕ) (fault : FileFault) → file_in bytes ≡ Ok file → body_at file.index bytes patch ≡ Some (Err fault) → ⊥
loads_no_fault bytes file patch fault is at = no_fault_in (slice_get file.bodies patch) fault (sym (loads_body bytes file patch is) ∙ at)

-- ---- the triangles of chosen patches

-- what is at each patch from `first` on is a body of the list
abbrev AreAt : ℕ → (ℕ → Option (Result BodyLists FileFault)) → List BodyLists → Type 0
AreAt first at bodies = (k : ℕ) → at (first + k) ≡ option_map Ok (slice_get bodies k)

later_at : (first : ℕ) (at : ℕ → Option (Result BodyLists FileFault)) (b : BodyLists) (bodies : List BodyLists) → AreAt first at (b ∷ bodies) → AreAt (first + 1) at bodies
later_at first at b bodies are k = let number : first + 1 + k ≡ first + suc k = omega arith in ap at number ∙ are (suc k)

first_lists : (at : Option (Result BodyLists FileFault)) (b : BodyLists) (seen : SeenBody) → at ≡ Some (Ok b) → at ≡ read_as seen → seen.lists ≡ b
first_lists at b seen is read = let e : Some (Ok b) ≡ Some (Ok seen.lists) = sym is ∙ read in cc

-- a body that passed, before the others
one_chosen : (at : ℕ → Option (Result BodyLists FileFault)) (first : ℕ) (patches : List ℕ) (b : BodyLists) (triangles : List Triangle) (seen : List SeenBody) → at first ≡ Some (Ok b) → map at (first ∷ patches) ≡ map read_as seen
    → ((others : List SeenBody) → map at patches ≡ map read_as others → flat_map triangles_of (lists_of others) ≡ triangles) → flat_map triangles_of (lists_of seen) ≡ triangles_of b ++ triangles
one_chosen at first patches b triangles [] is read rest = absurd cc
one_chosen at first patches b triangles (body ∷ others) is read rest =
    let here : at first ≡ read_as body = cc in
    let behind : map at patches ≡ map read_as others = cc in
    ap (λ (lists : BodyLists). triangles_of lists ++ flat_map triangles_of (lists_of others)) (first_lists (at first) b body is here) ∙ ap (λ (ts : List Triangle). triangles_of b ++ ts) (rest others behind)

chosen : (first : ℕ) (test : PatchField → Bool) (at : ℕ → Option (Result BodyLists FileFault)) (fields : List PatchField) (bodies : List BodyLists) (seen : List SeenBody) → length bodies ≡ length fields → AreAt first at bodies
    → map at (patches_from first test fields) ≡ map read_as seen → flat_map triangles_of (lists_of seen) ≡ triangles_where test fields bodies
unfolding patches_from triangles_where
chosen first test at [] bodies [] many are read = refl
chosen first test at [] bodies (body ∷ seen) many are read = absurd cc
chosen first test at (f ∷ fields) [] seen many are read = absurd cc
chosen first test at (f ∷ fields) (b ∷ bodies) seen many are read =
    let fewer : length bodies ≡ length fields = omega (arith, many) in
    let later = later_at first at b bodies are in
    let here : at first ≡ Some (Ok b) = let number : first + 0 ≡ first = omega arith in ap at (sym number) ∙ are 0 in
    elim (cases_Bool (test f)) [
      | inl passes ↦ rw passes (one_chosen at first (patches_from (first + 1) test fields) b (triangles_where test fields bodies) seen here (rw passes at read) (λ others behind. chosen (first + 1) test at fields bodies others fewer later behind))
      | inr fails ↦ rw fails (chosen (first + 1) test at fields bodies seen fewer later (rw fails at read))
    ]

-- the triangles of the bodies loaded for chosen patches are the file's
pub loads_triangles : (bytes : List ℕ) (file : FileLists) (test : PatchField → Bool) (bodies : List SeenBody) → file_in bytes ≡ Ok file → AreBodiesAt file.index bytes (patches_where test file.index.fields) bodies
    → flat_map triangles_of (lists_of bodies) ≡ triangles_where test file.index.fields file.bodies
loads_triangles bytes file test bodies is are =
    let many = as_many file.index.version 0 (bodies_offset file.index) file.index.fields bytes file.bodies (bodies_of_file bytes file is) in
    chosen 0 test (body_at file.index bytes) file.index.fields file.bodies bodies many (λ k. let number : 0 + k ≡ k = omega arith in ap (body_at file.index bytes) number ∙ loads_body bytes file k is) are
