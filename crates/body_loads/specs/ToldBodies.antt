-- The bodies that a file says, by the numbers of their patches.
use Rattle.std.proofs.Common.{◌≡◌, ℕ, zero, suc, ◌+◌, ◌<◌, List, [], ◌∷◌, length, map, get_or, Option, Some, None, Result, Ok, Err, refl, sym, ap, subst, ◌∙◌, arith}
use Rattle.std.specs.Prelude.{slice_get, option_map}
use Rattle.std.specs.List.{range_with_len}
use Rattle.std.proofs.lemmas.List.FromFn.{get_or-map-range_with_len, length-map-range_with_len}
use Rattle.std.proofs.lemmas.Option.{slice_get_within}
use Rattle.file_model.specs.declared.faults.FileFault.{FileFault}
use Rattle.file_model.specs.declared.fields.PatchField.{PatchField}
use Rattle.file_model.specs.Lists.{BodyLists, IndexLists, no_body}
use Rattle.file_model.specs.Reading.{body_of_file, body_offset}
use Rattle.body_loads.specs.Loads.{body_at}

-- the lists that the bytes say, and none where they say no body
abbrev pub lists_said : Option (Result BodyLists FileFault) → BodyLists
lists_said None = no_body.lists
lists_said (Some (Err fault)) = no_body.lists
lists_said (Some (Ok lists)) = lists

-- the bodies that the bytes say, by the number of their patch
unfoldable pub said_bodies : IndexLists → List ℕ → List BodyLists
said_bodies index bytes = map (λ p. lists_said (body_at index bytes p)) (range_with_len 0 (length index.fields))

-- the bodies of a file whose bytes may be told
abbrev pub told_bodies : IndexLists → Option (List ℕ) → Option (List BodyLists)
told_bodies index bytes = option_map (said_bodies index) bytes

some_at : (xs : List BodyLists) (i : ℕ) (d : BodyLists) → i < length xs → slice_get xs i ≡ Some (get_or xs i d)
some_at [] i d within = absurd (omega arith)
some_at (x ∷ xs) zero d within = refl
some_at (x ∷ xs) (suc i) d within = some_at xs i d (omega arith)

at_number : (n i : ℕ) (f : ℕ → BodyLists) (a : ℕ) → i < n → slice_get (map f (range_with_len a n)) i ≡ Some (f (a + i))
at_number n i f a within =
    some_at (map f (range_with_len a n)) i no_body.lists (subst (λ (m : ℕ). i < m) (sym (length-map-range_with_len f a n)) within)
    ∙ ap Some (get_or-map-range_with_len f a n i (a + i) no_body.lists within refl)

patch_within : (index : IndexLists) (bytes : List ℕ) (p : ℕ) (is : Result BodyLists FileFault) → body_at index bytes p ≡ Some is → p < length index.fields
patch_within index bytes p is said = by_field (slice_get index.fields p) refl said
  where
    by_field : (field : Option PatchField) → slice_get index.fields p ≡ field → option_map (λ (f : PatchField). body_of_file index.version p f (body_offset index p) bytes) field ≡ Some is → p < length index.fields
    by_field None at same = absurd (cc)
    by_field (Some f) at same = slice_get_within index.fields p f at

zero_plus : (p : ℕ) → 0 + p ≡ p
zero_plus p = omega arith

-- what is said of a patch stands at its number
pub said_of : (index : IndexLists) (bytes : List ℕ) (p : ℕ) (is : Result BodyLists FileFault) → body_at index bytes p ≡ Some is → slice_get (said_bodies index bytes) p ≡ Some (lists_said (Some is))
unfolding said_bodies
said_of index bytes p is said =
    at_number (length index.fields) p (λ q. lists_said (body_at index bytes q)) 0 (patch_within index bytes p is said)
    ∙ ap (λ (q : ℕ). Some (lists_said (body_at index bytes q))) (zero_plus p)
    ∙ ap (λ (said : Option (Result BodyLists FileFault)). Some (lists_said said)) said
