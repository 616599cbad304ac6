-- Lists that are taken item by item.
use Rattle.std.proofs.Common.{◌≡◌, ℕ, ◌+◌, ◌<◌, List, [], ◌∷◌, ◌++◌, length, map, take, get_or, append_assoc, Some, refl, sym, ap, ◌∙◌}
use Rattle.std.specs.Prelude.{slice_get, option_map}
use Rattle.std.proofs.lemmas.List.{take_more, map-append, length-map}
use Rattle.std.proofs.lemmas.Option.{slice_get_within, slice_get_read, slice_get-map, get_or_from_slice_get}
use Rattle.file_model.specs.declared.fields.PatchField.{PatchField}
use Rattle.file_model.specs.Lists.{Corners, BodyLists, SeenBody, FileLists, corners_of}
use Rattle.file_convert.specs.Held.{lists_of, with_all_patches}

pub take_at : {X : Type 0} (xs : List X) (k : ℕ) (x : X) → slice_get xs k ≡ Some x → take (k + 1) xs ≡ take k xs ++ x ∷ []
take_at xs k x here = take_more xs k x (slice_get_within xs k x here) ∙ ap (λ y. take k xs ++ y ∷ []) (get_or_from_slice_get xs k x x here)

pub taken_more : {X : Type 0} (xs ys : List X) (k : ℕ) (x : X) → slice_get xs k ≡ Some x → ys ≡ take k xs → ys ++ x ∷ [] ≡ take (k + 1) xs
taken_more xs ys k x here is = ap (λ zs. zs ++ x ∷ []) is ∙ sym (take_at xs k x here)

pub corners_more : (xs : List Corners) (ys : List (List ℕ)) (k : ℕ) (y : List ℕ) → slice_get xs k ≡ Some (corners_of y) → map corners_of ys ≡ take k xs → map corners_of (ys ++ y ∷ []) ≡ take (k + 1) xs
corners_more xs ys k y here is = map-append corners_of ys (y ∷ []) ∙ taken_more xs (map corners_of ys) k (corners_of y) here is

-- a held body stands among the lists of all
pub item_lists : {A : Type 0} (see : A → SeenBody) (xs : List A) (k : ℕ) (x : A) (b : SeenBody) → k < length xs → x ≡ get_or xs k x → b ≡ see x → slice_get (lists_of (map see xs)) k ≡ Some b.lists
item_lists see xs k x b within is seen =
    slice_get-map (λ (y : SeenBody). y.lists) (map see xs) k
    ∙ ap (λ o. option_map (λ (y : SeenBody). y.lists) o) (slice_get-map see xs k ∙ ap (λ o. option_map see o) (slice_get_read xs (length xs) k x refl within is))
    ∙ ap (λ (y : SeenBody). Some y.lists) (sym seen)

pub patches_more : (start parts after : FileLists) (fields : List PatchField) (lists : List BodyLists) (k : ℕ) (d : PatchField) (b : BodyLists) → k < length fields → slice_get lists k ≡ Some b → parts ≡ with_all_patches start (take k fields) (take k lists) → after ≡ with_all_patches parts (get_or fields k d ∷ []) (b ∷ [])
    → after ≡ with_all_patches start (take (k + 1) fields) (take (k + 1) lists)
patches_more start parts after fields lists k d b within here is adds =
    let f = get_or fields k d in
    let fs : (start.index.fields ++ take k fields) ++ f ∷ [] ≡ start.index.fields ++ take (k + 1) fields = append_assoc start.index.fields (take k fields) (f ∷ []) ∙ ap (λ ys. start.index.fields ++ ys) (sym (take_more fields k d within)) in
    let bs : (start.bodies ++ take k lists) ++ b ∷ [] ≡ start.bodies ++ take (k + 1) lists = append_assoc start.bodies (take k lists) (b ∷ []) ∙ ap (λ ys. start.bodies ++ ys) (sym (take_at lists k b here)) in
    adds ∙ ap (λ (p : FileLists). with_all_patches p (f ∷ []) (b ∷ [])) is ∙ (λ i. record { index = record { version = start.index.version; nodes = start.index.nodes; fields = fs i }; bodies = bs i })

pub lists_length : {A : Type 0} (see : A → SeenBody) (xs : List A) → length (lists_of (map see xs)) ≡ length xs
lists_length see xs = length-map (map see xs) (λ (y : SeenBody). y.lists) ∙ length-map xs see
