-- One element more of a list.
use Rattle.std.proofs.Common.{◌≡◌, ℕ, ◌+◌, ◌<◌, List, [], ◌∷◌, ◌++◌, length, take, drop, map, get_or, Some, sym, ap, ◌∙◌, append_assoc, add-one, drop-cons}
use Rattle.std.specs.List.{slice_get}
use Rattle.std.proofs.lemmas.Option.{slice_get_within, get_or_from_slice_get}
use Rattle.std.proofs.lemmas.List.{take_more, map-append}

-- one element more behind a front
pub append-take_one : {X : Type 0} (front xs : List X) (i : ℕ) (x : X) → slice_get xs i ≡ Some x → (front ++ take i xs) ++ (x ∷ []) ≡ front ++ take (i + 1) xs
append-take_one front xs i x at =
    let within = slice_get_within xs i x at in
    let here = get_or_from_slice_get xs i x x at in
    append_assoc front (take i xs) (x ∷ []) ∙ ap (λ t. front ++ t) (ap (λ (y : _). take i xs ++ (y ∷ [])) (sym here) ∙ sym (take_more xs i x within))

-- the rest from an element on
pub drop_one : {X : Type 0} (xs : List X) (i : ℕ) (d : X) → i < length xs → drop i xs ≡ get_or xs i d ∷ drop (i + 1) xs
drop_one xs i d within = rw add-one (drop-cons xs i d within)

-- one element more of what a function gives
pub map-take_one : {X Y : Type 0} (f : X → Y) (xs : List X) (i : ℕ) (d : X) (y : Y) → i < length xs → y ≡ f (get_or xs i d) → map f (take i xs) ++ (y ∷ []) ≡ map f (take (i + 1) xs)
map-take_one f xs i d y within e =
    ap (λ (z : _). map f (take i xs) ++ (z ∷ [])) e ∙ sym (map-append f (take i xs) (get_or xs i d ∷ [])) ∙ ap (map f) (sym (take_more xs i d within))
