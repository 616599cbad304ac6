-- A loop that changes each element of a list in its place.
use Rattle.std.proofs.Common.{◌≡◌, ℕ, ◌+◌, ◌<◌, List, ◌++◌, map, length, get_or, set, take, drop, arith}
use Rattle.std.proofs.lemmas.List.{get_or_default}
use Rattle.std.proofs.lemmas.List.Edits.{map_over_more}

-- with the element at i changed by f too, the first i + 1 are changed
pub changed_one_more : {X : Type 0} (f : X → X) (xs ys : List X) (i : ℕ) (d x : X) → i < length xs
    → length ys ≡ length xs → ys ≡ map f (take i xs) ++ drop i xs → x ≡ f (get_or ys i d)
    → set ys i x ≡ map f (take (i + 1) xs) ++ drop (i + 1) xs
changed_one_more f xs ys i d x within same before is =
    let inside : i < length ys = omega arith in
    rw is (map_over_more f xs ys i (get_or ys i d) within before (get_or_default ys i d (get_or ys i d) inside))
