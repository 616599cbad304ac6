-- Lines: where they begin, and lists of words written one after the other.
use Rattle.std.proofs.Common.{◌≡◌, ℕ, suc, ◌+◌, ◌-◌, ◌<◌, List, [], ◌∷◌, ◌++◌, length, map, take, get_or, Some, Result, Ok, Err, OnErr, nat_eq, sym, ap, subst, ◌∙◌, arith}
use Rattle.std.specs.List.{slice_get}
use Rattle.std.proofs.lemmas.List.{take_more, map-append}
use Rattle.text_model.specs.Lines.{Adds, spaced, begins_line}
use Rattle.frame_writer.specs.Appending.{Adds-words, Adds-word, Adds-no_words}

-- the last character tells whether a line begins
pub begins_line-last : (text : List ℕ) (last : ℕ) → slice_get text (length text - 1) ≡ Some last → begins_line text ≡ nat_eq last 10
begins_line-last [] last at = cc at
begins_line-last (c ∷ []) last at = let e : c ≡ last = cc at in ap (λ (x : ℕ). nat_eq x 10) e
begins_line-last (c ∷ d ∷ cs) last at =
    let e : length (c ∷ d ∷ cs) - 1 ≡ suc (length (d ∷ cs) - 1) = omega arith in
    begins_line-last (d ∷ cs) last (subst (λ (n : ℕ). slice_get (c ∷ d ∷ cs) n ≡ Some last) e at)

-- one word more of a list of words
pub Adds-one_more : {X : Type 0} (f : X → List ℕ) (xs : List X) (i : ℕ) (d : X) {a b c : List ℕ} → i < length xs → Adds a b (spaced (map f (take i xs))) → Adds b c (32 ∷ f (get_or xs i d)) → Adds a c (spaced (map f (take (i + 1) xs)))
Adds-one_more f xs i d {a} {b} {c} within before word =
    let words = Adds-words (map f (take i xs)) (f (get_or xs i d) ∷ []) before (Adds-word (f (get_or xs i d)) [] word (Adds-no_words c)) in
    let e : map f (take i xs) ++ (f (get_or xs i d) ∷ []) ≡ map f (take (i + 1) xs) = sym (ap (map f) (take_more xs i d within) ∙ map-append f (take i xs) (get_or xs i d ∷ [])) in
    subst (λ (ws : List (List ℕ)). Adds a c (spaced ws)) e words

-- what holds anyway holds after an error
pub on_err : {T E P : Type 0} (result : Result T E) → P → OnErr result P
on_err (Ok x) p = tt
on_err (Err e) p = p
