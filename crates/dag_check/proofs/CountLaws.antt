-- How many patches of a node are still to come.
use Rattle.std.specs.Prelude.{◌≡◌, ℕ, zero, suc, ◌+◌, ◌<◌, ◌≤◌, Bool, true, false, ◌||◌, not, List, [], ◌∷◌, ◌++◌, length, take, drop, nat_lt, slice_get, Some, refl, if◌then◌else◌}
use Rattle.std.specs.List.{list_any}
use Rattle.std.proofs.Common.{sym, ap, ◌∙◌, arith}
use Rattle.std.proofs.lemmas.Bool.{ltb-true}
use Rattle.std.proofs.lemmas.Option.{slice_get_within, get_or_from_slice_get}
use Rattle.std.proofs.lemmas.List.Sums.{sum_by-cons, sum_by-drop_more, sum_by-take-drop}
use Rattle.file_model.specs.declared.fields.PatchField.{PatchField}
use Rattle.file_model.specs.Lists.{BodyLists, triangles_of}
use Rattle.grid_vertex.specs.declared.triangles.Triangle.{Triangle}
use Rattle.mesh_model.specs.Graph.{patches_from, leads_to, leads_from}
use Rattle.mesh_model.specs.Nets.{one_if}
use Rattle.mesh_model.specs.Accepted.{is_inner}
use Rattle.mesh_model.specs.Frames.{triangles_where}
use Rattle.mesh_model.specs.declared.sides.NodeSide.{NodeSide}
use Rattle.mesh_model.specs.declared.sides.NodeSide.TheVariants.{Incoming, Outgoing}
use Rattle.mesh_model.specs.Sides.{is_on}
use Rattle.dag_check.specs.NodeSums.{how_many, Taken, taken_on, taken_both, one_more, to_come}

pub how_many-cons : {X : Type 0} → (test : X → Bool) (x : X) (xs : List X) → how_many test (x ∷ xs) ≡ one_if (test x) + how_many test xs
unfolding how_many
how_many-cons test x xs = sum_by-cons (λ y. one_if (test y)) x xs

pub how_many-drop : {X : Type 0} → (test : X → Bool) (xs : List X) (n : ℕ) (x : X) → slice_get xs n ≡ Some x → how_many test (drop n xs) ≡ one_if (test x) + how_many test (drop (n + 1) xs)
unfolding how_many
how_many-drop test xs n x at =
    sum_by-drop_more (λ y. one_if (test y)) xs n x (slice_get_within xs n x at)
    ∙ ap (λ y. one_if (test y) + how_many test (drop (n + 1) xs)) (get_or_from_slice_get xs n x x at)

pub how_many-split : {X : Type 0} → (test : X → Bool) (xs : List X) (n : ℕ) → how_many test (take n xs) + how_many test (drop n xs) ≡ how_many test xs
unfolding how_many
how_many-split test xs n = sum_by-take-drop (λ y. one_if (test y)) xs n

le_step : (b : Bool) (n m : ℕ) → n ≤ m → one_if b + n ≤ m + 1
le_step true n m h = omega arith
le_step false n m h = omega arith

-- no more pass than there are
pub how_many-le : {X : Type 0} → (test : X → Bool) (xs : List X) → how_many test xs ≤ length xs
unfolding how_many
how_many-le test [] = omega arith
how_many-le test (x ∷ xs) = omega (arith, how_many-cons test x xs, le_step (test x) (how_many test xs) (length xs) (how_many-le test xs))

any_step : (b : Bool) (n : ℕ) → (b || nat_lt 0 n) ≡ nat_lt 0 (one_if b + n)
any_step true n = grind arith
any_step false n = grind arith

-- one passes where the number is above 0
pub any_is : {X : Type 0} → (test : X → Bool) (xs : List X) → list_any test xs ≡ nat_lt 0 (how_many test xs)
unfolding how_many
any_is test [] = refl
any_is test (x ∷ xs) = ap (λ b. test x || b) (any_is test xs) ∙ any_step (test x) (how_many test xs) ∙ ap (λ n. nat_lt 0 n) (sym (how_many-cons test x xs))

pub length_step : (b : Bool) (first : ℕ) (ps : List ℕ) → length (if b then first ∷ ps else ps) ≡ one_if b + length ps
length_step true first ps = omega arith
length_step false first ps = omega arith

-- a node's list of patches has as many
pub length-patches : (first : ℕ) (test : PatchField → Bool) (fields : List PatchField) → length (patches_from first test fields) ≡ how_many test fields
unfolding patches_from how_many
length-patches first test [] = refl
length-patches first test (f ∷ fs) = length_step (test f) first (patches_from (first + 1) test fs) ∙ ap (λ n. one_if (test f) + n) (length-patches (first + 1) test fs) ∙ sym (how_many-cons test f fs)

none_step : (b : Bool) (first rest : List Triangle) (n : ℕ) → one_if b + n ≡ 0 → (n ≡ 0 → rest ≡ []) → (if b then first ++ rest else rest) ≡ []
none_step true first rest n e h = absurd (omega arith)
none_step false first rest n e h = h (omega arith)

-- where no patch passes there are no triangles
pub none_where : (test : PatchField → Bool) (fields : List PatchField) (bodies : List BodyLists) → how_many test fields ≡ 0 → triangles_where test fields bodies ≡ []
unfolding triangles_where
none_where test [] bodies e = refl
none_where test (f ∷ fs) [] e = refl
none_where test (f ∷ fs) (b ∷ bs) e = none_step (test f) (triangles_of b) (triangles_where test fs bs) (how_many test fs) (sym (how_many-cons test f fs) ∙ e) (none_where test fs bs)

-- where none of the others passes the first n have all the triangles
pub all_taken : (n : ℕ) (test : PatchField → Bool) (fields : List PatchField) (bodies : List BodyLists) → how_many test (drop n fields) ≡ 0 → triangles_where test (take n fields) bodies ≡ triangles_where test fields bodies
unfolding triangles_where
all_taken zero test fields bodies e = sym (none_where test fields bodies e)
all_taken (suc n) test [] bodies e = refl
all_taken (suc n) test (f ∷ fs) [] e = refl
all_taken (suc n) test (f ∷ fs) (b ∷ bs) e = ap (λ (r : List Triangle). if test f then triangles_of b ++ r else r) (all_taken n test fs bs e)

-- a body that is taken on a side is no longer to come
pub to_come-step : (side : NodeSide) (fields : List PatchField) (taken : Taken) (v : ℕ) (f : PatchField) → slice_get fields (taken_on side taken) ≡ Some f → to_come fields taken v ≡ one_if (is_on side v f) + to_come fields (one_more side taken) v
to_come-step Incoming fields taken v f at = omega (arith, how_many-drop (is_on Incoming v) fields taken.incoming f at)
to_come-step Outgoing fields taken v f at = omega (arith, how_many-drop (is_on Outgoing v) fields taken.outgoing f at)

-- most are to come at first
pub to_come-le : (fields : List PatchField) (taken : Taken) (v : ℕ) → to_come fields taken v ≤ to_come fields (taken_both 0) v
to_come-le fields taken v =
    omega (arith, how_many-split (is_on Incoming v) fields taken.incoming, how_many-split (is_on Outgoing v) fields taken.outgoing)

inner_step : (a b : Bool) (n m : ℕ) → not (not a || not b) ≡ true → a ≡ nat_lt 0 n → 0 < n + m
inner_step true b n m e h = omega (arith, ltb-true 0 n (sym h))
inner_step false b n m e h = absurd cc

-- an inner node has patches
pub inner_has : (fields : List PatchField) (v : ℕ) → is_inner fields v ≡ true → 0 < to_come fields (taken_both 0) v
inner_has fields v e =
    inner_step (list_any (leads_to v) fields) (list_any (leads_from v) fields) (how_many (is_on Incoming v) fields) (how_many (is_on Outgoing v) fields) e (any_is (leads_to v) fields)
