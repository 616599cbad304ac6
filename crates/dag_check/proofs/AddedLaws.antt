-- The triangles of one more patch.
use Rattle.std.specs.Prelude.{◌≡◌, ℕ, zero, suc, Bool, true, false, List, [], ◌∷◌, ◌++◌, slice_get, Some, refl, if◌then◌else◌}
use Rattle.std.proofs.Common.{rules, subst, sym, ap, ◌∙◌, append_assoc}
use Rattle.grid_vertex.specs.declared.triangles.Triangle.{Triangle}
use Rattle.file_model.specs.declared.fields.PatchField.{PatchField}
use Rattle.file_model.specs.Lists.{BodyLists, triangles_of}
use Rattle.mesh_model.specs.Frames.{triangles_where}
use Rattle.edge_chain.specs.Chains.{Chain, IsNetOf}
use Rattle.dag_check.specs.Added.{first_triangles, only_if}

step_by : (test : Bool) (first rest more : List Triangle) → (if test then first ++ (rest ++ more) else rest ++ more) ≡ (if test then first ++ rest else rest) ++ more
step_by true first rest more = sym (append_assoc first rest more)
step_by false first rest more = refl

cong_if : (test : Bool) (first a b : List Triangle) → a ≡ b → (if test then first ++ a else a) ≡ (if test then first ++ b else b)
cong_if test first a b e = ap (λ r. if test then first ++ r else r) e

one_more : (test : Bool) (first : List Triangle) → (if test then first ++ [] else []) ≡ (if test then first else [])
one_more true first = search rules
one_more false first = refl

-- the first n + 1 patches have the triangles of the first n, and those of patch n where it passes the test
pub first_triangles-suc : (n : ℕ) (test : PatchField → Bool) (fields : List PatchField) (bodies : List BodyLists) (f : PatchField) (b : BodyLists) → slice_get fields n ≡ Some f → slice_get bodies n ≡ Some b → first_triangles (suc n) test fields bodies ≡ first_triangles n test fields bodies ++ only_if (test f) b
unfolding triangles_where
first_triangles-suc n test [] bodies f b e h = absurd cc
first_triangles-suc n test (g ∷ fs) [] f b e h = absurd cc
first_triangles-suc zero test (g ∷ fs) (c ∷ bs) f b e h =
    let same_f : g ≡ f = cc in
    let same_b : c ≡ b = cc in
    one_more (test g) (triangles_of c) ∙ ap (λ (x : PatchField). only_if (test x) c) same_f ∙ ap (λ (x : BodyLists). only_if (test f) x) same_b
first_triangles-suc (suc n) test (g ∷ fs) (c ∷ bs) f b e h =
    cong_if (test g) (triangles_of c) _ _ (first_triangles-suc n test fs bs f b e h) ∙ step_by (test g) (triangles_of c) (first_triangles n test fs bs) (only_if (test f) b)

-- of no patch there are none
pub first_triangles-zero : (test : PatchField → Bool) (fields : List PatchField) (bodies : List BodyLists) → first_triangles 0 test fields bodies ≡ []
unfolding triangles_where
first_triangles-zero test fields bodies = refl

-- a chain of one list is a chain of an equal one
pub along : {first second : List Triangle} {chain : Chain} → first ≡ second → IsNetOf first chain → IsNetOf second chain
along {chain = chain} e h = subst (λ (ts : List Triangle). IsNetOf ts chain) e h
