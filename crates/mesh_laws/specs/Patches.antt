-- The patches that pass a test, and their triangles: tests that agree choose the same, and a test that
-- splits in two splits the net.
use Rattle.std.proofs.Common.{◌≡◌, ℕ, ◌+◌, Bool, true, false, cond, List, [], ◌∷◌, ◌++◌, refl, ap, ◌∙◌, arith}
use Rattle.std.specs.Prelude.{pos, ◌+ℤ◌}
use Rattle.std.specs.List.{AllByRecursion}
use Rattle.std.proofs.lemmas.Int.{ints}
use Rattle.grid_vertex.specs.declared.points.Point.{Point}
use Rattle.grid_vertex.specs.declared.triangles.Triangle.{Triangle}
use Rattle.file_model.specs.declared.fields.PatchField.{PatchField}
use Rattle.file_model.specs.Lists.{BodyLists, triangles_of}
use Rattle.mesh_model.specs.Graph.{patches_from}
use Rattle.mesh_model.specs.Nets.{one_if, times, net}
use Rattle.mesh_model.specs.NetLaws.{times-append}
use Rattle.mesh_model.specs.Frames.{triangles_where}

-- ---- tests that agree

pub triangles_same : (p q : PatchField → Bool) (fields : List PatchField) (bodies : List BodyLists) → AllByRecursion (λ f. p f ≡ q f) fields → triangles_where p fields bodies ≡ triangles_where q fields bodies
unfolding triangles_where
triangles_same p q [] bodies h = refl
triangles_same p q (f ∷ fs) [] h = refl
triangles_same p q (f ∷ fs) (b ∷ bs) h =
    ap (λ (t : Bool). cond t (triangles_of b ++ triangles_where p fs bs) (triangles_where p fs bs)) h.0
    ∙ ap (λ (ts : List Triangle). cond (q f) (triangles_of b ++ ts) ts) (triangles_same p q fs bs h.1)

pub patches_same : (p q : PatchField → Bool) (first : ℕ) (fields : List PatchField) → AllByRecursion (λ f. p f ≡ q f) fields → patches_from first p fields ≡ patches_from first q fields
unfolding patches_from
patches_same p q first [] h = refl
patches_same p q first (f ∷ fs) h =
    ap (λ (t : Bool). cond t (first ∷ patches_from (first + 1) p fs) (patches_from (first + 1) p fs)) h.0
    ∙ ap (λ (ps : List ℕ). cond (q f) (first ∷ ps) ps) (patches_same p q (first + 1) fs h.1)

pub triangles_none : (p : PatchField → Bool) (fields : List PatchField) (bodies : List BodyLists) → AllByRecursion (λ f. p f ≡ false) fields → triangles_where p fields bodies ≡ []
unfolding triangles_where
triangles_none p [] bodies h = refl
triangles_none p (f ∷ fs) [] h = refl
triangles_none p (f ∷ fs) (b ∷ bs) h =
    ap (λ (t : Bool). cond t (triangles_of b ++ triangles_where p fs bs) (triangles_where p fs bs)) h.0 ∙ triangles_none p fs bs h.1

-- ---- a test that splits in two

-- where the first test passes, exactly one of the others does, and elsewhere none
abbrev pub Splits : (PatchField → Bool) → (PatchField → Bool) → (PatchField → Bool) → PatchField → Type 0
Splits p q r f = one_if (p f) ≡ one_if (q f) + one_if (r f)

times_step : (p q r : Bool) (ts ps qs rs : List Triangle) (a b : Point) → one_if p ≡ one_if q + one_if r → times ps a b ≡ times qs a b + times rs a b → times (cond p (ts ++ ps) ps) a b ≡ times (cond q (ts ++ qs) qs) a b + times (cond r (ts ++ rs) rs) a b
times_step true true true ts ps qs rs a b h e = absurd (omega arith)
times_step true true false ts ps qs rs a b h e = omega (arith, times-append ts ps a b, times-append ts qs a b)
times_step true false true ts ps qs rs a b h e = omega (arith, times-append ts ps a b, times-append ts rs a b)
times_step true false false ts ps qs rs a b h e = absurd (omega arith)
times_step false true true ts ps qs rs a b h e = absurd (omega arith)
times_step false true false ts ps qs rs a b h e = absurd (omega arith)
times_step false false true ts ps qs rs a b h e = absurd (omega arith)
times_step false false false ts ps qs rs a b h e = e

times_split : (p q r : PatchField → Bool) (fields : List PatchField) (bodies : List BodyLists) (a b : Point) → AllByRecursion (Splits p q r) fields → times (triangles_where p fields bodies) a b ≡ times (triangles_where q fields bodies) a b + times (triangles_where r fields bodies) a b
unfolding triangles_where
times_split p q r [] bodies a b h = times-append [] [] a b
times_split p q r (f ∷ fs) [] a b h = times-append [] [] a b
times_split p q r (f ∷ fs) (c ∷ cs) a b h =
    times_step (p f) (q f) (r f) (triangles_of c) (triangles_where p fs cs) (triangles_where q fs cs) (triangles_where r fs cs) a b h.0 (times_split p q r fs cs a b h.1)

pub net_split : (p q r : PatchField → Bool) (fields : List PatchField) (bodies : List BodyLists) (a b : Point) → AllByRecursion (Splits p q r) fields → net (triangles_where p fields bodies) a b ≡ net (triangles_where q fields bodies) a b +ℤ net (triangles_where r fields bodies) a b
unfolding net
net_split p q r fields bodies a b h = omega (arith, ints, times_split p q r fields bodies a b h, times_split p q r fields bodies b a h)

pub net_none : (p : PatchField → Bool) (fields : List PatchField) (bodies : List BodyLists) (a b : Point) → AllByRecursion (λ f. p f ≡ false) fields → net (triangles_where p fields bodies) a b ≡ pos 0
unfolding net times
net_none p fields bodies a b h = ap (λ (ts : List Triangle). net ts a b) (triangles_none p fields bodies h)
