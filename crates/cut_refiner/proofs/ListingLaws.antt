-- Lists of the nodes and patches that pass a test, one by one.
use Rattle.std.proofs.Common.{◌≡◌, ℕ, zero, suc, ◌+◌, ◌<◌, ◌≤◌, Bool, true, false, cond, List, [], ◌∷◌, ◌++◌, length, take, get_or, refl, sym, ap, ◌∙◌, arith}
use Rattle.std.proofs.lemmas.Bool.{cond_both}
use Rattle.std.proofs.lemmas.List.{append-nil, take_more, length-take-le}
use Rattle.file_model.specs.declared.fields.PatchField.{PatchField}
use Rattle.mesh_model.specs.Graph.{numbers_from, nodes_where, patches_from, patches_where}

-- the number where the test passes, else nothing
abbrev pub one_where : Bool → ℕ → List ℕ
one_where t v = cond t (v ∷ []) []

first_apart : (t : Bool) (x : ℕ) (us vs : List ℕ) → cond t (x ∷ (us ++ vs)) (us ++ vs) ≡ cond t (x ∷ us) us ++ vs
first_apart true x us vs = refl
first_apart false x us vs = refl

numbers_last : (test : ℕ → Bool) (n first : ℕ) → numbers_from first (suc n) test ≡ numbers_from first n test ++ one_where (test (first + n)) (first + n)
unfolding numbers_from
numbers_last test zero first = let same : first ≡ first + 0 = omega arith in ap (λ v. one_where (test v) v) same
numbers_last test (suc n) first =
    let same : first + 1 + n ≡ first + suc n = omega arith in
    let rest = numbers_last test n (first + 1) ∙ ap (λ v. numbers_from (first + 1) n test ++ one_where (test v) v) same in
    ap (λ (vs : List ℕ). cond (test first) (first ∷ vs) vs) rest ∙ first_apart (test first) first (numbers_from (first + 1) n test) (one_where (test (first + suc n)) (first + suc n))

patches_last : (test : PatchField → Bool) (fs : List PatchField) (f : PatchField) (first : ℕ) → patches_from first test (fs ++ f ∷ []) ≡ patches_from first test fs ++ one_where (test f) (first + length fs)
unfolding patches_from
patches_last test [] f first = let same : first ≡ first + 0 = omega arith in ap (λ v. one_where (test f) v) same
patches_last test (g ∷ gs) f first =
    let same : first + 1 + length gs ≡ first + suc (length gs) = omega arith in
    let rest = patches_last test gs f (first + 1) ∙ ap (λ v. patches_from (first + 1) test gs ++ one_where (test f) v) same in
    ap (λ (vs : List ℕ). cond (test g) (first ∷ vs) vs) rest ∙ first_apart (test g) first (patches_from (first + 1) test gs) (one_where (test f) (first + suc (length gs)))

-- ---- one more is looked at

pub added : (t : Bool) (v : ℕ) (old new : List ℕ) → t ≡ true → new ≡ old ++ v ∷ [] → new ≡ old ++ one_where t v
added t v old new passes is = is ∙ ap (λ (b : Bool). old ++ one_where b v) (sym passes)

pub left_out : (t : Bool) (v : ℕ) (old new : List ℕ) → t ≡ false → new ≡ old → new ≡ old ++ one_where t v
left_out t v old new fails is = is ∙ sym (append-nil old) ∙ ap (λ (b : Bool). old ++ one_where b v) (sym fails)

pub nodes_more : (test : ℕ → Bool) (n : ℕ) (old new : List ℕ) → old ≡ nodes_where n test → new ≡ old ++ one_where (test n) n → new ≡ nodes_where (n + 1) test
nodes_more test n old new before now_is =
    let start : 0 + n ≡ n = omega arith in
    let next : suc n ≡ n + 1 = omega arith in
    now_is ∙ ap (λ (vs : List ℕ). vs ++ one_where (test n) n) before ∙ sym (numbers_last test n 0 ∙ ap (λ v. numbers_from 0 n test ++ one_where (test v) v) start) ∙ ap (λ k. numbers_from 0 k test) next

pub patches_more : (test : PatchField → Bool) (fields : List PatchField) (n : ℕ) (d : PatchField) (old new : List ℕ) → n < length fields → old ≡ patches_where test (take n fields) → new ≡ old ++ one_where (test (get_or fields n d)) n → new ≡ patches_where test (take (n + 1) fields)
patches_more test fields n d old new within before now_is =
    let f = get_or fields n d in
    let start : 0 + length (take n fields) ≡ n = omega (arith, length-take-le n fields (omega arith)) in
    now_is ∙ ap (λ (vs : List ℕ). vs ++ one_where (test f) n) before
    ∙ sym (patches_last test (take n fields) f 0 ∙ ap (λ v. patches_from 0 test (take n fields) ++ one_where (test f) v) start)
    ∙ ap (λ (fs : List PatchField). patches_from 0 test fs) (sym (take_more fields n d within))

-- ---- how many they are

pub few_numbers : (test : ℕ → Bool) (n first : ℕ) → length (numbers_from first n test) ≤ n
unfolding numbers_from
few_numbers test zero first = omega arith
few_numbers test (suc n) first =
    let rest = few_numbers test n (first + 1) in
    cond_both (test first) (first ∷ numbers_from (first + 1) n test) (numbers_from (first + 1) n test) (λ (vs : List ℕ). length vs ≤ suc n) (λ passes. omega arith) (λ fails. omega arith)

pub no_nodes : (test : ℕ → Bool) → nodes_where 0 test ≡ []
unfolding numbers_from
no_nodes test = refl

pub no_patches : (test : PatchField → Bool) → patches_where test [] ≡ []
unfolding patches_from
no_patches test = refl
