-- How many bytes are held and come, after each entry of the journal.
use Rattle.std.proofs.Common.{◌≡◌, ℕ, zero, suc, ◌+◌, Bool, true, false, cond, eqb, List, [], ◌∷◌, ◌++◌, replicate, Some, refl, sym, ap, ◌∙◌, arith, inl, inr}
use Rattle.std.specs.Prelude.{slice_get, slice_index, slice_set}
use Rattle.std.proofs.lemmas.Bool.{cond_both, eqb-true, or_cases, false≢true}
use Rattle.std.proofs.lemmas.Option.{same_Some}
use Rattle.tier_model.specs.declared.turns.Turn.TheVariants.{Reserve, Evict, Got, Lost, Commit}
use Rattle.tier_model.specs.declared.turns.Coming.{Coming}
use Rattle.tier_model.specs.Places.{Places, bare, full, is_coming, AreApart, with_body, without, marked_bytes, coming_bytes, load_of, after}
use Rattle.tier_laws.specs.ComingLaws.{gone_away}

-- ---- the marked patches

first_mark : (m n : Bool) (x : ℕ) → Some m ≡ Some n → cond m x 0 ≡ cond n x 0
first_mark m n x same = ap (λ (b : Bool). cond b x 0) (same_Some m n same)

pub marked_more : (sizes : List ℕ) (marks : List Bool) (p : ℕ) → slice_get marks p ≡ Some false → marked_bytes sizes (slice_set marks p true) ≡ marked_bytes sizes marks + slice_index sizes p
unfolding marked_bytes
marked_more [] marks p unmarked = refl
marked_more (n ∷ ns) [] p unmarked = absurd (cc)
marked_more (n ∷ ns) (m ∷ ms) zero unmarked = let none = first_mark m false n unmarked in omega arith
marked_more (n ∷ ns) (m ∷ ms) (suc p) unmarked = let rest = marked_more ns ms p unmarked in omega arith

pub marked_fewer : (sizes : List ℕ) (marks : List Bool) (p : ℕ) → slice_get marks p ≡ Some true → marked_bytes sizes (slice_set marks p false) + slice_index sizes p ≡ marked_bytes sizes marks
unfolding marked_bytes
marked_fewer [] marks p marked = refl
marked_fewer (n ∷ ns) [] p marked = absurd (cc)
marked_fewer (n ∷ ns) (m ∷ ms) zero marked = let one = first_mark m true n marked in omega arith
marked_fewer (n ∷ ns) (m ∷ ms) (suc p) marked = let rest = marked_fewer ns ms p marked in omega arith

pub marked_none : (sizes : List ℕ) (n : ℕ) → marked_bytes sizes (replicate n false) ≡ 0
unfolding marked_bytes
marked_none [] n = refl
marked_none (x ∷ xs) zero = refl
marked_none (x ∷ xs) (suc n) = let rest = marked_none xs n in omega arith

-- ---- the patches that come

pub coming_more : (sizes : List ℕ) (cs : List Coming) (p : ℕ) → coming_bytes sizes (cs ++ bare p ∷ []) ≡ coming_bytes sizes cs + slice_index sizes p
unfolding coming_bytes
coming_more sizes [] p = omega arith
coming_more sizes (c ∷ cs) p = let rest = coming_more sizes cs p in omega arith

pub coming_with_body : (sizes : List ℕ) (p : ℕ) (cs : List Coming) → coming_bytes sizes (with_body p cs) ≡ coming_bytes sizes cs
unfolding coming_bytes with_body
coming_with_body sizes p [] = refl
coming_with_body sizes p (c ∷ cs) =
    cond_both (eqb c.patch p) (full p) c (λ (d : Coming). slice_index sizes d.patch + coming_bytes sizes (with_body p cs) ≡ slice_index sizes c.patch + coming_bytes sizes cs)
    (λ is. let rest = coming_with_body sizes p cs in let same = ap (slice_index sizes) (eqb-true c.patch p is) in omega arith)
    (λ never. let rest = coming_with_body sizes p cs in omega arith)

pub coming_fewer : (sizes : List ℕ) (p : ℕ) (cs : List Coming) → AreApart cs → is_coming cs p ≡ true → coming_bytes sizes (without p cs) + slice_index sizes p ≡ coming_bytes sizes cs
unfolding coming_bytes without AreApart is_coming
coming_fewer sizes p [] apart comes = absurd (false≢true comes)
coming_fewer sizes p (c ∷ cs) apart comes =
    cond_both (eqb c.patch p) (without p cs) (c ∷ without p cs) (λ (ds : List Coming). coming_bytes sizes ds + slice_index sizes p ≡ slice_index sizes c.patch + coming_bytes sizes cs)
    (λ is. let same = eqb-true c.patch p is in let size = ap (slice_index sizes) same in let gone = ap (coming_bytes sizes) (gone_away p cs (ap (is_coming cs) (sym same) ∙ apart.0)) in omega arith)
    (λ never. elim (or_cases (eqb c.patch p) (is_coming cs p) comes) [
      | inl is ↦ absurd (cc)
      | inr later ↦ let rest = coming_fewer sizes p cs apart.1 later in omega arith
    ])

-- ---- the load after an entry

pub load-reserve : (sizes : List ℕ) (a : Places) (p : ℕ) → load_of sizes (after a (Reserve p)) ≡ load_of sizes a + slice_index sizes p
unfolding load_of after
load-reserve sizes a p = let more = coming_more sizes a.coming p in omega arith

pub load-got : (sizes : List ℕ) (a : Places) (p : ℕ) → load_of sizes (after a (Got p)) ≡ load_of sizes a
unfolding load_of after
load-got sizes a p = let same = coming_with_body sizes p a.coming in omega arith

pub load-lost : (sizes : List ℕ) (a : Places) (p : ℕ) → AreApart a.coming → is_coming a.coming p ≡ true → load_of sizes (after a (Lost p)) + slice_index sizes p ≡ load_of sizes a
unfolding load_of after
load-lost sizes a p apart comes = let fewer = coming_fewer sizes p a.coming apart comes in omega arith

pub load-commit : (sizes : List ℕ) (a : Places) (p : ℕ) → AreApart a.coming → is_coming a.coming p ≡ true → slice_get a.held p ≡ Some false → load_of sizes (after a (Commit p)) ≡ load_of sizes a
unfolding load_of after
load-commit sizes a p apart comes away = let fewer = coming_fewer sizes p a.coming apart comes in let more = marked_more sizes a.held p away in omega arith

pub load-evict : (sizes : List ℕ) (a : Places) (p : ℕ) → slice_get a.held p ≡ Some true → load_of sizes (after a (Evict p)) + slice_index sizes p ≡ load_of sizes a
unfolding load_of after
load-evict sizes a p held = let fewer = marked_fewer sizes a.held p held in omega arith
