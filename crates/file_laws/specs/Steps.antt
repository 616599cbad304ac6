-- A reading that ends well went well at each step, and what it took from the front is spelled as it says.
use Rattle.std.proofs.Common.{◌≡◌, ℕ, zero, suc, ◌+◌, ◌≤◌, Bool, true, false, not, cond, ◌&&◌, List, [], ◌∷◌, ◌++◌, length, take, drop, Result, Ok, Err, refl, sym, ap, subst, ◌∙◌, append_assoc, arith}
use Rattle.std.specs.Prelude.{IsTrue}
use Rattle.std.specs.List.{flat_map, list_all}
use Rattle.std.proofs.lemmas.Bool.{and_parts, and_from}
use Rattle.std.proofs.lemmas.List.{take-append-drop, append-nil, length-append, nil_from_length}
use Rattle.std.proofs.lemmas.List.Concat.{flat_map-cons}
use Rattle.file_model.specs.declared.faults.FileFault.{FileFault}
use Rattle.file_model.specs.Reading.{◌>>=◌, many_at}
use Rattle.file_laws.specs.Numbers.{IsBytes, IsBytes-drop}

-- ---- one step

-- the value of a step that did not fail
pub step_ok : {A B : Type 0} (r : Result A FileFault) (f : A → Result B FileFault) (y : B) → (r >>= f) ≡ Ok y → (x : A) × (r ≡ Ok x) × (f x ≡ Ok y)
step_ok (Ok x) f y e = (x, refl, e)
step_ok (Err fault) f y e = absurd cc

-- a fault's test that did not find it
pub test_ok : {A : Type 0} (b : Bool) (fault : FileFault) (r : Result A FileFault) (y : A) → cond b (Err fault) r ≡ Ok y → (b ≡ false) × (r ≡ Ok y)
test_ok true fault r y e = absurd cc
test_ok false fault r y e = (refl, e)

-- a rule that was met
pub rule_ok : {A : Type 0} (b : Bool) (fault : FileFault) (r : Result A FileFault) (y : A) → cond (not b) (Err fault) r ≡ Ok y → IsTrue b × (r ≡ Ok y)
rule_ok true fault r y e = (refl, e)
rule_ok false fault r y e = absurd cc

-- a last test that was met
pub last_ok : {A : Type 0} (b : Bool) (fault : FileFault) (x y : A) → cond b (Ok x) (Err fault) ≡ Ok y → IsTrue b
last_ok true fault x y e = refl
last_ok false fault x y e = absurd cc

-- a reading that ended well
abbrev pub done : {A : Type 0} → A → Result A FileFault
done x = Ok x

pub ok_is : {A : Type 0} (x y : A) → done x ≡ done y → x ≡ y
ok_is x y e = cc

-- ---- what a reader took from the front

-- the bytes begin with the text, and the rest follows it
pub record Takes (bytes text rest : List ℕ) : Type 0 where
  pub parts : bytes ≡ text ++ rest
  pub rest_fits : IsBytes rest

pub Takes-then : (a x b y c : List ℕ) → Takes a x b → Takes b y c → Takes a (x ++ y) c
Takes-then a x b y c p q = record { parts = p.parts ∙ ap (λ (t : List ℕ). x ++ t) q.parts ∙ sym (append_assoc x y c); rest_fits = q.rest_fits }

-- the first n bytes are the text
pub Takes-front : (n : ℕ) (bytes text : List ℕ) → IsBytes bytes → text ≡ take n bytes → Takes bytes text (drop n bytes)
Takes-front n bytes text fits e = record { parts = sym (take-append-drop n bytes) ∙ ap (λ (t : List ℕ). t ++ drop n bytes) (sym e); rest_fits = IsBytes-drop n bytes fits }

-- a list that is no longer than its front is the front
pub front_is_all : (bytes front rest : List ℕ) → bytes ≡ front ++ rest → length bytes ≤ length front → bytes ≡ front
front_is_all bytes front rest e short =
    let nothing : rest ≡ [] = nil_from_length rest (omega (arith, ap length e, length-append front rest)) in
    e ∙ ap (λ (t : List ℕ). front ++ t) nothing ∙ append-nil front

-- ---- tests of all items

pub all_weaken : {X : Type 0} (p q : X → Bool) → ((x : X) → IsTrue (p x) → IsTrue (q x)) → (xs : List X) → IsTrue (list_all p xs) → IsTrue (list_all q xs)
all_weaken p q step [] h = refl
all_weaken p q step (x ∷ xs) h =
    let parts = and_parts (p x) (list_all p xs) h in
    and_from (q x) (list_all q xs) (step x parts.0) (all_weaken p q step xs parts.1)

pub all_both : {X : Type 0} (p q : X → Bool) (xs : List X) → IsTrue (list_all p xs) → IsTrue (list_all q xs) → IsTrue (list_all (λ x. p x && q x) xs)
all_both p q [] h k = refl
all_both p q (x ∷ xs) h k =
    let hs = and_parts (p x) (list_all p xs) h in
    let ks = and_parts (q x) (list_all q xs) k in
    and_from (p x && q x) (list_all (λ y. p y && q y) xs) (and_from (p x) (q x) hs.0 ks.0) (all_both p q xs hs.1 ks.1)

pub all_left : {X : Type 0} (p q : X → Bool) (xs : List X) → IsTrue (list_all (λ x. p x && q x) xs) → IsTrue (list_all p xs)
all_left p q xs h = all_weaken (λ x. p x && q x) p (λ x k. (and_parts (p x) (q x) k).0) xs h

pub all_right : {X : Type 0} (p q : X → Bool) (xs : List X) → IsTrue (list_all (λ x. p x && q x) xs) → IsTrue (list_all q xs)
all_right p q xs h = all_weaken (λ x. p x && q x) q (λ x k. (and_parts (p x) (q x) k).1) xs h

-- ---- many units one after the other

-- a unit that was read is spelled so and passes the test
abbrev pub UnitTakes : {A : Type 0} → (ℕ → List ℕ → Result (A × List ℕ) FileFault) → (A → List ℕ) → (A → Bool) → Type 0
UnitTakes {A} unit text passes = (k : ℕ) (bytes : List ℕ) (x : A × List ℕ) → IsBytes bytes → unit k bytes ≡ Ok x → Takes bytes (text x.0) x.1 × IsTrue (passes x.0)

-- a spelled unit that passes the test is read
abbrev pub UnitAgain : {A : Type 0} → (ℕ → List ℕ → Result (A × List ℕ) FileFault) → (A → List ℕ) → (A → Bool) → Type 0
UnitAgain {A} unit text passes = (k : ℕ) (x : A) (rest : List ℕ) → IsTrue (passes x) → unit k (text x ++ rest) ≡ Ok (x, rest)

-- what many units of one kind took
pub record TakesMany {A : Type 0} (text : A → List ℕ) (passes : A → Bool) (n : ℕ) (bytes : List ℕ) (x : List A × List ℕ) : Type 0 where
  pub takes : Takes bytes (flat_map text x.0) x.1
  pub count : length x.0 ≡ n
  pub pass : IsTrue (list_all passes x.0)

pub many_take : {A : Type 0} (unit : ℕ → List ℕ → Result (A × List ℕ) FileFault) (text : A → List ℕ) (passes : A → Bool) → UnitTakes unit text passes
    → (n k : ℕ) (bytes : List ℕ) (x : List A × List ℕ) → IsBytes bytes → many_at unit n k bytes ≡ Ok x → TakesMany text passes n bytes x
unfolding many_at
many_take {A = A} unit text passes takes zero k bytes x fits e =
    let nothing : List A × List ℕ = ([], bytes) in
    subst (TakesMany text passes 0 bytes) (ok_is nothing x e) (record { takes = record { parts = refl; rest_fits = fits }; count = refl; pass = refl })
many_take {A = A} unit text passes takes (suc n) k bytes x fits e =
    let a = step_ok (unit k bytes) (λ first. many_at unit n (k + 1) first.1 >>= λ others. Ok (first.0 ∷ others.0, others.1)) x e in
    let b = step_ok (many_at unit n (k + 1) a.0.1) (λ others. Ok (a.0.0 ∷ others.0, others.1)) x a.2 in
    let first = takes k bytes a.0 fits a.1 in
    let others = many_take unit text passes takes n (k + 1) a.0.1 b.0 first.0.rest_fits b.1 in
    let made : List A × List ℕ = (a.0.0 ∷ b.0.0, b.0.1) in
    subst (TakesMany text passes (suc n) bytes) (ok_is made x b.2) (record {
      takes = rw flat_map-cons (Takes-then bytes (text a.0.0) a.0.1 (flat_map text b.0.0) b.0.1 first.0 others.takes);
      count = ap suc others.count;
      pass = and_from (passes a.0.0) (list_all passes b.0.0) first.1 others.pass;
    })

pub many_again : {A : Type 0} (unit : ℕ → List ℕ → Result (A × List ℕ) FileFault) (text : A → List ℕ) (passes : A → Bool) → UnitAgain unit text passes
    → (k : ℕ) (xs : List A) (rest : List ℕ) → IsTrue (list_all passes xs) → many_at unit (length xs) k (flat_map text xs ++ rest) ≡ Ok (xs, rest)
unfolding many_at
many_again unit text passes again k [] rest h = refl
many_again unit text passes again k (x ∷ xs) rest h =
    let parts = and_parts (passes x) (list_all passes xs) h in
    let regrouped : flat_map text (x ∷ xs) ++ rest ≡ text x ++ (flat_map text xs ++ rest) = append_assoc (text x) (flat_map text xs) rest in
    ap (many_at unit (suc (length xs)) k) regrouped ∙ rw (again k x (flat_map text xs ++ rest) parts.0, many_again unit text passes again (k + 1) xs rest parts.1) refl
