-- The patches that lead from a node: which they are, and that each stands once.
use Rattle.std.proofs.Common.{◌≡◌, ℕ, zero, suc, ◌+◌, ◌<◌, Bool, true, false, eqb, List, [], ◌∷◌, ◌++◌, length, Some, refl, sym, ap, subst, ◌∙◌, arith, inl, inr}
use Rattle.std.specs.Prelude.{slice_get}
use Rattle.std.specs.Option.{option_map_or}
use Rattle.std.proofs.lemmas.Bool.{cond_both, or_cases, or_left, or_parts, eqb-true, eq-eqb, ne_eqb}
use Rattle.std.proofs.lemmas.Option.{slice_get_within}
use Rattle.file_model.specs.declared.fields.PatchField.{PatchField}
use Rattle.mesh_model.specs.Graph.{leads_from, patches_from, outgoing}
use Rattle.round_laws.specs.Among.{is_among, among_both, middle_among}

-- the patch is one of the list, and its field passes the test
abbrev pub passes_at : (PatchField → Bool) → List PatchField → ℕ → Bool
passes_at test fields p = option_map_or test (slice_get fields p) false

-- the patch leads from the node
abbrev pub is_from : List PatchField → ℕ → ℕ → Bool
is_from fields v p = passes_at (leads_from v) fields p

-- ---- the patches that pass are those that are listed

below_none : (test : PatchField → Bool) (first p : ℕ) (fields : List PatchField) → p < first → is_among (patches_from first test fields) p ≡ false
unfolding patches_from
below_none test first p [] less = refl
below_none test first p (f ∷ fs) less =
    let rest = below_none test (first + 1) p fs (omega arith) in
    let apart : eqb first p ≡ false = ne_eqb first p (λ same. omega arith) in
    cond_both (test f) (first ∷ patches_from (first + 1) test fs) (patches_from (first + 1) test fs) (λ (ps : List ℕ). is_among ps p ≡ false)
    (λ passes. rw apart rest)
    (λ fails. rest)

among_from : (test : PatchField → Bool) (first k p : ℕ) (fields : List PatchField) → p ≡ first + k → is_among (patches_from first test fields) p ≡ passes_at test fields k
unfolding patches_from
among_from test first k p [] is = refl
among_from test first zero p (f ∷ fs) is =
    let same : eqb first p ≡ true = eq-eqb first p (omega arith) in
    let none = below_none test (first + 1) p fs (omega arith) in
    cond_both (test f) (first ∷ patches_from (first + 1) test fs) (patches_from (first + 1) test fs) (λ (ps : List ℕ). is_among ps p ≡ test f)
    (λ passes. or_left (eqb first p) (is_among (patches_from (first + 1) test fs) p) same ∙ sym passes)
    (λ fails. none ∙ sym fails)
among_from test first (suc k) p (f ∷ fs) is =
    let apart : eqb first p ≡ false = ne_eqb first p (λ same. omega arith) in
    let rest = among_from test (first + 1) k p fs (omega arith) in
    cond_both (test f) (first ∷ patches_from (first + 1) test fs) (patches_from (first + 1) test fs) (λ (ps : List ℕ). is_among ps p ≡ passes_at test fs k)
    (λ passes. rw apart rest)
    (λ fails. rest)

pub among_passing : (test : PatchField → Bool) (fields : List PatchField) (p : ℕ) → is_among (patches_from 0 test fields) p ≡ passes_at test fields p
among_passing test fields p = among_from test 0 p p fields (omega arith)

pub among_outgoing : (fields : List PatchField) (v p : ℕ) → is_among (outgoing fields v) p ≡ is_from fields v p
among_outgoing fields v p = among_passing (leads_from v) fields p

-- a patch leads from its tail alone
pub from_tail : (fields : List PatchField) (v p : ℕ) (f : PatchField) → slice_get fields p ≡ Some f → is_from fields v p ≡ true → f.tail ≡ v
from_tail fields v p f here is = eqb-true f.tail v (sym (ap (λ o. option_map_or (leads_from v) o false) here) ∙ is)

pub is_from_tail : (fields : List PatchField) (p : ℕ) (f : PatchField) → slice_get fields p ≡ Some f → is_from fields f.tail p ≡ true
is_from_tail fields p f here = ap (λ o. option_map_or (leads_from f.tail) o false) here ∙ eq-eqb f.tail f.tail refl

-- a patch that passes, with its field
pub record IsPassing (test : PatchField → Bool) (fields : List PatchField) (p : ℕ) : Type 0 where
  pub field : PatchField
  pub there : slice_get fields p ≡ Some field
  pub passes : test field ≡ true

pub passing_at : (test : PatchField → Bool) (fields : List PatchField) (p : ℕ) → passes_at test fields p ≡ true → IsPassing test fields p
passing_at test [] p is = absurd (cc)
passing_at test (f ∷ fs) zero is = record { field = f; there = refl; passes = is }
passing_at test (f ∷ fs) (suc p) is = let rest = passing_at test fs p is in record { field = rest.field; there = rest.there; passes = rest.passes }

pub one_tail : (fields : List PatchField) (u v p : ℕ) → is_from fields u p ≡ true → is_from fields v p ≡ true → u ≡ v
one_tail fields u v p of_u of_v = let is = passing_at (leads_from u) fields p of_u in sym (from_tail fields u p is.field is.there of_u) ∙ from_tail fields v p is.field is.there of_v

pub from_within : (fields : List PatchField) (v p : ℕ) → is_from fields v p ≡ true → p < length fields
from_within fields v p from = let is = passing_at (leads_from v) fields p from in slice_get_within fields p is.field is.there

-- ---- each stands once

-- no number stands twice
abbrev pub AreApart : List ℕ → Type 0
AreApart [] = Unit {0}
AreApart (v ∷ vs) = (is_among vs v ≡ false) × AreApart vs

listed_apart : (test : PatchField → Bool) (first : ℕ) (fields : List PatchField) → AreApart (patches_from first test fields)
unfolding patches_from
listed_apart test first [] = tt
listed_apart test first (f ∷ fs) =
    let rest = listed_apart test (first + 1) fs in
    cond_both (test f) (first ∷ patches_from (first + 1) test fs) (patches_from (first + 1) test fs) AreApart
    (λ passes. (below_none test (first + 1) first fs (omega arith), rest))
    (λ fails. rest)

pub outgoing_apart : (fields : List PatchField) (v : ℕ) → AreApart (outgoing fields v)
outgoing_apart fields v = listed_apart (leads_from v) 0 fields

-- a number in the middle isn't in front
pub not_in_front : (us vs : List ℕ) (v : ℕ) → AreApart (us ++ v ∷ vs) → is_among us v ≡ false
not_in_front [] vs v apart = refl
not_in_front (u ∷ us) vs v apart =
    let parts = or_parts (is_among us u) (is_among (v ∷ vs) u) (sym (among_both us (v ∷ vs) u) ∙ apart.0) in
    let first = or_parts (eqb v u) (is_among vs u) parts.1 in
    let rest = not_in_front us vs v apart.1 in
    rw (ne_eqb u v (λ same. absurd (let t = eq-eqb v u (sym same) in let f = first.0 in cc))) rest

-- nor behind
pub not_behind : (us vs : List ℕ) (v : ℕ) → AreApart (us ++ v ∷ vs) → is_among vs v ≡ false
not_behind [] vs v apart = apart.0
not_behind (u ∷ us) vs v apart = not_behind us vs v apart.1

-- what is in front isn't behind
pub front_not_behind : (us vs : List ℕ) (v : ℕ) → AreApart (us ++ vs) → is_among us v ≡ true → is_among vs v ≡ false
front_not_behind [] vs v apart there = absurd (cc)
front_not_behind (u ∷ us) vs v apart there =
    elim (or_cases (eqb u v) (is_among us v) there) [
      | inl same ↦ subst (λ (w : ℕ). is_among vs w ≡ false) (eqb-true u v same) (or_parts (is_among us u) (is_among vs u) (sym (among_both us vs u) ∙ apart.0)).1
      | inr later ↦ front_not_behind us vs v apart.1 later
    ]

pub front_among : (us vs : List ℕ) (v : ℕ) → is_among us v ≡ true → is_among (us ++ vs) v ≡ true
front_among us vs v there = among_both us vs v ∙ or_left (is_among us v) (is_among vs v) there

pub front_apart : (us vs : List ℕ) → AreApart (us ++ vs) → AreApart us
front_apart [] vs apart = tt
front_apart (u ∷ us) vs apart = ((or_parts (is_among us u) (is_among vs u) (sym (among_both us vs u) ∙ apart.0)).0, front_apart us vs apart.1)

heads_are : (a b : ℕ) (xs ys : List ℕ) → a ∷ xs ≡ b ∷ ys → a ≡ b
heads_are a b xs ys e = cc

tails_are : (a b : ℕ) (xs ys : List ℕ) → a ∷ xs ≡ b ∷ ys → xs ≡ ys
tails_are a b xs ys e = cc

-- a list falls apart at a number in one way
pub same_front : (v : ℕ) (us vs xs ys : List ℕ) → AreApart (us ++ v ∷ vs) → us ++ v ∷ vs ≡ xs ++ v ∷ ys → us ≡ xs
same_front v [] vs [] ys apart same = refl
same_front v [] vs (x ∷ xs) ys apart same =
    absurd (let none = apart.0 in let again = subst (λ (ws : List ℕ). is_among ws v ≡ true) (sym (tails_are v x vs (xs ++ v ∷ ys) same)) (middle_among xs ys v) in cc)
same_front v (u ∷ us) vs [] ys apart same =
    absurd (let none = subst (λ (w : ℕ). is_among (us ++ v ∷ vs) w ≡ false) (heads_are u v (us ++ v ∷ vs) ys same) apart.0 in let there = middle_among us vs v in cc)
same_front v (u ∷ us) vs (x ∷ xs) ys apart same =
    let rest = same_front v us vs xs ys apart.1 (tails_are u x (us ++ v ∷ vs) (xs ++ v ∷ ys) same) in
    let first = heads_are u x (us ++ v ∷ vs) (xs ++ v ∷ ys) same in
    cc
