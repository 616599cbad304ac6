-- A round passes the nodes that aren't tried, and begins at the first patch of the next one that is. In an
-- ascending list what comes after a node stands behind it.
use Rattle.std.proofs.Common.{◌≡◌, ℕ, zero, suc, ◌+◌, ◌⊎◌, Bool, true, false, List, [], ◌∷◌, ◌++◌, Some, refl, sym, ap, subst, ◌∙◌, append-nil, inl, inr}
use Rattle.std.specs.Prelude.{slice_get}
use Rattle.std.specs.List.{AllByRecursion, list_any}
use Rattle.std.proofs.lemmas.Bool.{cond_both, cond-true, cond-false, or_cases, not-false}
use Rattle.file_model.specs.declared.fields.PatchField.{PatchField}
use Rattle.file_model.specs.declared.fields.Try.{Try}
use Rattle.mesh_model.specs.Graph.{leads_from, is_sink, patches_from, outgoing}
use Rattle.round_model.specs.Order.{Rules, comes_before}
use Rattle.round_model.specs.Tries.{tried_patches}
use Rattle.round_model.specs.Rounds.{is_tried, after_tries, round_from}
use Rattle.round_laws.specs.Before.{before_never_itself, before_one_way}
use Rattle.round_laws.specs.Ascending.{Ascends, first_is}

-- ---- what a round passes

pub passes : (rules : Rules) (gone vs : List ℕ) (set : List Bool) (begun : List Try) (epochs : List ℕ) → AllByRecursion (λ v. is_tried rules set v ≡ false) gone → round_from rules (gone ++ vs) set begun epochs ≡ round_from rules vs set begun epochs
unfolding round_from
passes rules [] vs set begun epochs passed = refl
passes rules (v ∷ gone) vs set begun epochs passed =
    cond-false (is_tried rules set v) (after_tries set begun v (tried_patches (outgoing rules.mesh.index.fields v) epochs) (λ s t e. round_from rules (gone ++ vs) s t e)) (round_from rules (gone ++ vs) set begun epochs) passed.0
    ∙ passes rules gone vs set begun epochs passed.1

-- without an answer a round stands at the first patch of a node that is tried
pub begins_at : (rules : Rules) (v p : ℕ) (vs later : List ℕ) (set : List Bool) (begun : List Try) → is_tried rules set v ≡ true → outgoing rules.mesh.index.fields v ≡ p ∷ later → round_from rules (v ∷ vs) set begun [] ≡ record { set = set; tries = begun; at = Some (record { node = v; granted = []; patch = p }); unused = [] }
unfolding round_from tried_patches
begins_at rules v p vs later set begun tried patches =
    cond-true (is_tried rules set v) (after_tries set begun v (tried_patches (outgoing rules.mesh.index.fields v) []) (λ s t e. round_from rules vs s t e)) (round_from rules vs set begun []) tried
    ∙ ap (λ (ps : List ℕ). after_tries set begun v (tried_patches ps []) (λ s t e. round_from rules vs s t e)) patches
    ∙ ap (λ (ts : List Try). record { set = set; tries = ts; at = Some (record { node = v; granted = []; patch = p }); unused = [] }) (append-nil begun)

-- ---- a node that isn't a sink has a first patch

patches_of_some : (test : PatchField → Bool) (first : ℕ) (fields : List PatchField) → list_any test fields ≡ true → (p : ℕ) × (later : List ℕ) × (patches_from first test fields ≡ p ∷ later)
unfolding patches_from
patches_of_some test first [] h = absurd (cc)
patches_of_some test first (f ∷ fs) h =
    cond_both (test f) (first ∷ patches_from (first + 1) test fs) (patches_from (first + 1) test fs) (λ (ps : List ℕ). (p : ℕ) × (later : List ℕ) × (ps ≡ p ∷ later))
    (λ here. (first, patches_from (first + 1) test fs, refl))
    (λ fails. patches_of_some test (first + 1) fs (others (or_cases (test f) (list_any test fs) h) fails))
  where
    others : (test f ≡ true) ⊎ (list_any test fs ≡ true) → test f ≡ false → list_any test fs ≡ true
    others (inl here) fails = absurd (cc)
    others (inr there) fails = there

pub has_first_patch : (fields : List PatchField) (v : ℕ) → is_sink fields v ≡ false → (p : ℕ) × (later : List ℕ) × (outgoing fields v ≡ p ∷ later)
has_first_patch fields v apart = patches_of_some (leads_from v) 0 fields (not-false (list_any (leads_from v) fields) apart)

-- ---- before and behind a node of an ascending list

pub gone_before : (rules : Rules) (v : ℕ) (gone rest : List ℕ) → Ascends rules (gone ++ v ∷ rest) → AllByRecursion (λ u. comes_before rules u v ≡ true) gone
gone_before rules v [] rest h = tt
gone_before rules v (u ∷ gone) rest h = (of_middle gone h.0, gone_before rules v gone rest h.1)
  where
    of_middle : (us : List ℕ) → AllByRecursion (λ w. comes_before rules u w ≡ true) (us ++ v ∷ rest) → comes_before rules u v ≡ true
    of_middle [] all = all.0
    of_middle (w ∷ us) all = of_middle us all.1

pub rest_behind : (rules : Rules) (v : ℕ) (gone rest : List ℕ) → Ascends rules (gone ++ v ∷ rest) → AllByRecursion (λ u. comes_before rules v u ≡ true) rest × Ascends rules rest
rest_behind rules v [] rest h = h
rest_behind rules v (u ∷ gone) rest h = rest_behind rules v gone rest h.1

-- a node of the list that comes after v stands behind v
pub stands_behind : (rules : Rules) (v w : ℕ) (gone rest : List ℕ) → Ascends rules (gone ++ v ∷ rest) → (k : ℕ) → slice_get (gone ++ v ∷ rest) k ≡ Some w → comes_before rules v w ≡ true → (i : ℕ) × (slice_get rest i ≡ Some w)
stands_behind rules v w [] rest h zero at after = absurd (let same = first_is v w at in let never = before_never_itself rules v in let self = subst (λ (x : ℕ). comes_before rules v x ≡ true) (sym same) after in cc)
stands_behind rules v w [] rest h (suc k) at after = (k, at)
stands_behind rules v w (u ∷ gone) rest h zero at after =
    absurd (let same = first_is u w at in let before = (gone_before rules v (u ∷ gone) rest h).0 in let one_way = before_one_way rules v w after in let back = subst (λ (x : ℕ). comes_before rules x v ≡ true) same before in cc)
stands_behind rules v w (u ∷ gone) rest h (suc k) at after = stands_behind rules v w gone rest h.1 k at after
