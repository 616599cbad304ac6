-- How levels are found.
use Rattle.std.proofs.Common.{◌≡◌, ◌≢◌, ℕ, zero, suc, ◌+◌, ◌<◌, ◌≤◌, max, ◌⊎◌, inl, inr, ⊎_elim, Bool, true, false, List, [], ◌∷◌, ◌++◌, Option, Some, None, length, set, replicate, arith, sym, ◌∙◌, ap, subst, refl, if◌then◌else◌}
use Rattle.std.specs.List.{slice_get, Contains}
use Rattle.std.proofs.lemmas.Bool.{cases_eq, cases_lt, eqb-true, eq-eqb}
use Rattle.std.proofs.lemmas.List.{length-set, length-replicate}
use Rattle.std.proofs.lemmas.List.Elements.{Contains-append_left, Contains-append_right, Contains-push, Contains-push_cases}
use Rattle.std.proofs.lemmas.Option.{slice_get_within}
use Rattle.file_model.specs.declared.fields.PatchField.{PatchField}
use Rattle.mesh_model.specs.Graph.{patches_from, incoming, leads_to}
use Rattle.mesh_model.specs.Walks.{EndsAt, IsGrounded, IsLevel}
use Rattle.mesh_graph.specs.Levels.{levels_missing, HasOpenParent, AreLevels, AreWaiting, HasTailLevel, IsOneAbove, IsLevelOver}
use Rattle.mesh_graph.specs.ListReads.{slice_get-set_same, slice_get-set_other}
use Rattle.mesh_graph.proofs.ChainLaws.{slice_get-replicate}

contains-here : {X : Type 0} → (x : X) (xs : List X) → Contains (x ∷ xs) x
contains-here x xs = (0, omega arith, refl)

contains-later : {X : Type 0} → (y : X) (xs : List X) (x : X) → Contains xs x → Contains (y ∷ xs) x
contains-later y xs x (k, k_in, is) = (suc k, omega arith, is)

contains-cases : {X : Type 0} → (y : X) (xs : List X) (x : X) → Contains (y ∷ xs) x → (y ≡ x) ⊎ Contains xs x
contains-cases y xs x (zero, k_in, is) = inl is
contains-cases y xs x (suc k, k_in, is) = inr (k, omega arith, is)

-- the patch of this number passes the test
pub record IsPassing (test : PatchField → Bool) (fields : List PatchField) (start p : ℕ) : Type 0 where
  pub place : ℕ
  pub field : PatchField
  pub number : p ≡ start + place
  pub there : slice_get fields place ≡ Some field
  pub passes : test field ≡ true

passing-later : (test : PatchField → Bool) (f : PatchField) (fs : List PatchField) (start p : ℕ) → IsPassing test fs (start + 1) p → IsPassing test (f ∷ fs) start p
passing-later test f fs start p is = record {
  place = suc is.place;
  field = is.field;
  number = omega (arith, is.number);
  there = is.there;
  passes = is.passes;
}

passing-by : (test : PatchField → Bool) (f : PatchField) (fs : List PatchField) (start p : ℕ) (t : Bool) → test f ≡ t → (Contains (patches_from (start + 1) test fs) p → IsPassing test fs (start + 1) p)
    → Contains (if t then start ∷ patches_from (start + 1) test fs else patches_from (start + 1) test fs) p → IsPassing test (f ∷ fs) start p
passing-by test f fs start p true holds later h =
    ⊎_elim
    (λ (e : start ≡ p). record { place = 0; field = f; number = omega (arith, e); there = refl; passes = holds })
    (λ (among : Contains (patches_from (start + 1) test fs) p). passing-later test f fs start p (later among))
    (contains-cases start (patches_from (start + 1) test fs) p h)
passing-by test f fs start p false fails later h = passing-later test f fs start p (later h)

-- what stands among the patches that pass a test passes it
pub passing_from : (test : PatchField → Bool) (fields : List PatchField) (start p : ℕ) → Contains (patches_from start test fields) p → IsPassing test fields start p
unfolding patches_from
passing_from test [] start p (k, k_in, is) = absurd (omega arith)
passing_from test (f ∷ fs) start p h = passing-by test f fs start p (test f) refl (passing_from test fs (start + 1) p) h

among-by : (test : PatchField → Bool) (f : PatchField) (start p : ℕ) (ps : List ℕ) (t : Bool) → Contains ps p → Contains (if t then start ∷ ps else ps) p
among-by test f start p ps true h = contains-later start ps p h
among-by test f start p ps false h = h

-- what passes the test stands among the patches that do
pub among_from : (test : PatchField → Bool) (fields : List PatchField) (start k p : ℕ) (f : PatchField) → p ≡ start + k → slice_get fields k ≡ Some f → test f ≡ true → Contains (patches_from start test fields) p
unfolding patches_from
among_from test [] start k p f number there holds = absurd cc
among_from test (g ∷ gs) start zero p f number there holds =
    let same : g ≡ f = cc in
    let p_is : p ≡ start = omega (arith, number) in
    rw (same, holds, p_is) (contains-here start (patches_from (start + 1) test gs))
among_from test (g ∷ gs) start (suc k) p f number there holds = among-by test g start p (patches_from (start + 1) test gs) (test g) (among_from test gs (start + 1) k p f (omega (arith, number)) there holds)

-- one patch more
pub over_more : (fields : List PatchField) (levels : List (Option ℕ)) (patches : List ℕ) (level p below new : ℕ) → IsLevelOver fields levels patches level → HasTailLevel fields levels p below → new ≡ max level (below + 1) → IsLevelOver fields levels (patches ++ p ∷ []) new
over_more fields levels patches level p below new over has is =
    record {
      each = λ q among. ⊎_elim
          (λ (old : Contains patches q).
          let (b, b_has, b_less) = over.each q old in
          (b, b_has, omega (arith, is, b_less)))
          (λ (e : p ≡ q).
          (below, subst (λ (r : ℕ). HasTailLevel fields levels r below) e has, omega (arith, is)))
          (Contains-push_cases patches p q among);
      reached = ⊎_elim
          (λ (less : below < level).
          let same : new ≡ level = omega (arith, is, less) in
          ⊎_elim
          (λ (e : level ≡ 0). absurd (omega (arith, e, less)))
          (λ (above : IsOneAbove fields levels patches level).
          inr (record { patch = above.patch; below = above.below; among = Contains-append_left patches (p ∷ []) above.patch above.among; has = above.has; above = same ∙ above.above }))
          over.reached)
          (λ (more : level ≤ below).
          inr (record { patch = p; below = below; among = Contains-push patches p; has = has; above = omega (arith, is, more) }))
          (cases_lt below level);
    }

-- the level over all incoming patches of a node is its level
module _ (fields : List PatchField) (levels : List (Option ℕ)) (v level : ℕ) (are : AreLevels fields levels) (over : IsLevelOver fields levels (incoming fields v) level) where
  bounded : (ps : List ℕ) → EndsAt fields ps v → length ps ≤ level
  bounded [] walk = omega arith
  bounded (p ∷ ps) (f, there, head, walk) =
      let among : Contains (incoming fields v) p = among_from (leads_to v) fields 0 p p f (omega arith) there (eq-eqb f.head v head) in
      let (below, has, less) = over.each p among in
      let same : has.field ≡ f = let s : Some has.field ≡ Some f = sym has.there ∙ there in cc in
      let tail : slice_get levels f.tail ≡ Some (Some below) = ap (λ (g : PatchField). slice_get levels g.tail) (sym same) ∙ has.tail in
      let short : length ps ≤ below = (are.found f.tail below tail).bound ps walk in
      omega (arith, short, less)

  above_parent : IsOneAbove fields levels (incoming fields v) level → (ps : List ℕ) × EndsAt fields ps v × (length ps ≡ level)
  above_parent above =
      let is : IsPassing (leads_to v) fields 0 above.patch = passing_from (leads_to v) fields 0 above.patch above.among in
      let parent : IsLevel fields above.has.field.tail above.below = are.found above.has.field.tail above.below above.has.tail in
      let place : above.patch ≡ is.place = omega (arith, is.number) in
      let there : slice_get fields above.patch ≡ Some is.field = ap (slice_get fields) place ∙ is.there in
      let same : above.has.field ≡ is.field = let s : Some above.has.field ≡ Some is.field = sym above.has.there ∙ there in cc in
      let head : above.has.field.head ≡ v = ap (λ (f : PatchField). f.head) same ∙ eqb-true is.field.head v is.passes in
      let long : suc (length parent.reached.0) ≡ level = omega (arith, parent.reached.2, above.above) in
      (above.patch ∷ parent.reached.0, (above.has.field, above.has.there, head, parent.reached.1), long)

  pub level_from_over : IsLevel fields v level
  level_from_over = record {
    bound = bounded;
    reached = ⊎_elim (λ (e : level ≡ 0). ([], tt, sym e)) above_parent over.reached;
  }

pub missing_bound : (levels : List (Option ℕ)) → levels_missing levels ≤ length levels
unfolding levels_missing
missing_bound [] = omega arith
missing_bound (None ∷ levels) = omega (arith, missing_bound levels)
missing_bound (Some level ∷ levels) = omega (arith, missing_bound levels)

pub missing_set : (levels : List (Option ℕ)) (v level : ℕ) → slice_get levels v ≡ Some None → levels_missing (set levels v (Some level)) + 1 ≡ levels_missing levels
unfolding levels_missing
missing_set [] v level h = absurd cc
missing_set (None ∷ levels) zero level h = refl
missing_set (Some other ∷ levels) zero level h = absurd (let e : Some other ≡ None = cc in cc)
missing_set (None ∷ levels) (suc v) level h = omega (arith, missing_set levels v level h)
missing_set (Some other ∷ levels) (suc v) level h = missing_set levels v level h

-- a level that leaves room for those that are missing
pub room_over : (fields : List PatchField) (levels : List (Option ℕ)) (patches : List ℕ) (level : ℕ) → AreLevels fields levels → IsLevelOver fields levels patches level → level + levels_missing levels ≤ length levels
room_over fields levels patches level are over =
    ⊎_elim
    (λ (e : level ≡ 0). omega (arith, e, missing_bound levels))
    (λ (above : IsOneAbove fields levels patches level).
    let room : above.below + levels_missing levels < length levels = are.room above.has.field.tail above.below above.has.tail in
    omega (arith, room, above.above))
    over.reached

-- the levels are true with one more
module _ (fields : List PatchField) (levels : List (Option ℕ)) (v level : ℕ) (are : AreLevels fields levels) (empty : slice_get levels v ≡ Some None) (is : IsLevel fields v level) (room : level + levels_missing levels ≤ length levels) where
  within : v < length levels
  within = slice_get_within levels v None empty

  after_set : (P : ℕ → ℕ → Type 0) → P v level → ((u l : ℕ) → slice_get levels u ≡ Some (Some l) → P u l) → (u l : ℕ) → slice_get (set levels v (Some level)) u ≡ Some (Some l) → P u l
  after_set P here there u l h =
      ⊎_elim
      (λ (e : u ≡ v).
      let s : Some (Some level) ≡ Some (Some l) = sym (slice_get-set_same levels v (Some level) within) ∙ ap (slice_get (set levels v (Some level))) (sym e) ∙ h in
      let same : level ≡ l = cc in
      subst (λ (k : ℕ). P u k) same (subst (λ (w : ℕ). P w level) (sym e) here))
      (λ (ne : u ≢ v). there u l (sym (slice_get-set_other levels v u (Some level) ne) ∙ h))
      (cases_eq u v)

  pub levels_more : AreLevels fields (set levels v (Some level))
  levels_more = record {
    found = after_set (λ (u l : ℕ). IsLevel fields u l) is are.found;
    room = after_set (λ (u l : ℕ). l + levels_missing (set levels v (Some level)) < length (set levels v (Some level)))
        (rw length-set (omega (arith, missing_set levels v level empty)))
        (λ u l h. rw length-set (omega (arith, missing_set levels v level empty, are.room u l h)));
  }

-- a node with a level, or with a parent without one, waits no more
pub waiting_less : (fields : List PatchField) (levels : List (Option ℕ)) (rest : List ℕ) (v : ℕ) → AreWaiting fields levels (rest ++ v ∷ []) → (slice_get levels v ≡ Some None → HasOpenParent fields levels v) → AreWaiting fields levels rest
waiting_less fields levels rest v waiting blocked u empty =
    ⊎_elim
    (λ (among : Contains (rest ++ v ∷ []) u).
    ⊎_elim
    (λ (old : Contains rest u). inl old)
    (λ (e : v ≡ u).
    let open_v : HasOpenParent fields levels v = blocked (ap (slice_get levels) e ∙ empty) in
    inr (subst (λ (w : ℕ). HasOpenParent fields levels w) e open_v))
    (Contains-push_cases rest v u among))
    (λ (has : HasOpenParent fields levels u). inr has)
    (waiting u empty)

-- where a node gets its level, the heads of the patches from it wait
pub waiting_more : (fields : List PatchField) (levels : List (Option ℕ)) (rest heads : List ℕ) (v level : ℕ) → AreWaiting fields levels (rest ++ v ∷ []) → v < length levels
    → ((p : ℕ) (f : PatchField) → slice_get fields p ≡ Some f → f.tail ≡ v → Contains heads f.head) → AreWaiting fields (set levels v (Some level)) (rest ++ heads)
waiting_more fields levels rest heads v level waiting v_in has_heads u empty =
    let ne : u ≢ v = λ e. let s : Some (Some level) ≡ Some None = sym (slice_get-set_same levels v (Some level) v_in) ∙ ap (slice_get (set levels v (Some level))) (sym e) ∙ empty in
    let t : Some level ≡ None = cc in cc in
    let was : slice_get levels u ≡ Some None = sym (slice_get-set_other levels v u (Some level) ne) ∙ empty in
    ⊎_elim
    (λ (among : Contains (rest ++ v ∷ []) u).
    ⊎_elim
    (λ (old : Contains rest u). inl (Contains-append_left rest heads u old))
    (λ (e : v ≡ u). absurd (ne (sym e)))
    (Contains-push_cases rest v u among))
    (λ (has : HasOpenParent fields levels u).
    ⊎_elim
    (λ (e : has.field.tail ≡ v).
    inl (subst (λ (w : ℕ). Contains (rest ++ heads) w) has.leads (Contains-append_right rest heads has.field.head (has_heads has.patch has.field has.there e))))
    (λ (tail_ne : has.field.tail ≢ v).
    inr (record {
      patch = has.patch;
      field = has.field;
      there = has.there;
      leads = has.leads;
      missing = slice_get-set_other levels v has.field.tail (Some level) tail_ne ∙ has.missing;
    }))
    (cases_eq has.field.tail v))
    (waiting u was)

-- where no node waits, walks of any length end at one without a level
walk_of : (fields : List PatchField) (levels : List (Option ℕ)) → AreWaiting fields levels [] → (n v : ℕ) → slice_get levels v ≡ Some None → (ps : List ℕ) × EndsAt fields ps v × (length ps ≡ n)
walk_of fields levels waiting zero v empty = ([], tt, refl)
walk_of fields levels waiting (suc n) v empty =
    ⊎_elim
    (λ (among : Contains [] v). absurd (let h : among.0 < 0 = among.1 in omega (arith, h)))
    (λ (has : HasOpenParent fields levels v).
    let (ps, walk, long) = walk_of fields levels waiting n has.field.tail has.missing in
    let e : suc (length ps) ≡ suc n = ap suc long in
    (has.patch ∷ ps, (has.field, has.there, has.leads, walk), e))
    (waiting v empty)

-- where no node waits, one without a level isn't grounded
pub ungrounded : (fields : List PatchField) (levels : List (Option ℕ)) (v : ℕ) → AreWaiting fields levels [] → slice_get levels v ≡ Some None → IsGrounded fields v → ⊥
ungrounded fields levels v waiting empty (most, bound) =
    let (ps, walk, long) = walk_of fields levels waiting (suc most) v empty in
    omega (arith, bound ps walk, long)

-- at first there are no levels
pub levels_none : (fields : List PatchField) (nodes : ℕ) → AreLevels fields (replicate nodes None)
levels_none fields nodes =
    let none = λ (v level : ℕ) (h : slice_get (replicate nodes None) v ≡ Some (Some level)).
    let v_in : v < nodes = (rw length-replicate at (slice_get_within (replicate nodes None) v (Some level) h)) in
    let s : Some None ≡ Some (Some level) = sym (slice_get-replicate nodes v None v_in) ∙ h in
    let t : None ≡ Some level = cc in
    let bad : ⊥ = cc in bad in
    record { found = λ v level h. absurd (none v level h); room = λ v level h. absurd (none v level h) }

-- at first all nodes wait
pub waiting_all : (fields : List PatchField) (nodes : ℕ) (waiting : List ℕ) → ((v : ℕ) → v < nodes → Contains waiting v) → AreWaiting fields (replicate nodes None) waiting
waiting_all fields nodes waiting all v empty =
    let v_in : v < nodes = (rw length-replicate at (slice_get_within (replicate nodes None) v None empty)) in
    inl (all v v_in)
