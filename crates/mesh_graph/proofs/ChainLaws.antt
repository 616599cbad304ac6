-- Chains of the patches of a node: how they are linked, and what following one gives.
use Rattle.std.proofs.Common.{◌≡◌, ◌≢◌, ℕ, zero, suc, ◌+◌, ◌<◌, ◌≤◌, Bool, true, false, List, [], ◌∷◌, ◌++◌, Option, Some, None, length, get_or, set, drop, replicate, arith, sym, ◌∙◌, ap, subst, refl, ⊎_elim, if◌then◌else◌, append_assoc, ◌-◌}
use Rattle.std.specs.List.{slice_get}
use Rattle.std.proofs.lemmas.Bool.{cases_eq, eqb-true, eq-eqb, ne_eqb}
use Rattle.std.proofs.lemmas.List.{drop-drop, drop_all, length-set, length-replicate, get_or-replicate}
use Rattle.std.proofs.lemmas.Option.{slice_get_within, slice_get-get_or, slice_get_read}
use Rattle.file_model.specs.declared.fields.PatchField.{PatchField}
use Rattle.mesh_model.specs.Graph.{patches_from}
use Rattle.mesh_model.specs.declared.sides.NodeSide.{NodeSide}
use Rattle.mesh_model.specs.Sides.{node_on, is_on}
use Rattle.mesh_graph.specs.Sides.{patches_at, patches_past}
use Rattle.mesh_graph.specs.ListReads.{slice_get-set_same, slice_get-set_other}
use Rattle.mesh_graph.specs.Chains.{first_of, IsAfter, IsChain, AreLinked}

-- the list from a place in it on
pub drop-at : {X : Type 0} → (xs : List X) (i : ℕ) (x : X) → slice_get xs i ≡ Some x → drop i xs ≡ x ∷ drop (i + 1) xs
drop-at [] i x h = absurd cc
drop-at (y ∷ ys) zero x h = let e : y ≡ x = cc in ap (λ z. z ∷ ys) e
drop-at (y ∷ ys) (suc i) x h = rw (let e : suc i + 1 ≡ suc (i + 1) = omega arith in e) (drop-at ys i x h)

-- the first patch that passes a test stands in the list, and the others come after it
pub record IsFirst (test : PatchField → Bool) (fields : List PatchField) (start p : ℕ) : Type 0 where
  pub place : ℕ
  pub field : PatchField
  pub number : p ≡ start + place
  pub there : slice_get fields place ≡ Some field
  pub passes : test field ≡ true
  pub others : patches_from start test fields ≡ p ∷ patches_from (p + 1) test (drop (place + 1) fields)

is_first-later : (test : PatchField → Bool) (f : PatchField) (fs : List PatchField) (start p : ℕ) → test f ≡ false → IsFirst test fs (start + 1) p → IsFirst test (f ∷ fs) start p
unfolding patches_from
is_first-later test f fs start p fails is = record {
  place = is.place + 1;
  field = is.field;
  number = omega (arith, is.number);
  there = rw (let e : is.place + 1 ≡ suc is.place = omega arith in e) is.there;
  passes = is.passes;
  others = rw (fails, (let e : is.place + 1 + 1 ≡ suc (is.place + 1) = omega arith in e)) is.others;
}

is_first-by : (test : PatchField → Bool) (f : PatchField) (fs : List PatchField) (start p : ℕ) (t : Bool) → test f ≡ t → (first_of (patches_from (start + 1) test fs) ≡ Some p → IsFirst test fs (start + 1) p)
    → first_of (if t then start ∷ patches_from (start + 1) test fs else patches_from (start + 1) test fs) ≡ Some p → IsFirst test (f ∷ fs) start p
unfolding patches_from
is_first-by test f fs start p true holds later h =
    let same : start ≡ p = cc in
    record {
      place = 0;
      field = f;
      number = omega (arith, same);
      there = refl;
      passes = holds;
      others = rw (holds, same) refl;
    }
is_first-by test f fs start p false fails later h = is_first-later test f fs start p fails (later h)

pub is_first : (test : PatchField → Bool) (fields : List PatchField) (start p : ℕ) → first_of (patches_from start test fields) ≡ Some p → IsFirst test fields start p
unfolding patches_from
is_first test [] start p h = absurd cc
is_first test (f ∷ fs) start p h = is_first-by test f fs start p (test f) refl (is_first test fs (start + 1) p) h

slice_get-drop : {X : Type 0} → (xs : List X) (n i : ℕ) → slice_get (drop n xs) i ≡ slice_get xs (n + i)
slice_get-drop xs zero i = ap (slice_get xs) (let e : i ≡ 0 + i = omega arith in e)
slice_get-drop [] (suc n) i = refl
slice_get-drop (x ∷ xs) (suc n) i = slice_get-drop xs n i ∙ ap (slice_get (x ∷ xs)) (let e : suc (n + i) ≡ suc n + i = omega arith in e)

-- the first of a node's patches from a number on, and those after it
pub record IsFirstPast (side : NodeSide) (fields : List PatchField) (v start p : ℕ) : Type 0 where
  pub field : PatchField
  pub later : start ≤ p
  pub there : slice_get fields p ≡ Some field
  pub on : node_on side field ≡ v
  pub others : patches_past side fields v start ≡ p ∷ patches_past side fields v (p + 1)

pub first_past : (side : NodeSide) (fields : List PatchField) (v start p : ℕ) → first_of (patches_past side fields v start) ≡ Some p → IsFirstPast side fields v start p
first_past side fields v start p h =
    let is : IsFirst (is_on side v) (drop start fields) start p = is_first (is_on side v) (drop start fields) start p h in
    let there : slice_get fields (start + is.place) ≡ Some is.field = sym (slice_get-drop fields start is.place) ∙ is.there in
    let rest : drop (is.place + 1) (drop start fields) ≡ drop (p + 1) fields = drop-drop (is.place + 1) start fields ∙ ap (λ (n : ℕ). drop n fields) (let e : start + (is.place + 1) ≡ p + 1 = omega (arith, is.number) in e) in
    record {
      field = is.field;
      later = omega (arith, is.number);
      there = ap (slice_get fields) is.number ∙ there;
      on = eqb-true (node_on side is.field) v is.passes;
      others = is.others ∙ ap (λ (fs : List PatchField). p ∷ patches_from (p + 1) (is_on side v) fs) rest;
    }

-- a patch on the node's side comes first
pub past-on : (side : NodeSide) (fields : List PatchField) (v i : ℕ) (f : PatchField) → slice_get fields i ≡ Some f → node_on side f ≡ v → patches_past side fields v i ≡ i ∷ patches_past side fields v (i + 1)
unfolding patches_from
past-on side fields v i f there on =
    let holds : is_on side v f ≡ true = eq-eqb (node_on side f) v on in
    rw (drop-at fields i f there, holds) refl

-- a patch elsewhere is passed over
pub past-off : (side : NodeSide) (fields : List PatchField) (v i : ℕ) (f : PatchField) → slice_get fields i ≡ Some f → node_on side f ≢ v → patches_past side fields v i ≡ patches_past side fields v (i + 1)
unfolding patches_from
past-off side fields v i f there off =
    let fails : is_on side v f ≡ false = ne_eqb (node_on side f) v off in
    rw (drop-at fields i f there, fails) refl

-- one patch more is linked
module _ (side : NodeSide) (fields : List PatchField) (i : ℕ) (f : PatchField) (first next : List (Option ℕ)) (link : Option ℕ) (there : slice_get fields i ≡ Some f) (in_first : node_on side f < length first) (in_next : i < length next) (linked : AreLinked side fields (i + 1) first next) (is_link : slice_get first (node_on side f) ≡ Some link) where
  head_more : (v : ℕ) → v < length (set first (node_on side f) (Some i)) → slice_get (set first (node_on side f) (Some i)) v ≡ Some (first_of (patches_past side fields v i))
  head_more v v_in =
      ⊎_elim
      (λ (e : v ≡ node_on side f).
      rw (e, past-on side fields (node_on side f) i f there refl) (slice_get-set_same first (node_on side f) (Some i) in_first))
      (λ (ne : v ≢ node_on side f).
      slice_get-set_other first (node_on side f) v (Some i) ne ∙ linked.heads v (rw length-set at v_in)
      ∙ ap (λ (ps : List ℕ). Some (first_of ps)) (sym (past-off side fields v i f there (λ e. ne (sym e)))))
      (cases_eq v (node_on side f))

  link_is : link ≡ first_of (patches_past side fields (node_on side f) (i + 1))
  link_is = let e : Some link ≡ Some (first_of (patches_past side fields (node_on side f) (i + 1))) = sym is_link ∙ linked.heads (node_on side f) in_first in cc

  next_more : (p : ℕ) (g : PatchField) → i ≤ p → slice_get fields p ≡ Some g → slice_get (set next i link) p ≡ Some (first_of (patches_past side fields (node_on side g) (p + 1)))
  next_more p g later g_there =
      ⊎_elim
      (λ (e : p ≡ i).
      let same : f ≡ g = let s : Some f ≡ Some g = sym there ∙ sym (ap (slice_get fields) e) ∙ g_there in cc in
      rw (e, ← same) (slice_get-set_same next i link in_next ∙ ap Some link_is))
      (λ (ne : p ≢ i).
      slice_get-set_other next i p link ne ∙ linked.nexts p g (omega arith) g_there)
      (cases_eq p i)

  pub linked_more : AreLinked side fields i (set first (node_on side f) (Some i)) (set next i link)
  linked_more = record { heads = head_more; nexts = next_more }

pub slice_get-replicate : {X : Type 0} → (n i : ℕ) (x : X) → i < n → slice_get (replicate n x) i ≡ Some x
slice_get-replicate n i x h = slice_get-get_or (replicate n x) i x (rw length-replicate h) ∙ ap Some (get_or-replicate n i x x h)

-- at first no patch is linked
pub linked_none : (side : NodeSide) (fields : List PatchField) (nodes : ℕ) (next : List (Option ℕ)) → AreLinked side fields (length fields) (replicate nodes None) next
unfolding patches_from
linked_none side fields nodes next = record {
  heads = λ v v_in. rw (drop_all (length fields) fields (omega arith)) (slice_get-replicate nodes v None (rw length-replicate at v_in));
  nexts = λ p f later there. absurd (omega (arith, slice_get_within fields p f there));
}

chain_along : (side : NodeSide) (fields : List PatchField) (first next : List (Option ℕ)) (v start : ℕ) → AreLinked side fields 0 first next → (ps : List ℕ) → patches_past side fields v start ≡ ps → IsChain next (first_of ps) ps
chain_along side fields first next v start linked [] e = refl
chain_along side fields first next v start linked (p ∷ ps) e =
    let is : IsFirstPast side fields v start p = first_past side fields v start p (ap first_of e) in
    let rest : patches_past side fields v (p + 1) ≡ ps = let s : p ∷ patches_past side fields v (p + 1) ≡ p ∷ ps = sym is.others ∙ e in cc in
    let after : (o : Option ℕ) → first_of ps ≡ o → IsAfter p o = λ o o_is. elim o as (λ w. first_of ps ≡ w → IsAfter p w) [ None ↦ λ _. tt | Some q ↦ λ q_is. omega (arith, (first_past side fields v (p + 1) q (ap first_of rest ∙ q_is)).later) ] o_is in
    (refl, first_of ps, (linked.nexts p is.field (omega arith) is.there ∙ ap (λ (w : ℕ). Some (first_of (patches_past side fields w (p + 1)))) is.on ∙ ap (λ (qs : List ℕ). Some (first_of qs)) rest), after (first_of ps) refl, chain_along side fields first next v (p + 1) linked ps rest)

-- where all patches are linked, the chain of a node has its patches
pub chain_is : (side : NodeSide) (fields : List PatchField) (first next : List (Option ℕ)) (v : ℕ) (start : Option ℕ) → AreLinked side fields 0 first next → v < length first → slice_get first v ≡ Some start → IsChain next start (patches_at side fields v)
chain_is side fields first next v start linked v_in is =
    let same : start ≡ first_of (patches_at side fields v) = let s : Some start ≡ Some (first_of (patches_past side fields v 0)) = sym is ∙ linked.heads v v_in in cc in
    rw same (chain_along side fields first next v 0 linked (patches_at side fields v) refl)

-- how much of a chain can be left
abbrev pub steps_left : List (Option ℕ) → Option ℕ → ℕ
steps_left next None = 0
steps_left next (Some p) = length next - p

-- a chain that begins at a patch goes on after it
pub record IsStep (next : List (Option ℕ)) (p : ℕ) (chain : List ℕ) : Type 0 where
  pub rest : List ℕ
  pub following : Option ℕ
  pub is : chain ≡ p ∷ rest
  pub there : slice_get next p ≡ Some following
  pub after : IsAfter p following
  pub goes_on : IsChain next following rest

pub chain_step : (next : List (Option ℕ)) (p : ℕ) (chain : List ℕ) → IsChain next (Some p) chain → IsStep next p chain
chain_step next p [] h = absurd cc
chain_step next p (q ∷ qs) (e, following, there, after, goes_on) =
    let same : q ≡ p = cc in
    record {
      rest = qs;
      following = following;
      is = ap (λ r. r ∷ qs) same;
      there = ap (slice_get next) (sym same) ∙ there;
      after = subst (λ r. IsAfter r following) same after;
      goes_on = goes_on;
    }

pub step_less : (next : List (Option ℕ)) (p : ℕ) (following : Option ℕ) → slice_get next p ≡ Some following → IsAfter p following → steps_left next following < steps_left next (Some p)
step_less next p None there after = omega (arith, slice_get_within next p None there)
step_less next p (Some q) there after = omega (arith, slice_get_within next p (Some q) there, after)

-- a chain that begins at none is empty
pub chain_ends : (next : List (Option ℕ)) (chain : List ℕ) → IsChain next None chain → chain ≡ []
chain_ends next [] h = refl
chain_ends next (p ∷ ps) h = absurd (let e : None ≡ Some p = h.0 in cc)

-- one patch more is appended
module _ (next : List (Option ℕ)) (p : ℕ) (following : Option ℕ) (is_then : slice_get next p ≡ Some following) where
  step_then : (chain : List ℕ) (step : IsStep next p chain) → step.following ≡ following
  step_then chain step = let e : Some step.following ≡ Some following = sym step.there ∙ is_then in cc

  pub left_more : (rest : List ℕ) × IsChain next (Some p) rest → (rest : List ℕ) × IsChain next following rest
  left_more (chain, is) =
      let step : IsStep next p chain = chain_step next p chain is in
      (step.rest, subst (λ (o : Option ℕ). IsChain next o step.rest) (step_then chain step) step.goes_on)

  pub less_more : (rest : List ℕ) × IsChain next (Some p) rest → steps_left next following < steps_left next (Some p)
  less_more (chain, is) =
      let step : IsStep next p chain = chain_step next p chain is in
      step_less next p following is_then (subst (λ (o : Option ℕ). IsAfter p o) (step_then chain step) step.after)

  pub appended_more : (done more all : List ℕ) → more ≡ done ++ p ∷ [] → (rest : List ℕ) × IsChain next (Some p) rest × (done ++ rest ≡ all) → (rest : List ℕ) × IsChain next following rest × (more ++ rest ≡ all)
  appended_more done more all is_more (chain, is, e) =
      let step : IsStep next p chain = chain_step next p chain is in (
        step.rest,
        subst (λ (o : Option ℕ). IsChain next o step.rest) (step_then chain step) step.goes_on,
        ap (λ (ps : List ℕ). ps ++ step.rest) is_more ∙ append_assoc done (p ∷ []) step.rest ∙ ap (λ (ps : List ℕ). done ++ ps) (sym step.is) ∙ e,
      )

-- the next patch down is linked
pub linked_down : (side : NodeSide) (fields : List PatchField) (patch : ℕ) (f : PatchField) (node : ℕ) (first next : List (Option ℕ)) (link : Option ℕ) → 0 < patch → slice_get fields (patch - 1) ≡ Some f → node ≡ node_on side f → node < length first → patch - 1 < length next → AreLinked side fields patch first next
    → link ≡ get_or first node link → AreLinked side fields (patch - 1) (set first node (Some (patch - 1))) (set next (patch - 1) link)
linked_down side fields patch f node first next link positive there is_node in_first in_next linked is_link =
    let number : patch ≡ patch - 1 + 1 = omega arith in
    let above : AreLinked side fields (patch - 1 + 1) first next = subst (λ (n : ℕ). AreLinked side fields n first next) number linked in
    let read : slice_get first node ≡ Some link = slice_get_read first (length first) node link refl in_first is_link in
    rw is_node (linked_more side fields (patch - 1) f first next link there (omega (arith, is_node)) in_next above (ap (slice_get first) (sym is_node) ∙ read))
