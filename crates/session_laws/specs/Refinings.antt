-- A round under way: no patch is tried twice, and each answer and each lock that is given back changes what is
-- locked as it says.
use Rattle.std.proofs.Common.{◌≡◌, ℕ, ◌<◌, Bool, true, false, not, ◌&&◌, ◌||◌, eqb, List, [], ◌∷◌, length, Option, Some, None, refl, sym, ap, subst, ◌∙◌, inl, inr}
use Rattle.std.specs.Prelude.{slice_get}
use Rattle.std.specs.List.{AllByRecursion, list_any}
use Rattle.std.specs.Option.{option_map_or}
use Rattle.std.proofs.lemmas.Bool.{or_cases, or_left, or_right, or_parts, and_parts, not-true, eq-eqb, ne_eqb, false_from_ne_true}
use Rattle.file_model.specs.declared.fields.PatchField.{PatchField}
use Rattle.file_model.specs.declared.fields.Try.{Try}
use Rattle.mesh_model.specs.Graph.{leads_to, leads_from, is_root, is_sink}
use Rattle.mesh_model.specs.Frames.{leads_out}
use Rattle.mesh_model.specs.Accepted.{is_inner}
use Rattle.mesh_model.specs.Meshes.{IsMesh}
use Rattle.round_model.specs.declared.asks.Ask.TheVariants.{GiveBack}
use Rattle.round_model.specs.Order.{Rules, comes_before, node_order}
use Rattle.round_model.specs.Rounds.{NodeInProgress, RoundState, has, root_set, round_of, epochs_of, patches_of}
use Rattle.round_model.specs.Refiners.{Refining, round_state, pending_ask, all_but_first, after_release}
use Rattle.mesh_laws.specs.Roots.{only_root_from_roots}
use Rattle.round_laws.specs.Before.{before_never_itself}
use Rattle.round_laws.specs.Ascending.{Ascends, order_ascends, order_is_inner}
use Rattle.round_laws.specs.Among.{is_among, each_among}
use Rattle.token_words.specs.Changes.{SetAt}
use Rattle.session_model.specs.Locks.{was_tried, was_granted, is_in_progress, is_held, leads_from_held, locked_by, round_locks}
use Rattle.session_laws.specs.Asks.{AsksBack, asks_back}
use Rattle.session_model.specs.GoingRounds.{IsRefining}
use Rattle.round_laws.specs.Arcs.{is_from, is_from_tail, from_within, among_outgoing, from_tail, passing_at, AreApart, front_among}
use Rattle.session_laws.specs.Tested.{tried_both, among_patches, granted_was_tried, granted_both}
use Rattle.session_laws.specs.Passed.{IsPlacedAt, round_placed}
use Rattle.session_laws.specs.Resting.{rests}

-- ---- the order

apart_from_ascending : (rules : Rules) (vs : List ℕ) → Ascends rules vs → AreApart vs
apart_from_ascending rules [] up = tt
apart_from_ascending rules (v ∷ vs) up =
    (false_from_ne_true (is_among vs v) (λ there. let after = each_among (λ u. comes_before rules v u ≡ true) vs v up.0 there in let never = before_never_itself rules v in absurd (cc)), apart_from_ascending rules vs up.1)

pub order_apart : (rules : Rules) → AreApart (node_order rules)
order_apart rules = apart_from_ascending rules (node_order rules) (order_ascends rules)

none_pass : {X : Type 0} (test : X → Bool) (xs : List X) → AllByRecursion (λ x. test x ≡ false) xs → list_any test xs ≡ false
none_pass test [] none = refl
none_pass test (x ∷ xs) none = rw none.0 (none_pass test xs none.1)

pub inner_not_root : (rules : Rules) → IsMesh rules.mesh → (v : ℕ) → is_inner rules.mesh.index.fields v ≡ true → rules.mesh.root ≡ v → ⊥
inner_not_root rules mesh v inner same =
    let fields = rules.mesh.index.fields in
    let none = none_pass (leads_to rules.mesh.root) fields (only_root_from_roots (length rules.mesh.index.nodes) fields rules.mesh.root mesh.graph.one_root).no_patch in
    let none_here = subst (λ (u : ℕ). list_any (leads_to u) fields ≡ false) same none in
    let never = (or_parts (is_root fields v) (is_sink fields v) (not-true (is_root fields v || is_sink fields v) inner)).0 in
    let root : is_root fields v ≡ true = ap not none_here in
    cc

pub and_if : (t u : Bool) → (t ≡ true → u ≡ true) → (t && u) ≡ t
and_if true u h = h refl
and_if false u h = refl

pub same_where : (t u w : Bool) → (t ≡ true → u ≡ w) → (t && u) ≡ (t && w)
same_where true u w h = h refl
same_where false u w h = refl

-- what a patch leads from says whether it leads from a node that is held
pub held_from : (fields : List PatchField) (stand : RoundState) (v p : ℕ) → is_from fields v p ≡ true → leads_from_held fields stand p ≡ is_held stand v
held_from fields stand v p from =
    let is = passing_at (leads_from v) fields p from in
    ap (λ (o : Option PatchField). option_map_or (λ (f : PatchField). is_held stand f.tail) o false) is.there ∙ ap (is_held stand) (from_tail fields v p is.field is.there from)

-- ---- a lock is given back

back_first : (owed : List ℕ) (p : ℕ) (rest : List ℕ) → owed ≡ p ∷ rest → all_but_first owed ≡ rest
back_first owed p rest is = ap all_but_first is

module _ (r : Refining) (refining : IsRefining r) (p : ℕ) (asks : pending_ask r ≡ GiveBack p) where
  back : AsksBack r p
  back = asks_back r p asks

  once : AreApart (p ∷ back.rest)
  once = subst AreApart back.owed refining.apart

  owed_here : is_among r.owed p ≡ true
  owed_here = ap (λ (ps : List ℕ). is_among ps p) back.owed ∙ or_left (eqb p p) (is_among back.rest p) (eq-eqb p p refl)

  released : (q : ℕ) → round_locks (after_release r) q ≡ locked_by r.rules.mesh.index.fields r.tries back.rest (round_state r) q
  unfolding after_release
  released q = ap (λ (ps : List ℕ). locked_by r.rules.mesh.index.fields r.tries ps (round_state r) q) (back_first r.owed p back.rest back.owed)

  pub owed_is_locked : round_locks r p ≡ true
  unfolding locked_by
  owed_is_locked =
      rw ((refining.owed p owed_here).granted, or_left (is_among r.owed p) (leads_from_held r.rules.mesh.index.fields (round_state r) p) owed_here) refl

  pub release_locks : SetAt (round_locks r) p false (round_locks (after_release r))
  unfolding locked_by
  release_locks = record {
    here = released p ∙ rw (once.0, (refining.owed p owed_here).outside) (and_false (was_granted r.tries p));
    others = λ q other.
        released q
        ∙ ap (λ (t : Bool). was_granted r.tries q && (t || leads_from_held r.rules.mesh.index.fields (round_state r) q)) (sym (ap (λ (ps : List ℕ). is_among ps q) back.owed ∙ ap (λ (t : Bool). t || is_among back.rest q) (ne_eqb p q (λ same. other (sym same)))));
  }
    where
      and_false : (t : Bool) → (t && false) ≡ false
      and_false true = refl
      and_false false = refl

  pub release_refining : IsRefining (after_release r)
  unfolding after_release
  release_refining = record {
    mesh = refining.mesh;
    tries = refining.tries;
    apart = subst AreApart (sym (back_first r.owed p back.rest back.owed)) once.1;
    owed = λ q there.
        let before = ap (λ (ps : List ℕ). is_among ps q) back.owed ∙ or_right (eqb p q) (is_among back.rest q) (subst (λ (ps : List ℕ). is_among ps q ≡ true) (back_first r.owed p back.rest back.owed) there) in
        let is = refining.owed q before in
        record { granted = is.granted; outside = is.outside };
  }

-- ---- what is locked

module _ (r : Refining) (refining : IsRefining r) where
  -- each node in the set but the root had all of its patches granted
  set_was_granted : (v p : ℕ) → has (round_state r).set v ≡ true → (r.rules.mesh.root ≡ v → ⊥) → is_from r.rules.mesh.index.fields v p ≡ true → was_granted r.tries p ≡ true
  set_was_granted v p is other from = subst (λ (ts : List Try). was_granted ts p ≡ true) refining.tries (by_place (round_state r).at (round_placed r.rules (epochs_of r.tries)))
    where
      by_place : (at : Option NodeInProgress) → IsPlacedAt r.rules (node_order r.rules) (round_state r) at → was_granted (round_state r).tries p ≡ true
      by_place None went = went.granted v p is other from
      by_place (Some hand) place =
          ap (λ (ts : List Try). was_granted ts p) place.tries ∙ granted_both place.earlier hand.granted p
          ∙ or_left (was_granted place.earlier p) (was_granted hand.granted p) (place.went.granted v p is other from)

  -- each patch of the set's frame is locked, or leads from the root
  pub frame_is_locked : (p : ℕ) (f : PatchField) → slice_get r.rules.mesh.index.fields p ≡ Some f → leads_out (has (round_state r).set) f ≡ true → (r.rules.mesh.root ≡ f.tail → ⊥) → round_locks r p ≡ true
  unfolding locked_by
  frame_is_locked p f there out other =
      let fields = r.rules.mesh.index.fields in
      let is = (and_parts (has (round_state r).set f.tail) (not (has (round_state r).set f.head)) out).0 in
      let held = ap (λ (o : Option PatchField). option_map_or (λ (g : PatchField). is_held (round_state r) g.tail) o false) there ∙ or_left (has (round_state r).set f.tail) (is_in_progress (round_state r).at f.tail) is in
      rw (set_was_granted f.tail p is other (is_from_tail fields p f there), or_right (is_among r.owed p) (leads_from_held fields (round_state r) p) held) refl

  -- what a round has locked is of the mesh
  pub locked_within : (p : ℕ) → round_locks r p ≡ true → p < length r.rules.mesh.index.fields
  unfolding locked_by
  locked_within p is =
      let granted = (and_parts (was_granted r.tries p) (is_among r.owed p || leads_from_held r.rules.mesh.index.fields (round_state r) p) is).0 in
      by_place (round_state r).at (round_placed r.rules (epochs_of r.tries)) (ap (λ (ts : List Try). was_tried ts p) refining.tries ∙ granted_was_tried r.tries p granted)
    where
      by_place : (at : Option NodeInProgress) → IsPlacedAt r.rules (node_order r.rules) (round_state r) at → was_tried (round_state r).tries p ≡ true → p < length r.rules.mesh.index.fields
      by_place None went tried = let from = went.tails p tried in from_within r.rules.mesh.index.fields from.0 p from.1
      by_place (Some hand) place tried =
          elim (or_cases (was_tried place.earlier p) (was_tried hand.granted p) (sym (ap (λ (ts : List Try). was_tried ts p) place.tries ∙ tried_both place.earlier hand.granted p) ∙ tried)) [
            | inl before ↦ let from = place.went.tails p before in from_within r.rules.mesh.index.fields from.0 p from.1
            | inr now ↦
                from_within r.rules.mesh.index.fields hand.node p
                (sym (among_outgoing r.rules.mesh.index.fields hand.node p)
                ∙ subst (λ (ps : List ℕ). is_among ps p ≡ true) (sym place.patches) (front_among (patches_of hand.granted) (hand.patch ∷ place.later) p (among_patches hand.granted p ∙ now)))
          ]

-- a round that begins has nothing locked
pub begun_refining : (rules : Rules) → IsMesh rules.mesh → IsRefining (record { rules = rules; tries = []; owed = [] })
unfolding round_of
begun_refining rules mesh = record {
  mesh = mesh;
  tries = (rests rules (node_order rules) (root_set rules) [] (order_is_inner rules)).tries_are;
  apart = tt;
  owed = λ p never. absurd (cc);
}

pub begun_locks : (rules : Rules) (p : ℕ) → round_locks (record { rules = rules; tries = []; owed = [] }) p ≡ false
unfolding locked_by
begun_locks rules p = refl
