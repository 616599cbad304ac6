-- A patch that a round asks for: it was never tried and isn't locked, and its answer leaves a round.
use Rattle.std.proofs.Common.{◌≡◌, ℕ, ◌<◌, ◌⊎◌, Bool, true, false, ◌&&◌, ◌||◌, cond, eqb, List, [], ◌∷◌, ◌++◌, length, Option, Some, None, refl, sym, ap, subst, ◌∙◌, inl, inr}
use Rattle.std.specs.List.{AllByRecursion}
use Rattle.std.proofs.lemmas.Bool.{cond-true, cond-false, cases_Bool, or_cases, or_left, or_right, or_parts, eq-eqb, ne_eqb, false_from_ne_true}
use Rattle.std.proofs.lemmas.List.{map-append}
use Rattle.file_model.specs.declared.fields.PatchField.{PatchField}
use Rattle.file_model.specs.declared.fields.Try.{Try}
use Rattle.file_model.specs.Tries.{is_odd}
use Rattle.round_model.specs.declared.asks.Ask.TheVariants.{Lock}
use Rattle.round_model.specs.Order.{node_order}
use Rattle.round_model.specs.Rounds.{NodeInProgress, RoundState, has, with_member, round_from, root_set, round_of, epochs_of, patches_of}
use Rattle.round_model.specs.Refiners.{Refining, round_state, pending_ask, held_at, after_answer}
use Rattle.round_laws.specs.Ascending.{IsInnerNode, order_is_inner}
use Rattle.round_laws.specs.Members.{still_has, had_or_is, has_member}
use Rattle.round_laws.specs.Cuts.{round_as_many}
use Rattle.round_laws.specs.Among.{is_among, middle_among, each_among}
use Rattle.round_laws.specs.Answers.{try_of}
use Rattle.round_laws.specs.Epochs.{StandsAt, round_stands}
use Rattle.round_laws.specs.Steps.{after_refusal, after_last_grant, after_grant}
use Rattle.token_words.specs.Changes.{SetAt}
use Rattle.session_model.specs.Locks.{was_tried, was_granted, is_in_progress, is_held, leads_from_held, locked_by, round_locks}
use Rattle.session_laws.specs.Asks.{AsksToLock, asks_to_lock}
use Rattle.session_model.specs.GoingRounds.{IsRefining}
use Rattle.round_laws.specs.Arcs.{is_from, from_within, among_outgoing, one_tail, AreApart, front_among, outgoing_apart, not_in_front, not_behind, front_not_behind, front_apart, same_front}
use Rattle.session_laws.specs.Tested.{tried_both, among_patches, granted_was_tried, all_were_granted, granted_both, granted_other, granted_here}
use Rattle.session_laws.specs.Passed.{IsInHand, IsPlacedAt, round_placed}
use Rattle.session_laws.specs.Resting.{IsFresh, IsResting, rests}
use Rattle.session_laws.specs.Refinings.{order_apart, inner_not_root, and_if, same_where, held_from}

-- ---- a patch is asked for

module _ (r : Refining) (refining : IsRefining r) (p : ℕ) (asks : pending_ask r ≡ Lock p) where
  abbrev fields : List PatchField
  fields = r.rules.mesh.index.fields

  abbrev stand : RoundState
  stand = round_state r

  pub lock : AsksToLock r p
  lock = asks_to_lock r p asks

  abbrev node : ℕ
  node = lock.hand.node

  placed : IsInHand r.rules (node_order r.rules) stand lock.hand
  placed = subst (IsPlacedAt r.rules (node_order r.rules) stand) lock.at (round_placed r.rules (epochs_of r.tries))

  stands : StandsAt r.rules (node_order r.rules) (root_set r.rules) [] (epochs_of r.tries) stand lock.hand
  stands = round_stands r.rules (epochs_of r.tries) lock.hand lock.at

  nodes_apart : AreApart (stands.gone ++ node ∷ stands.rest)
  nodes_apart = subst AreApart stands.nodes (order_apart r.rules)

  same_gone : stands.gone ≡ placed.gone
  same_gone = same_front node stands.gone stands.rest placed.gone placed.rest nodes_apart (sym stands.nodes ∙ placed.nodes)

  -- a node that the round is past is neither the node in hand nor one behind it
  past_apart : (u : ℕ) → is_among placed.gone u ≡ true → (eqb node u ≡ false) × (is_among stands.rest u ≡ false)
  past_apart u there =
      or_parts (eqb node u) (is_among stands.rest u)
      (front_not_behind stands.gone (node ∷ stands.rest) u nodes_apart (subst (λ (us : List ℕ). is_among us u ≡ true) (sym same_gone) there))

  node_not_behind : is_among stands.rest node ≡ false
  node_not_behind = not_behind stands.gone stands.rest node nodes_apart

  patches_apart : AreApart (patches_of lock.hand.granted ++ lock.hand.patch ∷ placed.later)
  patches_apart = subst AreApart placed.patches (outgoing_apart fields node)

  from_node : (q : ℕ) → is_among (patches_of lock.hand.granted ++ lock.hand.patch ∷ placed.later) q ≡ true → is_from fields node q ≡ true
  from_node q there = sym (among_outgoing fields node q) ∙ subst (λ (ps : List ℕ). is_among ps q ≡ true) (sym placed.patches) there

  asked_from_node : is_from fields node p ≡ true
  asked_from_node = subst (λ (q : ℕ). is_from fields node q ≡ true) lock.patch (from_node lock.hand.patch (middle_among (patches_of lock.hand.granted) placed.later lock.hand.patch))

  node_inner : IsInnerNode r.rules node
  node_inner = each_among (IsInnerNode r.rules) (node_order r.rules) node (order_is_inner r.rules) (subst (λ (us : List ℕ). is_among us node ≡ true) (sym placed.nodes) (middle_among placed.gone placed.rest node))

  node_outside : has stand.set node ≡ false
  node_outside = false_from_ne_true (has stand.set node) (λ is. elim (placed.went.members node is) [
    | inl root ↦ inner_not_root r.rules refining.mesh node node_inner.inner root
    | inr there ↦ absurd (let apart = (past_apart node there).0 in let same = eq-eqb node node refl in cc)
  ])

  -- a patch that was tried
  tries_are : (q : ℕ) → was_tried r.tries q ≡ (was_tried placed.earlier q || was_tried lock.hand.granted q)
  tries_are q = ap (λ (ts : List Try). was_tried ts q) (sym refining.tries ∙ placed.tries) ∙ tried_both placed.earlier lock.hand.granted q

  granted_from_node : (q : ℕ) → was_tried lock.hand.granted q ≡ true → is_from fields node q ≡ true
  granted_from_node q is = from_node q (front_among (patches_of lock.hand.granted) (lock.hand.patch ∷ placed.later) q (among_patches lock.hand.granted q ∙ is))

  past_is_apart : (q v : ℕ) → is_from fields v q ≡ true → is_among placed.gone v ≡ true → is_from fields node q ≡ true → ⊥
  past_is_apart q v from there from_here =
      let same = one_tail fields v node q from from_here in
      let apart = (past_apart v there).0 in
      let equal = eq-eqb node v (sym same) in
      cc

  pub never_tried : was_tried r.tries p ≡ false
  never_tried =
      false_from_ne_true (was_tried r.tries p) (λ is. elim (or_cases (was_tried placed.earlier p) (was_tried lock.hand.granted p) (sym (tries_are p) ∙ is)) [
        | inl before ↦ let from = placed.went.tails p before in past_is_apart p from.0 from.1 from.2 asked_from_node
        | inr now ↦ absurd (let once = not_in_front (patches_of lock.hand.granted) placed.later lock.hand.patch patches_apart in let there = subst (λ (q : ℕ). is_among (patches_of lock.hand.granted) q ≡ true) (sym lock.patch) (among_patches lock.hand.granted p ∙ now) in cc)
      ])

  never_granted : was_granted r.tries p ≡ false
  never_granted = false_from_ne_true (was_granted r.tries p) (λ is. let tried = granted_was_tried r.tries p is in let never = never_tried in absurd (cc))

  -- the patch that is asked for isn't locked
  pub asked_is_free : round_locks r p ≡ false
  unfolding locked_by
  asked_is_free = rw never_granted refl

  -- ---- what is held before

  -- what was tried leads from a node that the round is past, or is of the node in hand
  tail_cases : (q : ℕ) → was_granted r.tries q ≡ true → ((v : ℕ) × (is_from fields v q ≡ true) × (is_among placed.gone v ≡ true)) ⊎ (was_tried lock.hand.granted q ≡ true)
  tail_cases q is =
      elim (or_cases (was_tried placed.earlier q) (was_tried lock.hand.granted q) (sym (tries_are q) ∙ granted_was_tried r.tries q is)) [
        | inl before ↦ inl (placed.went.tails q before)
        | inr now ↦ inr now
      ]

  held_by_hand : (v : ℕ) → is_held stand v ≡ (has stand.set v || eqb node v)
  held_by_hand v = ap (λ at. has stand.set v || is_in_progress at v) lock.at

  held_past : (q v : ℕ) → is_from fields v q ≡ true → is_among placed.gone v ≡ true → leads_from_held fields stand q ≡ (has stand.set v || false)
  held_past q v from there = held_from fields stand v q from ∙ held_by_hand v ∙ ap (λ (t : Bool). has stand.set v || t) (past_apart v there).0

  held_here : (q : ℕ) → is_from fields node q ≡ true → leads_from_held fields stand q ≡ true
  held_here q from = held_from fields stand node q from ∙ held_by_hand node ∙ or_right (has stand.set node) (eqb node node) (eq-eqb node node refl)

  -- ---- what an answer changes

  -- what is locked changes at the patch alone
  locks_after : (epoch : ℕ) (owed : List ℕ) (now : RoundState) → ((q : ℕ) → was_granted r.tries q ≡ true → (is_among owed q || leads_from_held fields now q) ≡ leads_from_held fields stand q) → (is_odd epoch ≡ true → (is_among owed p || leads_from_held fields now p) ≡ true) → SetAt (round_locks r) p (is_odd epoch) (locked_by fields (r.tries ++ try_of p epoch ∷ []) owed now)
  unfolding locked_by
  locks_after epoch owed now others here = record {
    here = ap (λ (t : Bool). t && (is_among owed p || leads_from_held fields now p)) (granted_here r.tries p epoch never_granted) ∙ and_if (is_odd epoch) (is_among owed p || leads_from_held fields now p) here;
    others = λ q apart.
        ap (λ (t : Bool). t && (is_among owed q || leads_from_held fields now q)) (granted_other r.tries p epoch q apart)
        ∙ same_where (was_granted r.tries q) (is_among owed q || leads_from_held fields now q) (leads_from_held fields stand q) (others q)
        ∙ sym (ap (λ (ps : List ℕ). was_granted r.tries q && (is_among ps q || leads_from_held fields stand q)) lock.owed);
  }

  -- the node in hand that follows is a later one
  not_in_progress : (at : Option NodeInProgress) → ((hand : NodeInProgress) → at ≡ Some hand → IsFresh stands.rest hand) → (v : ℕ) → is_among stands.rest v ≡ false → is_in_progress at v ≡ false
  not_in_progress None fresh v apart = refl
  not_in_progress (Some hand) fresh v apart = ne_eqb hand.node v (λ same. absurd (let there = subst (λ (u : ℕ). is_among stands.rest u ≡ true) same (fresh hand refl).node in cc))

  -- the epochs with one more
  epochs_with : (epoch : ℕ) → epochs_of (r.tries ++ try_of p epoch ∷ []) ≡ epochs_of r.tries ++ epoch ∷ []
  epochs_with epoch = map-append (λ (t : Try). t.epoch) r.tries (try_of p epoch ∷ [])

  -- where the round stands after the answer
  answered : ℕ → RoundState
  answered epoch = round_state (after_answer r p epoch)

  tries_with : (epoch : ℕ) → stand.tries ++ try_of lock.hand.patch epoch ∷ [] ≡ r.tries ++ try_of p epoch ∷ []
  tries_with epoch = ap (λ (ts : List Try). ts ++ try_of lock.hand.patch epoch ∷ []) refining.tries ∙ ap (λ (q : ℕ). r.tries ++ try_of q epoch ∷ []) lock.patch

  -- what an answer leads to: the locks change at the patch alone, and the round is one that asked for its tries
  record IsAnswered (epoch : ℕ) : Type 0 where
    locks : SetAt (round_locks r) p (is_odd epoch) (round_locks (after_answer r p epoch))
    keeps : IsRefining (after_answer r p epoch)

  -- from where the round stands then, and what is owed
  answered_by : (epoch : ℕ) (owed : List ℕ) (now : RoundState) → cond (is_odd epoch) [] (held_at stand.at) ≡ owed → round_of r.rules (epochs_of r.tries ++ epoch ∷ []) ≡ now → now.tries ≡ r.tries ++ try_of p epoch ∷ [] → AreApart owed → ((q : ℕ) → is_among owed q ≡ true → (was_granted r.tries q ≡ true) × (leads_from_held fields now q ≡ false)) → ((q : ℕ) → was_granted r.tries q ≡ true → (is_among owed q || leads_from_held fields now q) ≡ leads_from_held fields stand q) → (is_odd epoch ≡ true → (is_among owed p || leads_from_held fields now p) ≡ true) → IsAnswered epoch
  unfolding after_answer
  answered_by epoch owed now owes stands_now tries_now apart each others here =
      let state_is : round_of r.rules (epochs_of (r.tries ++ try_of p epoch ∷ [])) ≡ now = ap (round_of r.rules) (epochs_with epoch) ∙ stands_now in
      let changed = locks_after epoch owed now others here in
      let same : (q : ℕ) → round_locks (after_answer r p epoch) q ≡ locked_by fields (r.tries ++ try_of p epoch ∷ []) owed now q = λ q. ap (λ (ps : List ℕ). locked_by fields (r.tries ++ try_of p epoch ∷ []) ps (round_of r.rules (epochs_of (r.tries ++ try_of p epoch ∷ []))) q) owes ∙ ap (λ (s : RoundState). locked_by fields (r.tries ++ try_of p epoch ∷ []) owed s q) state_is in
      record {
        locks = record { here = same p ∙ changed.here; others = λ q other. same q ∙ changed.others q other };
        keeps = record {
          mesh = refining.mesh;
          tries = ap (λ (s : RoundState). s.tries) state_is ∙ tries_now;
          apart = subst AreApart (sym owes) apart;
          owed = λ q there.
              let is = each q (subst (λ (ps : List ℕ). is_among ps q ≡ true) owes there) in
              record {
                granted = granted_both r.tries (try_of p epoch ∷ []) q ∙ or_left (was_granted r.tries q) (was_granted (try_of p epoch ∷ []) q) is.0;
                outside = ap (λ (s : RoundState). leads_from_held fields s q) state_is ∙ is.1;
              };
        };
      }

  -- the round at the next patch of the node in hand
  abbrev at_next : ℕ → ℕ → RoundState
  at_next epoch next = record { set = stand.set; tries = stand.tries ++ try_of lock.hand.patch epoch ∷ []; at = Some (record { node = node; granted = lock.hand.granted ++ try_of lock.hand.patch epoch ∷ []; patch = next }); unused = [] }

  held_at_next : (epoch next q : ℕ) → ((v : ℕ) × (is_from fields v q ≡ true) × (is_among placed.gone v ≡ true)) ⊎ (was_tried lock.hand.granted q ≡ true) → leads_from_held fields (at_next epoch next) q ≡ leads_from_held fields stand q
  held_at_next epoch next q (inl past) = held_from fields (at_next epoch next) past.0 q past.1 ∙ sym (held_by_hand past.0) ∙ sym (held_from fields stand past.0 q past.1)
  held_at_next epoch next q (inr here) = let from = granted_from_node q here in held_from fields (at_next epoch next) node q from ∙ sym (held_by_hand node) ∙ sym (held_from fields stand node q from)

  -- granted, and the node has more patches
  granted_more : (epoch next : ℕ) (later : List ℕ) → is_odd epoch ≡ true → stands.later ≡ next ∷ later → IsAnswered epoch
  unfolding round_of
  granted_more epoch next later odd more =
      answered_by epoch [] (at_next epoch next) (cond-true (is_odd epoch) [] (held_at stand.at) odd)
      (after_grant r.rules (node_order r.rules) (root_set r.rules) [] (epochs_of r.tries) stand lock.hand stands epoch next later odd more)
      (tries_with epoch) tt (λ q none. absurd (cc))
      (λ q is. held_at_next epoch next q (tail_cases q is))
      (λ t. held_from fields (at_next epoch next) node p asked_from_node ∙ or_right (has stand.set node) (eqb node node) (eq-eqb node node refl))

  inner_rest : AllByRecursion (IsInnerNode r.rules) stands.rest
  inner_rest = each_behind stands.gone (subst (AllByRecursion (IsInnerNode r.rules)) stands.nodes (order_is_inner r.rules))
    where
      each_behind : (us : List ℕ) → AllByRecursion (IsInnerNode r.rules) (us ++ node ∷ stands.rest) → AllByRecursion (IsInnerNode r.rules) stands.rest
      each_behind [] all = all.1
      each_behind (u ∷ us) all = each_behind us all.1

  member_other : (v : ℕ) → eqb node v ≡ false → has (with_member stand.set node) v ≡ has stand.set v
  member_other v apart =
      elim (cases_Bool (has stand.set v)) [
        | inl is ↦ still_has stand.set node v is ∙ sym is
        | inr never ↦ false_from_ne_true (has (with_member stand.set node) v) (λ is. elim (had_or_is stand.set node v is) [
          | inl same ↦ absurd (let equal = eq-eqb node v same in cc)
          | inr had ↦ absurd (cc)
        ]) ∙ sym never
      ]

  -- granted, and it was the node's last patch
  granted_last : (epoch : ℕ) → is_odd epoch ≡ true → stands.later ≡ [] → IsAnswered epoch
  unfolding round_of
  granted_last epoch odd none =
      let now = round_from r.rules stands.rest (with_member stand.set node) (stand.tries ++ try_of lock.hand.patch epoch ∷ []) [] in
      let resting = rests r.rules stands.rest (with_member stand.set node) (stand.tries ++ try_of lock.hand.patch epoch ∷ []) inner_rest in
      answered_by epoch [] now (cond-true (is_odd epoch) [] (held_at stand.at) odd)
      (after_last_grant r.rules (node_order r.rules) (root_set r.rules) [] (epochs_of r.tries) stand lock.hand stands epoch [] odd none)
      (resting.tries_are ∙ tries_with epoch) tt (λ q never. absurd (cc))
      (λ q is. held_still now resting q (tail_cases q is))
      (λ t. held_from fields now node p asked_from_node ∙ joined now resting)
    where
      joined : (now : RoundState) → IsResting stands.rest (with_member stand.set node) (stand.tries ++ try_of lock.hand.patch epoch ∷ []) now → is_held now node ≡ true
      joined now resting =
          or_left (has now.set node) (is_in_progress now.at node)
          (ap (λ (s : List Bool). has s node) resting.set_is ∙ has_member stand.set node (subst (λ (n : ℕ). node < n) (sym (round_as_many r.rules (epochs_of r.tries))) node_inner.node))

      held_still : (now : RoundState) → IsResting stands.rest (with_member stand.set node) (stand.tries ++ try_of lock.hand.patch epoch ∷ []) now → (q : ℕ) → ((v : ℕ) × (is_from fields v q ≡ true) × (is_among placed.gone v ≡ true)) ⊎ (was_tried lock.hand.granted q ≡ true) → leads_from_held fields now q ≡ leads_from_held fields stand q
      held_still now resting q (inl past) =
          let apart = past_apart past.0 past.2 in
          held_from fields now past.0 q past.1
          ∙ ap (λ (s : List Bool). has s past.0 || is_in_progress now.at past.0) resting.set_is
          ∙ ap (λ (t : Bool). t || is_in_progress now.at past.0) (member_other past.0 apart.0)
          ∙ ap (λ (t : Bool). has stand.set past.0 || t) (not_in_progress now.at resting.fresh past.0 apart.1)
          ∙ sym (held_past q past.0 past.1 past.2)
      held_still now resting q (inr here) =
          let from = granted_from_node q here in held_from fields now node q from ∙ joined now resting ∙ sym (held_here q from)

  -- refused
  missed : (epoch : ℕ) → is_odd epoch ≡ false → IsAnswered epoch
  unfolding round_of
  missed epoch even =
      let now = round_from r.rules stands.rest stand.set (stand.tries ++ try_of lock.hand.patch epoch ∷ []) [] in
      let resting = rests r.rules stands.rest stand.set (stand.tries ++ try_of lock.hand.patch epoch ∷ []) inner_rest in
      answered_by epoch (patches_of lock.hand.granted) now (cond-false (is_odd epoch) [] (held_at stand.at) even ∙ ap held_at lock.at)
      (after_refusal r.rules (node_order r.rules) (root_set r.rules) [] (epochs_of r.tries) stand lock.hand stands epoch [] even)
      (resting.tries_are ∙ tries_with epoch)
      (front_apart (patches_of lock.hand.granted) (lock.hand.patch ∷ placed.later) patches_apart)
      (λ q there. let tried = sym (among_patches lock.hand.granted q) ∙ there in (granted_now q tried, left now resting q (granted_from_node q tried)))
      (λ q is. held_still now resting q (tail_cases q is))
      (λ odd. absurd (cc))
    where
      granted_now : (q : ℕ) → was_tried lock.hand.granted q ≡ true → was_granted r.tries q ≡ true
      granted_now q tried =
          ap (λ (ts : List Try). was_granted ts q) (sym refining.tries ∙ placed.tries) ∙ granted_both placed.earlier lock.hand.granted q
          ∙ or_right (was_granted placed.earlier q) (was_granted lock.hand.granted q) (all_were_granted lock.hand.granted q placed.granted tried)

      left : (now : RoundState) → IsResting stands.rest stand.set (stand.tries ++ try_of lock.hand.patch epoch ∷ []) now → (q : ℕ) → is_from fields node q ≡ true → leads_from_held fields now q ≡ false
      left now resting q from =
          held_from fields now node q from
          ∙ ap (λ (s : List Bool). has s node || is_in_progress now.at node) resting.set_is
          ∙ ap (λ (t : Bool). t || is_in_progress now.at node) node_outside
          ∙ not_in_progress now.at resting.fresh node node_not_behind

      held_still : (now : RoundState) → IsResting stands.rest stand.set (stand.tries ++ try_of lock.hand.patch epoch ∷ []) now → (q : ℕ) → ((v : ℕ) × (is_from fields v q ≡ true) × (is_among placed.gone v ≡ true)) ⊎ (was_tried lock.hand.granted q ≡ true) → (is_among (patches_of lock.hand.granted) q || leads_from_held fields now q) ≡ leads_from_held fields stand q
      held_still now resting q (inl past) =
          let apart = past_apart past.0 past.2 in
          let not_owed = among_patches lock.hand.granted q ∙ false_from_ne_true (was_tried lock.hand.granted q) (λ tried. past_is_apart q past.0 past.1 past.2 (granted_from_node q tried)) in
          ap (λ (t : Bool). t || leads_from_held fields now q) not_owed
          ∙ held_from fields now past.0 q past.1
          ∙ ap (λ (s : List Bool). has s past.0 || is_in_progress now.at past.0) resting.set_is
          ∙ ap (λ (t : Bool). has stand.set past.0 || t) (not_in_progress now.at resting.fresh past.0 apart.1)
          ∙ sym (held_past q past.0 past.1 past.2)
      held_still now resting q (inr here) =
          or_left (is_among (patches_of lock.hand.granted) q) (leads_from_held fields now q) (among_patches lock.hand.granted q ∙ here)
          ∙ sym (held_here q (granted_from_node q here))

  is_answered : (epoch : ℕ) → IsAnswered epoch
  is_answered epoch =
      elim (cases_Bool (is_odd epoch)) [
        | inl odd ↦ by_later stands.later refl odd
        | inr even ↦ missed epoch even
      ]
    where
      by_later : (later : List ℕ) → stands.later ≡ later → is_odd epoch ≡ true → IsAnswered epoch
      by_later [] is odd = granted_last epoch odd is
      by_later (next ∷ later) is odd = granted_more epoch next later odd is

  pub answer_locks : (epoch : ℕ) → SetAt (round_locks r) p (is_odd epoch) (round_locks (after_answer r p epoch))
  answer_locks epoch = (is_answered epoch).locks

  pub answer_refining : (epoch : ℕ) → IsRefining (after_answer r p epoch)
  answer_refining epoch = (is_answered epoch).keeps

  -- the patch that is asked for is one of the mesh
  pub asked_within : p < length r.rules.mesh.index.fields
  asked_within = from_within fields node p asked_from_node
