-- A round step by step: from one node to the next, and from one answer to the next.
use Rattle.std.proofs.Common.{◌≡◌, ℕ, suc, ◌+◌, ◌<◌, ◌≤◌, Bool, true, false, List, [], ◌∷◌, ◌++◌, length, take, get_or, Option, Some, None, refl, sym, ap, subst, ◌∙◌, arith, append_assoc, append-nil, length-append}
use Rattle.std.specs.List.{sum_by}
use Rattle.std.proofs.lemmas.List.{map-append, length-map, take_at, get_or_at}
use Rattle.std.proofs.lemmas.List.Sums.{sum_by-cons, sum_by-append}
use Rattle.file_model.specs.declared.fields.Try.{Try}
use Rattle.mesh_model.specs.Graph.{outgoing}
use Rattle.round_model.specs.Order.{Rules, comes_before, node_order}
use Rattle.file_model.specs.Tries.{is_odd}
use Rattle.round_model.specs.Rounds.{NodeInProgress, RoundState, with_member, is_tried, round_from, root_set, round_of, epochs_of, patches_of}
use Rattle.round_laws.specs.Before.{before_never_itself}
use Rattle.round_laws.specs.Ascending.{Ascends, order_ascends}
use Rattle.round_laws.specs.Answers.{try_of}
use Rattle.round_laws.specs.Epochs.{StandsAt, round_stands}
use Rattle.round_laws.specs.Steps.{after_refusal, after_grant, after_last_grant}
use Rattle.round_laws.specs.Passing.{passes, begins_at, has_first_patch}
use Rattle.round_laws.specs.Cuts.{inner_no_sink}
use Rattle.cut_refiner.specs.declared.refinement_states.RefinementState.{RefinementState}
use Rattle.cut_refiner.specs.declared.growing_cuts.GrowingCut.{GrowingCut}
use Rattle.round_laws.specs.Among.{is_among}
use Rattle.cut_refiner.specs.RefinementStates.{IsGoing, IsFound, IsNext, ArePassed}
use Rattle.cut_refiner.specs.Refiners.{degree, IsThrough, IsTrying, IsAt}
use Rattle.round_laws.specs.Among.{each_among, middle_among}
use Rattle.cut_refiner.proofs.OrderLaws.{inner_of_order}

-- ---- what follows a node of the order is one list

same_rest : (rules : Rules) (v : ℕ) (gone gone' rest rest' : List ℕ) → Ascends rules (gone ++ v ∷ rest) → gone ++ v ∷ rest ≡ gone' ++ v ∷ rest' → rest ≡ rest'
same_rest rules v [] [] rest rest' up e = cc
same_rest rules v [] (w ∷ gone') rest rest' up e =
    absurd (
    let tails : rest ≡ gone' ++ v ∷ rest' = cc in
    let again = each_among (λ u. comes_before rules v u ≡ true) rest v up.0 (ap (λ (us : List ℕ). is_among us v) tails ∙ middle_among gone' rest' v) in
    let never = before_never_itself rules v in
    cc)
same_rest rules v (u ∷ gone) [] rest rest' up e =
    absurd (
    let head : u ≡ v = cc in
    let again = each_among (λ w. comes_before rules u w ≡ true) (gone ++ v ∷ rest) v up.0 (middle_among gone rest v) in
    let itself = subst (λ (w : ℕ). comes_before rules w v ≡ true) head again in
    let never = before_never_itself rules v in
    cc)
same_rest rules v (u ∷ gone) (w ∷ gone') rest rest' up e = same_rest rules v gone gone' rest rest' up.1 (let tails : gone ++ v ∷ rest ≡ gone' ++ v ∷ rest' = cc in tails)

-- ---- between two nodes

-- with more epochs the round goes on through this rest of the order, from this set
abbrev pub IsBetween : Rules → List Try → List Bool → List ℕ → Type 0
IsBetween rules tries set rest = (more : List ℕ) → round_of rules (epochs_of tries ++ more) ≡ round_from rules rest set tries more

pub between_at_start : (rules : Rules) → IsBetween rules [] (root_set rules) (node_order rules)
unfolding round_of
between_at_start rules more = refl

without_more : (rules : Rules) (tries : List Try) (set : List Bool) (rest : List ℕ) → IsBetween rules tries set rest → round_of rules (epochs_of tries) ≡ round_from rules rest set tries []
without_more rules tries set rest between = ap (round_of rules) (sym (append-nil (epochs_of tries))) ∙ between []

through_at : (rules : Rules) (set : List Bool) (tries : List Try) → round_from rules [] set tries [] ≡ record { set = set; tries = tries; at = None; unused = [] }
unfolding round_from
through_at rules set tries = refl

through_from : (rules : Rules) (tries : List Try) (set : List Bool) (rest : List ℕ) → IsBetween rules tries set rest → ArePassed rules set rest → IsThrough rules tries set
through_from rules tries set rest between passed = record {
  stand = without_more rules tries set rest between
      ∙ ap (λ (vs : List ℕ). round_from rules vs set tries []) (sym (append-nil rest))
      ∙ passes rules rest [] set tries [] passed
      ∙ through_at rules set tries;
}

trying_from : (rules : Rules) (tries : List Try) (refinement : RefinementState) (node granted : ℕ) (gone rest : List ℕ) → IsBetween rules tries refinement.growing.in_cut.items rest → node_order rules ≡ gone ++ rest → IsFound rules rest refinement node → granted ≡ 0 → length tries + sum_by (degree rules) rest ≤ length rules.mesh.index.fields → IsTrying rules tries refinement node granted
trying_from rules tries refinement node granted gone rest between order found none few =
    let set = refinement.growing.in_cut.items in
    let order' = order ∙ ap (λ (vs : List ℕ). gone ++ vs) found.split ∙ sym (append_assoc gone found.passed (node ∷ found.later)) in
    let inner = inner_of_order rules node (ap (λ (vs : List ℕ). is_among vs node) order' ∙ middle_among (gone ++ found.passed) found.later node) in
    let first = has_first_patch rules.mesh.index.fields node (inner_no_sink rules.mesh.index.fields node inner.inner) in
    let split = ap (sum_by (degree rules)) found.split ∙ sum_by-append (degree rules) found.passed (node ∷ found.later) in
    record {
      hand = record { node = node; granted = []; patch = first.0 };
      stand = without_more rules tries set rest between
          ∙ ap (λ (vs : List ℕ). round_from rules vs set tries []) found.split
          ∙ passes rules found.passed (node ∷ found.later) set tries [] found.are_passed
          ∙ begins_at rules node first.0 found.later first.1 set tries found.tried first.2;
      node_is = refl;
      granted_is = sym none;
      outside = found.outside;
      size = found.size;
      gone = gone ++ found.passed;
      rest = found.later;
      order = order';
      going = found.going;
      most = omega (arith, split, sum_by-cons (degree rules) node found.later);
    }

-- the round stands at the first patch of the next node, or is through
pub settled : (rules : Rules) (tries : List Try) (rest : List ℕ) (old new : RefinementState) (granted : ℕ) (hand : Option ℕ) → granted ≡ 0 → IsBetween rules tries old.growing.in_cut.items rest → IsGoing rules rest old → new.growing ≡ old.growing → IsNext rules rest new hand → length tries + sum_by (degree rules) rest ≤ length rules.mesh.index.fields → IsAt rules tries new granted hand
settled rules tries rest old new granted None none between going same next few =
    through_from rules tries new.growing.in_cut.items rest (subst (λ (growing : GrowingCut). IsBetween rules tries growing.in_cut.items rest) (sym same) between) next
settled rules tries rest old new granted (Some node) none between going same next few =
    trying_from rules tries new node granted going.gone rest (subst (λ (growing : GrowingCut). IsBetween rules tries growing.in_cut.items rest) (sym same) between) going.order next none few

-- ---- an answer

epochs_more : (tries : List Try) (patch epoch : ℕ) (more : List ℕ) → epochs_of (tries ++ try_of patch epoch ∷ []) ++ more ≡ epochs_of tries ++ epoch ∷ more
epochs_more tries patch epoch more =
    ap (λ (es : List ℕ). es ++ more) (map-append (λ (t : Try). t.epoch) tries (try_of patch epoch ∷ [])) ∙ append_assoc (epochs_of tries) (epoch ∷ []) more

module _ (rules : Rules) (tries : List Try) (refinement : RefinementState) (node granted : ℕ) (trying : IsTrying rules tries refinement node granted) where
  abbrev set : List Bool
  set = refinement.growing.in_cut.items

  abbrev hand : NodeInProgress
  hand = trying.hand

  abbrev stand : RoundState
  stand = round_of rules (epochs_of tries)

  at : StandsAt rules (node_order rules) (root_set rules) [] (epochs_of tries) stand hand
  at = round_stands rules (epochs_of tries) hand (ap (λ (s : RoundState). s.at) trying.stand)

  abbrev arcs : List ℕ
  arcs = outgoing rules.mesh.index.fields node

  arcs_are : arcs ≡ patches_of hand.granted ++ hand.patch ∷ at.later
  arcs_are = ap (outgoing rules.mesh.index.fields) (sym trying.node_is) ∙ at.patches

  granted_many : length (patches_of hand.granted) ≡ granted
  granted_many = length-map hand.granted (λ (t : Try). t.patch) ∙ trying.granted_is

  many : length arcs ≡ granted + suc (length at.later)
  many = let total = ap length arcs_are ∙ length-append (patches_of hand.granted) (hand.patch ∷ at.later) in omega (arith, total, granted_many)

  pub granted_within : granted < length arcs
  granted_within = omega (arith, many)

  -- the patch that is tried, and those that were granted
  pub patch_is : get_or arcs granted 0 ≡ hand.patch
  patch_is = ap (λ (ps : List ℕ). get_or ps granted 0) arcs_are ∙ get_or_at (patches_of hand.granted) hand.patch at.later 0 granted granted_many

  pub granted_are : take granted arcs ≡ patches_of hand.granted
  granted_are = ap (take granted) arcs_are ∙ take_at (patches_of hand.granted) (hand.patch ∷ at.later) granted granted_many

  pub node_in : node < length rules.mesh.index.nodes
  node_in = (inner_of_order rules node (ap (λ (vs : List ℕ). is_among vs node) trying.order ∙ middle_among trying.gone trying.rest node)).node

  pub room_for_one : length tries < length rules.mesh.index.fields
  room_for_one = omega (arith, trying.most, granted_within)

  rest_is : at.rest ≡ trying.rest
  rest_is =
      let nodes = at.nodes ∙ ap (λ v. at.gone ++ v ∷ at.rest) trying.node_is in
      same_rest rules node at.gone trying.gone at.rest trying.rest (subst (Ascends rules) nodes (order_ascends rules)) (sym nodes ∙ trying.order)

  set_is : stand.set ≡ set
  set_is = ap (λ (s : RoundState). s.set) trying.stand

  tries_are : stand.tries ≡ tries
  tries_are = ap (λ (s : RoundState). s.tries) trying.stand

  pub is_tried_here : is_tried rules set node ≡ true
  is_tried_here = ap (λ v. is_tried rules set v) (sym trying.node_is) ∙ ap (λ (s : List Bool). is_tried rules s hand.node) (sym set_is) ∙ at.tried

  abbrev answered : ℕ → List Try
  answered epoch = tries ++ try_of (get_or arcs granted 0) epoch ∷ []

  answered_is : (epoch : ℕ) → stand.tries ++ try_of hand.patch epoch ∷ [] ≡ answered epoch
  answered_is epoch = ap (λ (ts : List Try). ts ++ try_of hand.patch epoch ∷ []) tries_are ∙ ap (λ p. tries ++ try_of p epoch ∷ []) (sym patch_is)

  from_start : (epochs : List ℕ) → round_of rules epochs ≡ round_from rules (node_order rules) (root_set rules) [] epochs
  unfolding round_of
  from_start epochs = refl

  steps : (epoch : ℕ) (more : List ℕ) → round_of rules (epochs_of (answered epoch) ++ more) ≡ round_from rules (node_order rules) (root_set rules) [] (epochs_of tries ++ epoch ∷ more)
  steps epoch more = ap (round_of rules) (epochs_more tries (get_or arcs granted 0) epoch more) ∙ from_start (epochs_of tries ++ epoch ∷ more)

  -- the node missed
  pub refused : (epoch : ℕ) → is_odd epoch ≡ false → IsBetween rules (answered epoch) set trying.rest
  refused epoch even more =
      steps epoch more ∙ after_refusal rules (node_order rules) (root_set rules) [] (epochs_of tries) stand hand at epoch more even
      ∙ ap (λ (vs : List ℕ). round_from rules vs stand.set (stand.tries ++ try_of hand.patch epoch ∷ []) more) rest_is
      ∙ ap (λ (s : List Bool). round_from rules trying.rest s (stand.tries ++ try_of hand.patch epoch ∷ []) more) set_is
      ∙ ap (λ (ts : List Try). round_from rules trying.rest set ts more) (answered_is epoch)

  -- the node joins
  pub last_granted : (epoch : ℕ) → is_odd epoch ≡ true → length arcs ≤ granted + 1 → IsBetween rules (answered epoch) (with_member set node) trying.rest
  last_granted epoch odd all more =
      steps epoch more ∙ after_last_grant rules (node_order rules) (root_set rules) [] (epochs_of tries) stand hand at epoch more odd (none_later at.later (omega (arith, many)))
      ∙ ap (λ (vs : List ℕ). round_from rules vs (with_member stand.set hand.node) (stand.tries ++ try_of hand.patch epoch ∷ []) more) rest_is
      ∙ ap (λ (s : List Bool). round_from rules trying.rest (with_member s hand.node) (stand.tries ++ try_of hand.patch epoch ∷ []) more) set_is
      ∙ ap (λ v. round_from rules trying.rest (with_member set v) (stand.tries ++ try_of hand.patch epoch ∷ []) more) trying.node_is
      ∙ ap (λ (ts : List Try). round_from rules trying.rest (with_member set node) ts more) (answered_is epoch)
    where
      none_later : (later : List ℕ) → length later ≡ 0 → later ≡ []
      none_later [] none = refl
      none_later (p ∷ ps) none = absurd (omega arith)

  -- how many patches can still be tried
  pub few_after : (epoch : ℕ) → length (answered epoch) + sum_by (degree rules) trying.rest ≤ length rules.mesh.index.fields
  few_after epoch = omega (arith, length-append tries (try_of (get_or arcs granted 0) epoch ∷ []), trying.most, granted_within)

  -- the next patch of the node is tried
  next_stands : (epoch next : ℕ) (later : List ℕ) → is_odd epoch ≡ true → at.later ≡ next ∷ later → IsTrying rules (answered epoch) refinement node (granted + 1)
  next_stands epoch next later odd more = record {
    hand = record { node = hand.node; granted = hand.granted ++ try_of hand.patch epoch ∷ []; patch = next };
    stand = ap (round_of rules) (sym (append-nil (epochs_of (answered epoch)))) ∙ steps epoch []
        ∙ after_grant rules (node_order rules) (root_set rules) [] (epochs_of tries) stand hand at epoch next later odd more
        ∙ ap (λ (s : List Bool). record { set = s; tries = stand.tries ++ try_of hand.patch epoch ∷ []; at = Some (record { node = hand.node; granted = hand.granted ++ try_of hand.patch epoch ∷ []; patch = next }); unused = [] }) set_is
        ∙ ap (λ (ts : List Try). record { set = set; tries = ts; at = Some (record { node = hand.node; granted = hand.granted ++ try_of hand.patch epoch ∷ []; patch = next }); unused = [] }) (answered_is epoch);
    node_is = trying.node_is;
    granted_is = omega (arith, length-append hand.granted (try_of hand.patch epoch ∷ []), trying.granted_is);
    outside = trying.outside;
    size = trying.size;
    gone = trying.gone;
    rest = trying.rest;
    order = trying.order;
    going = trying.going;
    most = omega (arith, length-append tries (try_of (get_or arcs granted 0) epoch ∷ []), trying.most, granted_within);
  }

  pub granted_next : (epoch : ℕ) → is_odd epoch ≡ true → granted + 1 < length arcs → IsTrying rules (answered epoch) refinement node (granted + 1)
  granted_next epoch odd more = of_later at.later refl
    where
      of_later : (later : List ℕ) → at.later ≡ later → IsTrying rules (answered epoch) refinement node (granted + 1)
      of_later [] e = absurd (let none = ap length e in omega (arith, many))
      of_later (q ∷ qs) e = next_stands epoch q qs odd e
