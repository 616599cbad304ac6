-- The answer to a try, and a patch that was given back.
use Rattle.std.proofs.Common.{◌≡◌, ℕ, ◌+◌, ◌≤◌, Bool, true, false, List, [], ◌∷◌, ◌++◌, length, take, drop, get_or, Option, Some, None, refl, sym, ap, subst, ◌∙◌, arith}
use Rattle.std.proofs.lemmas.Bool.{cond-true, cond-false}
use Rattle.file_model.specs.declared.fields.Try.{Try}
use Rattle.mesh_model.specs.Graph.{outgoing}
use Rattle.round_model.specs.declared.asks.Ask.TheVariants.{Lock, GiveBack}
use Rattle.round_model.specs.Order.{Rules, node_order}
use Rattle.file_model.specs.Tries.{is_odd}
use Rattle.round_model.specs.Rounds.{NodeInProgress, with_member, root_set}
use Rattle.round_model.specs.Refiners.{Refining, round_state, pending_ask, held_at, after_answer, all_but_first, after_release}
use Rattle.round_laws.specs.Answers.{try_of}
use Rattle.cut_refiner.specs.declared.refinement_states.RefinementState.{RefinementState}
use Rattle.cut_refiner.specs.RefinementStates.{IsGoing, CanJoin, IsNext}
use Rattle.cut_refiner.specs.RoundRules.{AreRules}
use Rattle.cut_refiner.specs.Refiners.{IsTrying, IsAt}
use Rattle.cut_refiner.proofs.DegreeLaws.{order_has_few}
use Rattle.cut_refiner.proofs.OrderLaws.{tried_can_join}
use Rattle.cut_refiner.proofs.RoundLaws.{IsBetween, between_at_start, settled, patch_is, granted_are, is_tried_here, refused, last_granted, few_after}
use Rattle.cut_refiner.proofs.AskLaws.{seen_as, IsLocking, locking, owing, not_both, same_hand}

-- ---- a patch that was given back

rest_of : (owed : List ℕ) → drop 1 owed ≡ all_but_first owed
rest_of [] = refl
rest_of (p ∷ ps) = refl

pub gave_is : (rules : Rules) (tries : List Try) (owed rest : List ℕ) (seen : Refining) → seen_as rules tries owed ≡ seen → rest ≡ drop 1 owed → seen_as rules tries rest ≡ after_release seen
unfolding after_release
gave_is rules tries owed rest seen same is = ap (seen_as rules tries) (is ∙ rest_of owed) ∙ ap after_release same

pub some_owed : (rules : Rules) (tries : List Try) (owed : List ℕ) (seen : Refining) (patch : ℕ) → seen_as rules tries owed ≡ seen → pending_ask seen ≡ GiveBack patch → 1 ≤ length owed
some_owed rules tries owed seen patch same asks = let is = owing (seen_as rules tries owed) patch (ap pending_ask same ∙ asks) in omega (arith, ap length is.is)

-- ---- what is told

module _ (rules : Rules) (tries : List Try) (owed : List ℕ) (refinement : RefinementState) (seen : Refining) (same : seen_as rules tries owed ≡ seen) (patch : ℕ) (asks : pending_ask seen ≡ Lock patch) where
  abbrev mine : Refining
  mine = seen_as rules tries owed

  lock : IsLocking mine patch
  lock = locking mine patch (ap pending_ask same ∙ asks)

  -- the round isn't through
  pub not_through : (granted : ℕ) → IsAt rules tries refinement granted None → ⊥
  not_through granted at = not_both rules tries refinement granted lock.hand at lock.at

  module _ (node granted : ℕ) (trying : IsTrying rules tries refinement node granted) where
    abbrev arcs : List ℕ
    arcs = outgoing rules.mesh.index.fields node

    hand_is : lock.hand ≡ trying.hand
    hand_is = same_hand rules tries refinement node granted trying lock.hand lock.at

    read : get_or arcs granted 0 ≡ patch
    read = patch_is rules tries refinement node granted trying ∙ ap (λ (h : NodeInProgress). h.patch) (sym hand_is) ∙ lock.patch_is

    held : held_at (round_state mine).at ≡ take granted arcs
    held = ap held_at lock.at ∙ ap (λ (h : NodeInProgress). held_at (Some h)) hand_is ∙ sym (granted_are rules tries refinement node granted trying)

    abbrev now_tries : ℕ → List Try
    now_tries epoch = tries ++ try_of (get_or arcs granted 0) epoch ∷ []

    pub told_refused : (epoch : ℕ) → is_odd epoch ≡ false → seen_as rules (now_tries epoch) (take granted arcs) ≡ after_answer seen patch epoch
    unfolding after_answer
    told_refused epoch even =
        ap (λ p. seen_as rules (tries ++ try_of p epoch ∷ []) (take granted arcs)) read
        ∙ ap (seen_as rules (tries ++ try_of patch epoch ∷ [])) (sym (cond-false (is_odd epoch) [] (held_at (round_state mine).at) even ∙ held))
        ∙ ap (λ (r : Refining). after_answer r patch epoch) same

    pub told_granted : (epoch : ℕ) → is_odd epoch ≡ true → seen_as rules (now_tries epoch) owed ≡ after_answer seen patch epoch
    unfolding after_answer
    told_granted epoch odd =
        ap (λ p. seen_as rules (tries ++ try_of p epoch ∷ []) owed) read
        ∙ ap (seen_as rules (tries ++ try_of patch epoch ∷ [])) (lock.owed ∙ sym (cond-true (is_odd epoch) [] (held_at (round_state mine).at) odd))
        ∙ ap (λ (r : Refining). after_answer r patch epoch) same

-- the answer is noted with the patch that was read
pub noted : (rules : Rules) (tries now : List Try) (node granted place epoch : ℕ) (patches : List ℕ) → now ≡ tries ++ try_of (get_or patches place 0) epoch ∷ [] → patches ≡ outgoing rules.mesh.index.fields node → place ≡ granted → now ≡ tries ++ try_of (get_or (outgoing rules.mesh.index.fields node) granted 0) epoch ∷ []
noted rules tries now node granted place epoch patches is are same =
    is ∙ ap (λ (ps : List ℕ). tries ++ try_of (get_or ps place 0) epoch ∷ []) are ∙ ap (λ k. tries ++ try_of (get_or (outgoing rules.mesh.index.fields node) k 0) epoch ∷ []) same

-- ---- where the round stands then

module _ (rules : Rules) (tries : List Try) (refinement : RefinementState) (node granted epoch : ℕ) (trying : IsTrying rules tries refinement node granted) where
  abbrev then_tries : List Try
  then_tries = tries ++ try_of (get_or (outgoing rules.mesh.index.fields node) granted 0) epoch ∷ []

  pub after_miss : (new : RefinementState) (now : ℕ) (hand : Option ℕ) → now ≡ 0 → is_odd epoch ≡ false → new.growing ≡ refinement.growing → ((rest : List ℕ) → IsGoing rules rest refinement → IsNext rules rest new hand) → IsAt rules then_tries new now hand
  after_miss new now hand none even growing next =
      settled rules then_tries trying.rest refinement new now hand none (refused rules tries refinement node granted trying epoch even) trying.going growing (next trying.rest trying.going) (few_after rules tries refinement node granted trying epoch)

  pub can_join : AreRules rules → CanJoin rules trying.rest refinement node
  can_join are = tried_can_join rules are trying.gone trying.rest node trying.order refinement trying.going (is_tried_here rules tries refinement node granted trying) trying.outside

  pub after_join : AreRules rules → (joined new : RefinementState) (now : ℕ) (hand : Option ℕ) → now ≡ 0 → is_odd epoch ≡ true → length (outgoing rules.mesh.index.fields node) ≤ granted + 1 → joined.growing.in_cut.items ≡ with_member refinement.growing.in_cut.items node → ((rest : List ℕ) → CanJoin rules rest refinement node → IsGoing rules rest joined) → new.growing ≡ joined.growing → ((rest : List ℕ) → IsGoing rules rest joined → IsNext rules rest new hand) → IsAt rules then_tries new now hand
  after_join are joined new now hand none odd all set going growing next =
      let goes = going trying.rest (can_join are) in
      settled rules then_tries trying.rest joined new now hand none
      (subst (λ (s : List Bool). IsBetween rules then_tries s trying.rest) (sym set) (last_granted rules tries refinement node granted trying epoch odd all))
      goes growing (next trying.rest goes) (few_after rules tries refinement node granted trying epoch)

-- ---- where a round begins

pub at_start : (rules : Rules) (old new : RefinementState) (now : ℕ) (hand : Option ℕ) → now ≡ 0 → old.growing.in_cut.items ≡ root_set rules → IsGoing rules (node_order rules) old → new.growing ≡ old.growing → IsNext rules (node_order rules) new hand → IsAt rules [] new now hand
at_start rules old new now hand none set going growing next =
    settled rules [] (node_order rules) old new now hand none
    (subst (λ (s : List Bool). IsBetween rules [] s (node_order rules)) (sym set) (between_at_start rules))
    going growing next (omega (arith, order_has_few rules))
