-- Where a round stands that goes on without an answer.
use Rattle.std.proofs.Common.{◌≡◌, ℕ, Bool, true, eqb, List, [], ◌∷◌, Some, refl, sym, ap, subst, ◌∙◌, inl, inr}
use Rattle.std.specs.List.{AllByRecursion}
use Rattle.std.proofs.lemmas.Bool.{cases_Bool, or_left, or_right, eq-eqb}
use Rattle.file_model.specs.declared.fields.Try.{Try}
use Rattle.mesh_model.specs.Graph.{outgoing}
use Rattle.round_model.specs.Order.{Rules}
use Rattle.round_model.specs.Rounds.{NodeInProgress, RoundState, is_tried, round_from}
use Rattle.round_laws.specs.Among.{is_among}
use Rattle.round_laws.specs.Ascending.{IsInnerNode}
use Rattle.round_laws.specs.Cuts.{inner_no_sink}
use Rattle.round_laws.specs.Epochs.{hand_is}
use Rattle.round_laws.specs.Passing.{passes, begins_at, has_first_patch}

-- the node in hand, if there is one, is one of these, and none of its patches was tried yet
pub record IsFresh (vs : List ℕ) (hand : NodeInProgress) : Type 0 where
  pub node : is_among vs hand.node ≡ true
  pub granted : hand.granted ≡ []

-- the set and the tries are as before
pub record IsResting (vs : List ℕ) (set : List Bool) (tries : List Try) (stand : RoundState) : Type 0 where
  pub set_is : stand.set ≡ set
  pub tries_are : stand.tries ≡ tries
  pub fresh : (hand : NodeInProgress) → stand.at ≡ Some hand → IsFresh vs hand

one_later : (v : ℕ) (vs : List ℕ) (set : List Bool) (tries : List Try) (stand : RoundState) → IsResting vs set tries stand → IsResting (v ∷ vs) set tries stand
one_later v vs set tries stand is = record {
  set_is = is.set_is;
  tries_are = is.tries_are;
  fresh = λ hand at. let rest = is.fresh hand at in record { node = or_right (eqb v hand.node) (is_among vs hand.node) rest.node; granted = rest.granted };
}

abbrev at_first : List Bool → List Try → NodeInProgress → RoundState
at_first set tries hand = record { set = set; tries = tries; at = Some hand; unused = [] }

first_rests : (v : ℕ) (vs : List ℕ) (set : List Bool) (tries : List Try) (first : NodeInProgress) → first.node ≡ v → first.granted ≡ [] → IsResting (v ∷ vs) set tries (at_first set tries first)
first_rests v vs set tries first node granted = record {
  set_is = refl;
  tries_are = refl;
  fresh = λ hand at.
      let same = hand_is first hand at in
      record {
        node = or_left (eqb v hand.node) (is_among vs hand.node) (eq-eqb v hand.node (sym node ∙ ap (λ (h : NodeInProgress). h.node) same));
        granted = sym (ap (λ (h : NodeInProgress). h.granted) same) ∙ granted;
      };
}

pub rests : (rules : Rules) (vs : List ℕ) (set : List Bool) (tries : List Try) → AllByRecursion (IsInnerNode rules) vs → IsResting vs set tries (round_from rules vs set tries [])
unfolding round_from
rests rules [] set tries inner = record { set_is = refl; tries_are = refl; fresh = λ hand at. absurd (cc) }
rests rules (v ∷ vs) set tries inner =
    elim (cases_Bool (is_tried rules set v)) [
      | inl is ↦ first_is (has_first_patch rules.mesh.index.fields v (inner_no_sink rules.mesh.index.fields v inner.0.inner)) is
      | inr passed ↦ subst (IsResting (v ∷ vs) set tries) (sym (passes rules (v ∷ []) vs set tries [] (passed, tt))) (one_later v vs set tries (round_from rules vs set tries []) (rests rules vs set tries inner.1))
    ]
  where
    first_is : (p : ℕ) × (later : List ℕ) × (outgoing rules.mesh.index.fields v ≡ p ∷ later) → is_tried rules set v ≡ true → IsResting (v ∷ vs) set tries (round_from rules (v ∷ vs) set tries [])
    first_is first is =
        subst (IsResting (v ∷ vs) set tries) (sym (begins_at rules v first.0 vs first.1 set tries is first.2))
        (first_rests v vs set tries (record { node = v; granted = []; patch = first.0 }) refl refl)
