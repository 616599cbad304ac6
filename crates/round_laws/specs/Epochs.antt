-- A round whose epochs go on: where it was through they are left over, and where it stood at a patch it goes
-- on from there.
use Rattle.std.proofs.Common.{◌≡◌, ℕ, Bool, true, false, List, [], ◌∷◌, ◌++◌, Some, None, refl, sym, ap, subst, ◌∙◌, append_assoc}
use Rattle.std.specs.List.{AllByRecursion}
use Rattle.std.proofs.lemmas.Bool.{cond_both, cond-true, cond-false}
use Rattle.std.proofs.lemmas.List.{map-append}
use Rattle.file_model.specs.declared.fields.Try.{Try}
use Rattle.mesh_model.specs.Graph.{outgoing}
use Rattle.round_model.specs.Order.{Rules, node_order}
use Rattle.file_model.specs.Tries.{is_odd}
use Rattle.round_model.specs.Tries.{Verdict, Granted, Refused, OpenAt, Tried, tried_patches}
use Rattle.round_model.specs.Rounds.{NodeInProgress, RoundState, with_member, is_tried, after_verdict, after_tries, round_from, root_set, round_of, epochs_of, patches_of}
use Rattle.round_laws.specs.Answers.{IsAnswered, with_unused, with_granted, IsOpenAt, tried_epochs, tried_more, tried_open}

-- what is left of a round from a node on, as a function of the set, the tries so far and the epochs
abbrev pub Rest : Type 0
Rest = List Bool → List Try → List ℕ → RoundState

-- ---- the epochs are those of the tries, and those that are left

epochs_regroup : (begun tries : List Try) (unused epochs : List ℕ) → epochs_of tries ++ unused ≡ epochs → epochs_of (begun ++ tries) ++ unused ≡ epochs_of begun ++ epochs
epochs_regroup begun tries unused epochs e =
    ap (λ (xs : List ℕ). xs ++ unused) (map-append (λ (t : Try). t.epoch) begun tries) ∙ append_assoc (epochs_of begun) (epochs_of tries) unused ∙ ap (λ (xs : List ℕ). epochs_of begun ++ xs) e

verdict_epochs : (set : List Bool) (begun : List Try) (v : ℕ) (epochs : List ℕ) (tried : Tried) (rest : Rest) (verdict : Verdict) → tried.verdict ≡ verdict → (IsAnswered verdict → epochs_of tried.tries ++ tried.unused ≡ epochs) → ((p : ℕ) → verdict ≡ OpenAt p → epochs_of tried.tries ++ [] ≡ epochs) → ((s : List Bool) (t : List Try) (e : List ℕ) → epochs_of (rest s t e).tries ++ (rest s t e).unused ≡ epochs_of t ++ e) → epochs_of (after_verdict set begun v tried rest verdict).tries ++ (after_verdict set begun v tried rest verdict).unused ≡ epochs_of begun ++ epochs
verdict_epochs set begun v epochs tried rest Granted is answered stands go = go (with_member set v) (begun ++ tried.tries) tried.unused ∙ epochs_regroup begun tried.tries tried.unused epochs (answered tt)
verdict_epochs set begun v epochs tried rest Refused is answered stands go = go set (begun ++ tried.tries) tried.unused ∙ epochs_regroup begun tried.tries tried.unused epochs (answered tt)
verdict_epochs set begun v epochs tried rest (OpenAt p) is answered stands go = epochs_regroup begun tried.tries [] epochs (stands p refl)

from_epochs : (rules : Rules) (vs : List ℕ) (set : List Bool) (begun : List Try) (epochs : List ℕ) → epochs_of (round_from rules vs set begun epochs).tries ++ (round_from rules vs set begun epochs).unused ≡ epochs_of begun ++ epochs
unfolding round_from
from_epochs rules [] set begun epochs = refl
from_epochs rules (v ∷ vs) set begun epochs =
    let ps = outgoing rules.mesh.index.fields v in
    let tried = tried_patches ps epochs in
    let rest : Rest = λ s t e. round_from rules vs s t e in
    cond_both (is_tried rules set v) (after_tries set begun v tried rest) (round_from rules vs set begun epochs) (λ (stand : RoundState). epochs_of stand.tries ++ stand.unused ≡ epochs_of begun ++ epochs)
    (λ is. verdict_epochs set begun v epochs tried rest tried.verdict refl (λ answered. tried_epochs ps epochs)
    (λ p stands. ap (λ (xs : List ℕ). epochs_of tried.tries ++ xs) (sym (tried_open ps epochs p stands).used) ∙ tried_epochs ps epochs)
    (λ s t e. from_epochs rules vs s t e))
    (λ passed. from_epochs rules vs set begun epochs)

pub round_epochs : (rules : Rules) (epochs : List ℕ) → epochs_of (round_of rules epochs).tries ++ (round_of rules epochs).unused ≡ epochs
unfolding round_of
round_epochs rules epochs = from_epochs rules (node_order rules) (root_set rules) [] epochs

-- ---- more epochs for a round that is through

-- with further epochs that nothing used
abbrev pub with_spare : List ℕ → RoundState → RoundState
with_spare epochs stand = record { set = stand.set; tries = stand.tries; at = stand.at; unused = stand.unused ++ epochs }

answered_from_through : (set : List Bool) (begun : List Try) (v : ℕ) (tried : Tried) (rest : Rest) (verdict : Verdict) → (after_verdict set begun v tried rest verdict).at ≡ None → IsAnswered verdict
answered_from_through set begun v tried rest Granted h = tt
answered_from_through set begun v tried rest Refused h = tt
answered_from_through set begun v tried rest (OpenAt p) h = absurd (cc)

verdict_more : (set : List Bool) (begun : List Try) (v : ℕ) (tried : Tried) (more : List ℕ) (rest : Rest) (verdict : Verdict) → ((s : List Bool) (t : List Try) (e : List ℕ) → (rest s t e).at ≡ None → rest s t (e ++ more) ≡ with_spare more (rest s t e)) → (after_verdict set begun v tried rest verdict).at ≡ None → after_verdict set begun v (with_unused more tried) rest verdict ≡ with_spare more (after_verdict set begun v tried rest verdict)
verdict_more set begun v tried more rest Granted go h = go (with_member set v) (begun ++ tried.tries) tried.unused h
verdict_more set begun v tried more rest Refused go h = go set (begun ++ tried.tries) tried.unused h
verdict_more set begun v tried more rest (OpenAt p) go h = absurd (cc)

on_tried : (rules : Rules) (v : ℕ) (vs : List ℕ) (set : List Bool) (begun : List Try) (epochs : List ℕ) → is_tried rules set v ≡ true → round_from rules (v ∷ vs) set begun epochs ≡ after_tries set begun v (tried_patches (outgoing rules.mesh.index.fields v) epochs) (λ s t e. round_from rules vs s t e)
unfolding round_from
on_tried rules v vs set begun epochs is =
    cond-true (is_tried rules set v) (after_tries set begun v (tried_patches (outgoing rules.mesh.index.fields v) epochs) (λ s t e. round_from rules vs s t e)) (round_from rules vs set begun epochs) is

-- a node that is tried, with all of its answers
on_answered : (rules : Rules) (v : ℕ) (vs : List ℕ) (set : List Bool) (begun : List Try) (epochs more : List ℕ) → is_tried rules set v ≡ true → IsAnswered (tried_patches (outgoing rules.mesh.index.fields v) epochs).verdict → round_from rules (v ∷ vs) set begun (epochs ++ more) ≡ after_tries set begun v (with_unused more (tried_patches (outgoing rules.mesh.index.fields v) epochs)) (λ s t e. round_from rules vs s t e)
on_answered rules v vs set begun epochs more is answered =
    on_tried rules v vs set begun (epochs ++ more) is ∙ ap (λ (t : Tried). after_tries set begun v t (λ s t e. round_from rules vs s t e)) (tried_more (outgoing rules.mesh.index.fields v) epochs more answered)

on_passed : (rules : Rules) (v : ℕ) (vs : List ℕ) (set : List Bool) (begun : List Try) (epochs : List ℕ) → is_tried rules set v ≡ false → round_from rules (v ∷ vs) set begun epochs ≡ round_from rules vs set begun epochs
unfolding round_from
on_passed rules v vs set begun epochs passed =
    cond-false (is_tried rules set v) (after_tries set begun v (tried_patches (outgoing rules.mesh.index.fields v) epochs) (λ s t e. round_from rules vs s t e)) (round_from rules vs set begun epochs) passed

from_through : (rules : Rules) (vs : List ℕ) (set : List Bool) (begun : List Try) (epochs more : List ℕ) → (round_from rules vs set begun epochs).at ≡ None → round_from rules vs set begun (epochs ++ more) ≡ with_spare more (round_from rules vs set begun epochs)
unfolding round_from
from_through rules [] set begun epochs more h = refl
from_through rules (v ∷ vs) set begun epochs more h =
    let tried = tried_patches (outgoing rules.mesh.index.fields v) epochs in
    let rest : Rest = λ s t e. round_from rules vs s t e in
    cond_both (is_tried rules set v) (after_tries set begun v tried rest) (round_from rules vs set begun epochs) (λ (stand : RoundState). stand.at ≡ None → round_from rules (v ∷ vs) set begun (epochs ++ more) ≡ with_spare more stand)
    (λ is through. on_answered rules v vs set begun epochs more is (answered_from_through set begun v tried rest tried.verdict through)
    ∙ verdict_more set begun v tried more rest tried.verdict (λ s t e. from_through rules vs s t e more) through)
    (λ passed through. on_passed rules v vs set begun (epochs ++ more) passed ∙ from_through rules vs set begun epochs more through) h

pub round_through : (rules : Rules) (epochs more : List ℕ) → (round_of rules epochs).at ≡ None → round_of rules (epochs ++ more) ≡ with_spare more (round_of rules epochs)
unfolding round_of
round_through rules epochs more h = from_through rules (node_order rules) (root_set rules) [] epochs more h

-- ---- more epochs for a round that stands at a patch

-- the round stands at a patch of the node in hand, which is tried: nodes and patches that follow are what
-- is left, no epoch is left over, and with more epochs the round goes on at that patch
pub record StandsAt (rules : Rules) (vs : List ℕ) (start : List Bool) (begun : List Try) (epochs : List ℕ) (stand : RoundState) (hand : NodeInProgress) : Type 0 where
  pub gone : List ℕ
  pub rest : List ℕ
  pub nodes : vs ≡ gone ++ hand.node ∷ rest
  pub later : List ℕ
  pub patches : outgoing rules.mesh.index.fields hand.node ≡ patches_of hand.granted ++ hand.patch ∷ later
  pub tried : is_tried rules stand.set hand.node ≡ true
  pub granted : AllByRecursion (λ (t : Try). is_odd t.epoch ≡ true) hand.granted
  pub earlier : List Try
  pub tries : stand.tries ≡ earlier ++ hand.granted
  pub used : stand.unused ≡ []
  pub on : (more : List ℕ) → round_from rules vs start begun (epochs ++ more) ≡ after_tries stand.set earlier hand.node (with_granted hand.granted (tried_patches (hand.patch ∷ later) more)) (λ s t e. round_from rules rest s t e)

-- past a first node the round is the one from the next node on
past_first : (rules : Rules) (v : ℕ) (vs : List ℕ) (set start : List Bool) (begun tries : List Try) (epochs left : List ℕ) (stand : RoundState) (hand : NodeInProgress) → ((more : List ℕ) → round_from rules (v ∷ vs) set begun (epochs ++ more) ≡ round_from rules vs start tries (left ++ more)) → StandsAt rules vs start tries left stand hand → StandsAt rules (v ∷ vs) set begun epochs stand hand
past_first rules v vs set start begun tries epochs left stand hand same at = record {
  gone = v ∷ at.gone;
  rest = at.rest;
  nodes = ap (λ (us : List ℕ). v ∷ us) at.nodes;
  later = at.later;
  patches = at.patches;
  tried = at.tried;
  granted = at.granted;
  earlier = at.earlier;
  tries = at.tries;
  used = at.used;
  on = λ more. same more ∙ at.on more;
}

pub hand_is : (hand other : NodeInProgress) → Some hand ≡ Some other → hand ≡ other
hand_is hand other e = cc

-- the verdict on the first node says how the round goes on
verdict_at : (rules : Rules) (v : ℕ) (vs : List ℕ) (set : List Bool) (begun : List Try) (epochs : List ℕ) (tried : Tried) (verdict : Verdict) (hand : NodeInProgress)
    → is_tried rules set v ≡ true
    → tried ≡ tried_patches (outgoing rules.mesh.index.fields v) epochs
    → tried.verdict ≡ verdict
    → ((s : List Bool) (t : List Try) (e : List ℕ) → (round_from rules vs s t e).at ≡ Some hand → StandsAt rules vs s t e (round_from rules vs s t e) hand)
    → (after_verdict set begun v tried (λ s t e. round_from rules vs s t e) verdict).at ≡ Some hand
    → StandsAt rules (v ∷ vs) set begun epochs (after_verdict set begun v tried (λ s t e. round_from rules vs s t e) verdict) hand
verdict_at rules v vs set begun epochs tried Granted hand is same verdict go h =
    let rest : Rest = λ s t e. round_from rules vs s t e in
    past_first rules v vs set (with_member set v) begun (begun ++ tried.tries) epochs tried.unused (rest (with_member set v) (begun ++ tried.tries) tried.unused) hand
    (λ more. on_answered rules v vs set begun epochs more is (subst IsAnswered (sym verdict ∙ ap (λ (t : Tried). t.verdict) same) tt)
    ∙ ap (λ (t : Tried). after_tries set begun v (with_unused more t) rest) (sym same)
    ∙ ap (λ (w : Verdict). after_verdict set begun v (with_unused more tried) rest w) verdict)
    (go (with_member set v) (begun ++ tried.tries) tried.unused h)
verdict_at rules v vs set begun epochs tried Refused hand is same verdict go h =
    let rest : Rest = λ s t e. round_from rules vs s t e in
    past_first rules v vs set set begun (begun ++ tried.tries) epochs tried.unused (rest set (begun ++ tried.tries) tried.unused) hand
    (λ more. on_answered rules v vs set begun epochs more is (subst IsAnswered (sym verdict ∙ ap (λ (t : Tried). t.verdict) same) tt)
    ∙ ap (λ (t : Tried). after_tries set begun v (with_unused more t) rest) (sym same)
    ∙ ap (λ (w : Verdict). after_verdict set begun v (with_unused more tried) rest w) verdict)
    (go set (begun ++ tried.tries) tried.unused h)
verdict_at rules v vs set begun epochs tried (OpenAt p) hand is same verdict go h =
    subst (StandsAt rules (v ∷ vs) set begun epochs (after_verdict set begun v tried (λ s t e. round_from rules vs s t e) (OpenAt p))) (hand_is (record { node = v; granted = tried.tries; patch = p }) hand h)
    (stands_here (subst (λ (t : Tried). IsOpenAt (outgoing rules.mesh.index.fields v) epochs t p) (sym same) (tried_open (outgoing rules.mesh.index.fields v) epochs p (sym (ap (λ (t : Tried). t.verdict) same) ∙ verdict))))
  where
    stands_here : IsOpenAt (outgoing rules.mesh.index.fields v) epochs tried p → StandsAt rules (v ∷ vs) set begun epochs (record { set = set; tries = begun ++ tried.tries; at = Some (record { node = v; granted = tried.tries; patch = p }); unused = [] }) (record { node = v; granted = tried.tries; patch = p })
    stands_here at = record {
      gone = [];
      rest = vs;
      nodes = refl;
      later = at.later;
      patches = at.patches;
      tried = is;
      granted = at.granted;
      earlier = begun;
      tries = refl;
      used = refl;
      on = λ more. on_tried rules v vs set begun (epochs ++ more) is ∙ ap (λ (t : Tried). after_tries set begun v t (λ s t e. round_from rules vs s t e)) (at.on more);
    }

from_stands : (rules : Rules) (vs : List ℕ) (set : List Bool) (begun : List Try) (epochs : List ℕ) (hand : NodeInProgress) → (round_from rules vs set begun epochs).at ≡ Some hand → StandsAt rules vs set begun epochs (round_from rules vs set begun epochs) hand
unfolding round_from
from_stands rules [] set begun epochs hand h = absurd (cc)
from_stands rules (v ∷ vs) set begun epochs hand h =
    let tried = tried_patches (outgoing rules.mesh.index.fields v) epochs in
    let rest : Rest = λ s t e. round_from rules vs s t e in
    cond_both (is_tried rules set v) (after_tries set begun v tried rest) (round_from rules vs set begun epochs) (λ (stand : RoundState). stand.at ≡ Some hand → StandsAt rules (v ∷ vs) set begun epochs stand hand)
    (λ is at. verdict_at rules v vs set begun epochs tried tried.verdict hand is refl refl (λ s t e. from_stands rules vs s t e hand) at)
    (λ passed at. past_first rules v vs set set begun begun epochs epochs (round_from rules vs set begun epochs) hand (λ more. on_passed rules v vs set begun (epochs ++ more) passed) (from_stands rules vs set begun epochs hand at)) h

pub round_stands : (rules : Rules) (epochs : List ℕ) (hand : NodeInProgress) → (round_of rules epochs).at ≡ Some hand → StandsAt rules (node_order rules) (root_set rules) [] epochs (round_of rules epochs) hand
unfolding round_of
round_stands rules epochs hand h = from_stands rules (node_order rules) (root_set rules) [] epochs hand h
