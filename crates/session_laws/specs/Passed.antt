-- What a round has gone through: whose patches it tried, and that each node of its set had all of its patches
-- granted.
use Rattle.std.proofs.Common.{◌≡◌, ℕ, ◌⊎◌, Bool, true, false, List, [], ◌∷◌, ◌++◌, length, replicate, Option, Some, None, refl, sym, subst, ◌∙◌, append_assoc, append-nil, inl, inr}
use Rattle.std.specs.List.{AllByRecursion}
use Rattle.std.proofs.lemmas.Bool.{cond_both, or_cases, or_left, or_right}
use Rattle.file_model.specs.declared.fields.PatchField.{PatchField}
use Rattle.file_model.specs.declared.fields.Try.{Try}
use Rattle.file_model.specs.Tries.{is_odd}
use Rattle.mesh_model.specs.Graph.{outgoing}
use Rattle.round_model.specs.Order.{Rules, node_order}
use Rattle.round_model.specs.Tries.{Verdict, Granted, Refused, OpenAt, Tried, tried_patches}
use Rattle.round_model.specs.Rounds.{NodeInProgress, RoundState, has, with_member, is_tried, after_verdict, after_tries, round_from, root_set, round_of, patches_of}
use Rattle.round_laws.specs.Members.{had_or_is, empty_has_none}
use Rattle.round_laws.specs.Among.{is_among, among_both, middle_among}
use Rattle.round_laws.specs.Answers.{tried_open}
use Rattle.session_model.specs.Locks.{was_tried, was_granted}
use Rattle.round_laws.specs.Arcs.{is_from, among_outgoing}
use Rattle.session_laws.specs.Tested.{tried_both, granted_both, tried_among, among_was_granted}

-- the nodes that the round is past, with the set and the tries that they gave: each patch that was tried leads
-- from one of them, each node of the set but the root is one of them, and had all of its patches granted
pub record WentThrough (rules : Rules) (gone : List ℕ) (set : List Bool) (tries : List Try) : Type 0 where
  pub tails : (p : ℕ) → was_tried tries p ≡ true → (v : ℕ) × (is_from rules.mesh.index.fields v p ≡ true) × (is_among gone v ≡ true)
  pub members : (v : ℕ) → has set v ≡ true → (rules.mesh.root ≡ v) ⊎ (is_among gone v ≡ true)
  pub granted : (v p : ℕ) → has set v ≡ true → (rules.mesh.root ≡ v → ⊥) → is_from rules.mesh.index.fields v p ≡ true → was_granted tries p ≡ true

-- the round stands at a patch of the node in hand: it is past the nodes in front of it, and what was tried of
-- the node itself was granted
pub record IsInHand (rules : Rules) (order : List ℕ) (stand : RoundState) (hand : NodeInProgress) : Type 0 where
  pub gone : List ℕ
  pub rest : List ℕ
  pub nodes : order ≡ gone ++ hand.node ∷ rest
  pub earlier : List Try
  pub tries : stand.tries ≡ earlier ++ hand.granted
  pub went : WentThrough rules gone stand.set earlier
  pub later : List ℕ
  pub patches : outgoing rules.mesh.index.fields hand.node ≡ patches_of hand.granted ++ hand.patch ∷ later
  pub granted : AllByRecursion (λ (t : Try). is_odd t.epoch ≡ true) hand.granted

abbrev pub IsPlacedAt : Rules → List ℕ → RoundState → Option NodeInProgress → Type 0
IsPlacedAt rules order stand None = WentThrough rules order stand.set stand.tries
IsPlacedAt rules order stand (Some hand) = IsInHand rules order stand hand

-- the round is past all nodes of the order, or stands at a patch of one
abbrev pub IsPlaced : Rules → List ℕ → RoundState → Type 0
IsPlaced rules order stand = IsPlacedAt rules order stand stand.at

-- ---- past one more node

module _ (rules : Rules) (gone : List ℕ) (v : ℕ) (set : List Bool) (tries : List Try) (went : WentThrough rules gone set tries) where
  abbrev fields : List PatchField
  fields = rules.mesh.index.fields

  still_among : (u : ℕ) → is_among gone u ≡ true → is_among (gone ++ v ∷ []) u ≡ true
  still_among u there = among_both gone (v ∷ []) u ∙ or_left (is_among gone u) (is_among (v ∷ []) u) there

  pub passed_by : WentThrough rules (gone ++ v ∷ []) set tries
  passed_by = record {
    tails = λ p is. let from = went.tails p is in (from.0, from.1, still_among from.0 from.2);
    members = λ u is. elim (went.members u is) [ inl root ↦ inl root | inr there ↦ inr (still_among u there) ];
    granted = went.granted;
  }

  -- a patch that was tried now or before
  tails_with : (more : List Try) → ((p : ℕ) → was_tried more p ≡ true → is_among (outgoing fields v) p ≡ true) → (p : ℕ) → was_tried (tries ++ more) p ≡ true → (u : ℕ) × (is_from fields u p ≡ true) × (is_among (gone ++ v ∷ []) u ≡ true)
  tails_with more among p is =
      elim (or_cases (was_tried tries p) (was_tried more p) (sym (tried_both tries more p) ∙ is)) [
        | inl before ↦ passed_by.tails p before
        | inr now ↦ (v, sym (among_outgoing fields v p) ∙ among p now, middle_among gone [] v)
      ]

  still_granted : (more : List Try) (p : ℕ) → was_granted tries p ≡ true → was_granted (tries ++ more) p ≡ true
  still_granted more p is = granted_both tries more p ∙ or_left (was_granted tries p) (was_granted more p) is

  -- the node misses
  pub missed : (more : List Try) → ((p : ℕ) → was_tried more p ≡ true → is_among (outgoing fields v) p ≡ true) → WentThrough rules (gone ++ v ∷ []) set (tries ++ more)
  missed more among = record {
    tails = tails_with more among;
    members = passed_by.members;
    granted = λ u p is other from. still_granted more p (went.granted u p is other from);
  }

  -- the node joins
  pub joined : (more : List Try) → ((p : ℕ) → was_tried more p ≡ true → is_among (outgoing fields v) p ≡ true) → ((p : ℕ) → is_among (outgoing fields v) p ≡ true → was_granted more p ≡ true) → WentThrough rules (gone ++ v ∷ []) (with_member set v) (tries ++ more)
  joined more among all = record {
    tails = tails_with more among;
    members = λ u is. elim (had_or_is set v u is) [
      | inl same ↦ inr (subst (λ (w : ℕ). is_among (gone ++ v ∷ []) w ≡ true) same (middle_among gone [] v))
      | inr had ↦ passed_by.members u had
    ];
    granted = λ u p is other from. elim (had_or_is set v u is) [
      | inl same ↦ granted_both tries more p ∙ or_right (was_granted tries p) (was_granted more p) (all p (among_outgoing fields v p ∙ subst (λ (w : ℕ). is_from fields w p ≡ true) (sym same) from))
      | inr had ↦ still_granted more p (went.granted u p had other from)
    ];
  }

-- ---- through the order

module _ (rules : Rules) (v : ℕ) (vs gone : List ℕ) (set : List Bool) (begun : List Try) (epochs : List ℕ) (went : WentThrough rules gone set begun) where
  abbrev tried : Tried
  tried = tried_patches (outgoing rules.mesh.index.fields v) epochs

  abbrev Rest : Type 0
  Rest = List Bool → List Try → List ℕ → RoundState

  by_verdict : (rest : Rest) (verdict : Verdict) → tried.verdict ≡ verdict → ((s : List Bool) (t : List Try) (e : List ℕ) → WentThrough rules (gone ++ v ∷ []) s t → IsPlaced rules (gone ++ v ∷ vs) (rest s t e)) → IsPlaced rules (gone ++ v ∷ vs) (after_verdict set begun v tried rest verdict)
  by_verdict rest Granted is go =
      go (with_member set v) (begun ++ tried.tries) tried.unused
      (joined rules gone v set begun went tried.tries (tried_among (outgoing rules.mesh.index.fields v) epochs) (λ p. among_was_granted (outgoing rules.mesh.index.fields v) epochs p is))
  by_verdict rest Refused is go =
      go set (begun ++ tried.tries) tried.unused (missed rules gone v set begun went tried.tries (tried_among (outgoing rules.mesh.index.fields v) epochs))
  by_verdict rest (OpenAt p) is go =
      let open_at = tried_open (outgoing rules.mesh.index.fields v) epochs p is in
      record {
        gone = gone;
        rest = vs;
        nodes = refl;
        earlier = begun;
        tries = refl;
        went = went;
        later = open_at.later;
        patches = open_at.patches;
        granted = open_at.granted;
      }

from_placed : (rules : Rules) (vs gone : List ℕ) (set : List Bool) (begun : List Try) (epochs : List ℕ) → WentThrough rules gone set begun → IsPlaced rules (gone ++ vs) (round_from rules vs set begun epochs)
unfolding round_from
from_placed rules [] gone set begun epochs went = rw (append-nil gone) went
from_placed rules (v ∷ vs) gone set begun epochs went =
    let same = append_assoc gone (v ∷ []) vs in
    let go : (s : List Bool) (t : List Try) (e : List ℕ) → WentThrough rules (gone ++ v ∷ []) s t → IsPlaced rules (gone ++ v ∷ vs) (round_from rules vs s t e) = λ s t e h. subst (λ (order : List ℕ). IsPlaced rules order (round_from rules vs s t e)) same (from_placed rules vs (gone ++ v ∷ []) s t e h) in
    cond_both (is_tried rules set v) (after_tries set begun v (tried_patches (outgoing rules.mesh.index.fields v) epochs) (λ s t e. round_from rules vs s t e)) (round_from rules vs set begun epochs) (IsPlaced rules (gone ++ v ∷ vs))
    (λ is. by_verdict rules v vs gone set begun epochs went (λ s t e. round_from rules vs s t e) (tried_patches (outgoing rules.mesh.index.fields v) epochs).verdict refl go)
    (λ passed. go set begun epochs (passed_by rules gone v set begun went))

at_start : (rules : Rules) → WentThrough rules [] (root_set rules) []
unfolding root_set
at_start rules = record {
  tails = λ p is. absurd (cc);
  members = λ v is. only v is;
  granted = λ v p is other from. elim (only v is) [ inl root ↦ absurd (other root) | inr never ↦ absurd (cc) ];
}
  where
    only : (v : ℕ) → has (with_member (replicate (length rules.mesh.index.nodes) false) rules.mesh.root) v ≡ true → (rules.mesh.root ≡ v) ⊎ (is_among [] v ≡ true)
    only v is =
        elim (had_or_is (replicate (length rules.mesh.index.nodes) false) rules.mesh.root v is) [
          | inl root ↦ inl root
          | inr had ↦ absurd (let none = empty_has_none (length rules.mesh.index.nodes) v in cc)
        ]

pub round_placed : (rules : Rules) (epochs : List ℕ) → IsPlaced rules (node_order rules) (round_of rules epochs)
unfolding round_of
round_placed rules epochs = from_placed rules (node_order rules) [] (root_set rules) [] epochs (at_start rules)
