-- A round on its way through the order: the first candidate is taken.
use Rattle.std.proofs.Common.{◌≡◌, ℕ, Bool, true, false, ◌&&◌, leb, List, [], ◌∷◌, ◌++◌, sym, ap, subst, ◌∙◌, arith, append_assoc}
use Rattle.std.specs.List.{AllByRecursion}
use Rattle.std.specs.List.Sorted.{IsPermutation}
use Rattle.std.proofs.lemmas.Bool.{and_from, and_right}
use Rattle.mesh_model.specs.Meshes.{MeshLists}
use Rattle.round_model.specs.Order.{Rules}
use Rattle.round_model.specs.Rounds.{has, with_member, has_parents, frame_size, is_wanted, is_within_limit, is_tried}
use Rattle.cut_refiner.specs.declared.candidates.Candidate.{Candidate}
use Rattle.cut_refiner.specs.declared.refinement_states.RefinementState.{RefinementState}
use Rattle.cut_refiner.specs.Candidates.{Waiting, IsFirst}
use Rattle.cut_refiner.specs.RoundRules.{AreRules}
use Rattle.cut_refiner.specs.GrowingCuts.{IsGrowing}
use Rattle.cut_refiner.specs.RefinementStates.{IsWaiting, IsGoing, ArePassed, IsFound}
use Rattle.cut_refiner.proofs.ReadyLaws.{IsTaken, taken, none_ready}

-- the refinement state with other candidates, and another size of the next frame
abbrev pub with_candidates : RefinementState → Waiting → ℕ → RefinementState
with_candidates refinement waiting size = record { growing = refinement.growing; candidates = waiting; next_size = size }

-- a round before what follows nodes that aren't tried
pub record IsLeft (rules : Rules) (rest : List ℕ) (refinement : RefinementState) : Type 0 where
  pub passed : List ℕ
  pub later : List ℕ
  pub split : rest ≡ passed ++ later
  pub are_passed : ArePassed rules refinement.growing.in_cut.items passed
  pub going : IsGoing rules later refinement

passed_both : (P : ℕ → Type 0) (us vs : List ℕ) → AllByRecursion P us → AllByRecursion P vs → AllByRecursion P (us ++ vs)
passed_both P [] vs h k = k
passed_both P (u ∷ us) vs h k = (h.0, passed_both P us vs h.1 k)

-- a node between two lists, as the last of the first
node_last : (us vs ws : List ℕ) (v : ℕ) → us ++ (vs ++ v ∷ ws) ≡ (us ++ (vs ++ v ∷ [])) ++ ws
node_last us vs ws v =
    sym (append_assoc us (vs ++ v ∷ []) ws ∙ ap (λ (xs : List ℕ). us ++ xs) (append_assoc vs (v ∷ []) ws))

module _ (rules : Rules) (are : AreRules rules) (rest : List ℕ) (refinement : RefinementState) (waiting : Waiting) (x : Candidate) (left : IsLeft rules rest refinement) (permuted : IsPermutation refinement.candidates.items (x ∷ waiting.items)) (first : IsFirst x refinement.candidates.items) (room : waiting.room ≡ refinement.candidates.room) where
  abbrev v : ℕ
  v = x.node.0

  abbrev set : List Bool
  set = refinement.growing.in_cut.items

  going : IsGoing rules left.later refinement
  going = left.going

  popped : IsTaken rules left.later refinement.growing.missing.items set waiting.items v
  popped = taken rules left.later refinement.growing.missing.items set refinement.candidates.items waiting.items x going.gone going.waiting permuted first going.order going.growing.each

  pub popped_grows : IsGrowing rules.mesh set refinement.growing.missing.items refinement.growing.size v
  popped_grows = record {
    is_mesh = are.mesh;
    growing = going.growing;
    node = popped.node;
    outside = going.outside v popped.among;
    parents = popped.parents;
  }

  goes_on : (size : ℕ) → IsGoing rules popped.after (with_candidates refinement waiting size)
  goes_on size = record {
    growing = going.growing;
    waiting = popped.waiting;
    room = let was = going.room in omega arith;
    outside = λ u there. going.outside u (popped.later u there);
    gone = going.gone ++ (popped.before ++ v ∷ []);
    order = going.order ∙ ap (λ (us : List ℕ). going.gone ++ us) popped.split ∙ node_last going.gone popped.before popped.after v;
  }

  wanted_parents : (is_wanted rules v && has_parents rules.mesh.index.fields set v) ≡ true
  wanted_parents = and_from (is_wanted rules v) (has_parents rules.mesh.index.fields set v) popped.wanted popped.parents

  pub popped_is_found : (size : ℕ) → size ≡ frame_size (has (with_member set v)) rules.mesh.index.fields → is_within_limit rules set v ≡ true → IsFound rules rest (with_candidates refinement waiting size) v
  popped_is_found size is within = record {
    passed = left.passed ++ popped.before;
    later = popped.after;
    split = left.split ∙ ap (λ (us : List ℕ). left.passed ++ us) popped.split ∙ sym (append_assoc left.passed popped.before (v ∷ popped.after));
    are_passed = passed_both (λ u. is_tried rules set u ≡ false) left.passed popped.before left.are_passed popped.are_passed;
    tried = and_from (is_wanted rules v && has_parents rules.mesh.index.fields set v) (is_within_limit rules set v) wanted_parents within;
    outside = going.outside v popped.among;
    size = is;
    going = goes_on size;
  }

  pub popped_is_passed : is_within_limit rules set v ≡ false → IsLeft rules rest (with_candidates refinement waiting refinement.next_size)
  popped_is_passed over = record {
    passed = left.passed ++ (popped.before ++ v ∷ []);
    later = popped.after;
    split = left.split ∙ ap (λ (us : List ℕ). left.passed ++ us) popped.split ∙ node_last left.passed popped.before popped.after v;
    are_passed = passed_both (λ u. is_tried rules set u ≡ false) left.passed (popped.before ++ v ∷ []) left.are_passed
        (passed_both (λ u. is_tried rules set u ≡ false) popped.before (v ∷ []) popped.are_passed (and_right (is_wanted rules v && has_parents rules.mesh.index.fields set v) (is_within_limit rules set v) over, tt));
    going = goes_on refinement.next_size;
  }

-- without a candidate the rest is passed
pub none_left : (rules : Rules) (rest : List ℕ) (refinement : RefinementState) → IsLeft rules rest refinement → refinement.candidates.items ≡ [] → ArePassed rules refinement.growing.in_cut.items rest
none_left rules rest refinement left empty =
    let going = left.going in
    let waiting = subst (λ (items : List Candidate). IsWaiting rules left.later refinement.growing.missing.items items) empty going.waiting in
    subst (ArePassed rules refinement.growing.in_cut.items) (sym left.split)
    (passed_both (λ u. is_tried rules refinement.growing.in_cut.items u ≡ false) left.passed left.later left.are_passed
    (none_ready rules left.later refinement.growing.missing.items refinement.growing.in_cut.items going.gone waiting going.order going.growing.each))

-- what the size of the frame with the node tells
pub limit_tells : (rules : Rules) (mesh : MeshLists) (set : List Bool) (v size : ℕ) (r : Bool) → mesh ≡ rules.mesh → size ≡ frame_size (has (with_member set v)) mesh.index.fields → r ≡ leb size rules.limit → is_within_limit rules set v ≡ r
limit_tells rules mesh set v size r same is told =
    ap (λ (m : MeshLists). leb (frame_size (has (with_member set v)) m.index.fields) rules.limit) (sym same) ∙ ap (λ n. leb n rules.limit) (sym is) ∙ sym told
