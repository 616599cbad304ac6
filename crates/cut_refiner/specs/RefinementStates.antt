-- A round on its way through the order of the nodes.
use Rattle.std.specs.Prelude.{◌≡◌, ℕ, ◌<◌, ◌≤◌, ◌==◌, Bool, true, false, not, ◌&&◌, List, ◌∷◌, ◌++◌, length, slice_get, slice_index, Option, Some, None}
use Rattle.std.specs.List.{AllByRecursion, sum_by}
use Rattle.file_model.specs.declared.fields.PatchField.{PatchField}
use Rattle.mesh_model.specs.Graph.{is_sink}
use Rattle.mesh_model.specs.Nets.{one_if}
use Rattle.round_model.specs.Order.{Rules, score, level, node_order}
use Rattle.round_model.specs.Rounds.{has, has_parents, with_member, frame_size, is_wanted, is_tried}
use Rattle.round_laws.specs.Among.{is_among}
use Rattle.cut_refiner.specs.declared.candidates.Candidate.{Candidate}
use Rattle.cut_refiner.specs.declared.refinement_states.RefinementState.{RefinementState}
use Rattle.cut_refiner.specs.GrowingCuts.{IsGrowingCut}

-- the candidate is a node with its score and level
pub record IsCandidate (rules : Rules) (c : Candidate) : Type 0 where
  pub scored : c.score ≡ score rules c.node.0
  pub levelled : c.level.0 ≡ level rules c.node.0

-- how often the node stands among the candidates
unfoldable pub times_of : List Candidate → ℕ → ℕ
times_of items v = sum_by (λ (c : Candidate). one_if (c.node.0 == v)) items

-- a wanted node of the rest of the order to which no patch leads from outside the set
abbrev pub is_ready : Rules → List ℕ → List ℕ → ℕ → Bool
is_ready rules rest missing v = is_among rest v && (is_wanted rules v && (slice_index missing v == 0))

-- the candidates are the nodes that are ready, each once
pub record IsWaiting (rules : Rules) (rest missing : List ℕ) (items : List Candidate) : Type 0 where
  pub each : AllByRecursion (IsCandidate rules) items
  pub once : (v : ℕ) → times_of items v ≡ one_if (is_ready rules rest missing v)

-- a round before this rest of the order
pub record IsGoing (rules : Rules) (rest : List ℕ) (refinement : RefinementState) : Type 0 where
  pub growing : IsGrowingCut rules.mesh refinement.growing.in_cut.items refinement.growing.missing.items refinement.growing.size
  pub waiting : IsWaiting rules rest refinement.growing.missing.items refinement.candidates.items
  pub room : length rules.mesh.index.nodes ≤ refinement.candidates.room
  pub outside : (v : ℕ) → is_among rest v ≡ true → has refinement.growing.in_cut.items v ≡ false
  pub gone : List ℕ
  pub order : node_order rules ≡ gone ++ rest

-- the node isn't in the set, all its parents are, and of its children those that are no sinks stand in the
-- rest of the order
pub record CanJoin (rules : Rules) (rest : List ℕ) (refinement : RefinementState) (v : ℕ) : Type 0 where
  pub going : IsGoing rules rest refinement
  pub node : v < length rules.mesh.index.nodes
  pub outside : has refinement.growing.in_cut.items v ≡ false
  pub parents : has_parents rules.mesh.index.fields refinement.growing.in_cut.items v ≡ true
  pub past : is_among rest v ≡ false
  pub children : (p : ℕ) (f : PatchField) → slice_get rules.mesh.index.fields p ≡ Some f → f.tail ≡ v → is_among rest f.head ≡ not (is_sink rules.mesh.index.fields f.head)

-- the nodes aren't tried by the set
abbrev pub ArePassed : Rules → List Bool → List ℕ → Type 0
ArePassed rules set vs = AllByRecursion (λ v. is_tried rules set v ≡ false) vs

-- the node is the first of the rest that is tried by the set, the size is that of the frame with it, and the
-- round stands before what follows it
pub record IsFound (rules : Rules) (rest : List ℕ) (refinement : RefinementState) (v : ℕ) : Type 0 where
  pub passed : List ℕ
  pub later : List ℕ
  pub split : rest ≡ passed ++ v ∷ later
  pub are_passed : ArePassed rules refinement.growing.in_cut.items passed
  pub tried : is_tried rules refinement.growing.in_cut.items v ≡ true
  pub outside : has refinement.growing.in_cut.items v ≡ false
  pub size : refinement.next_size ≡ frame_size (has (with_member refinement.growing.in_cut.items v)) rules.mesh.index.fields
  pub going : IsGoing rules later refinement

-- the next node of the rest that is tried by the set, or none
abbrev pub IsNext : Rules → List ℕ → RefinementState → Option ℕ → Type 0
IsNext rules rest refinement None = ArePassed rules refinement.growing.in_cut.items rest
IsNext rules rest refinement (Some v) = IsFound rules rest refinement v
