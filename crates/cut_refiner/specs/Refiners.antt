-- What a refiner keeps true of its parts.
use Rattle.std.specs.Prelude.{◌≡◌, ⊤, ℕ, ◌+◌, ◌-◌, ◌<◌, ◌≤◌, Bool, false, List, [], ◌∷◌, ◌++◌, length, take, Option, Some, None, vec_capacity}
use Rattle.std.specs.List.{sum_by}
use Rattle.std.specs.declared.vec.Vec.{Vec}
use Rattle.std.specs.declared.alloc.Global.{Global}
use Rattle.file_model.specs.declared.fields.Try.{Try}
use Rattle.mesh_model.specs.Graph.{outgoing}
use Rattle.round_model.specs.Order.{Rules, node_order}
use Rattle.round_model.specs.Rounds.{NodeInProgress, has, with_member, frame_size, round_of, epochs_of}
use Rattle.cut_refiner.specs.declared.refinement_states.RefinementState.{RefinementState}
use Rattle.cut_refiner.specs.declared.cut_lists.CutLists.{CutLists}
use Rattle.cut_refiner.specs.RoundRules.{AreRules}
use Rattle.cut_refiner.specs.RefinementStates.{IsGoing}
use Rattle.cut_refiner.specs.Hands.{AreLists}
use Rattle.cut_refiner.specs.Locks.{LockLists}

-- how many patches lead from the node
abbrev pub degree : Rules → ℕ → ℕ
degree rules v = length (outgoing rules.mesh.index.fields v)

-- the round is through with this set, and all epochs were used
pub record IsThrough (rules : Rules) (tries : List Try) (set : List Bool) : Type 0 where
  pub stand : round_of rules (epochs_of tries) ≡ record { set = set; tries = tries; at = None; unused = [] }

-- the round stands at a patch of this node, of whose patches so many were granted
pub record IsTrying (rules : Rules) (tries : List Try) (refinement : RefinementState) (node granted : ℕ) : Type 0 where
  pub hand : NodeInProgress
  pub stand : round_of rules (epochs_of tries) ≡ record { set = refinement.growing.in_cut.items; tries = tries; at = Some hand; unused = [] }
  pub node_is : hand.node ≡ node
  pub granted_is : length hand.granted ≡ granted
  pub outside : has refinement.growing.in_cut.items node ≡ false
  pub size : refinement.next_size ≡ frame_size (has (with_member refinement.growing.in_cut.items node)) rules.mesh.index.fields
  pub gone : List ℕ
  pub rest : List ℕ
  pub order : node_order rules ≡ gone ++ node ∷ rest
  pub going : IsGoing rules rest refinement
  pub most : length tries + (degree rules node - granted) + sum_by (degree rules) rest ≤ length rules.mesh.index.fields

-- where the round stands: at a patch of the node in hand, of whose patches so many were granted, or through
abbrev pub IsAt : Rules → List Try → RefinementState → ℕ → Option ℕ → Type 0
IsAt rules tries refinement granted None = IsThrough rules tries refinement.growing.in_cut.items
IsAt rules tries refinement granted (Some node) = IsTrying rules tries refinement node granted

-- the patches that are locked are the first ones of the node in hand
abbrev pub AreFirst : Rules → List ℕ → Option ℕ → Type 0
AreFirst rules locked None = ⊤
AreFirst rules locked (Some node) = locked ≡ take (length locked) (outgoing rules.mesh.index.fields node)

-- there is room for the patches of each node
abbrev pub HaveRoomForEach : Rules → ℕ → Type 0
HaveRoomForEach rules room = (v : ℕ) → v < length rules.mesh.index.nodes → degree rules v ≤ room

-- what the parts of a refiner are to each other
pub record IsRefiner (rules : Rules) (tries : Vec Try Global) (refinement : RefinementState) (lists : CutLists) (locks : LockLists) (hand : Option ℕ) : Type 0 where
  pub are : AreRules rules
  pub at : IsAt rules tries.items refinement (length locks.locked) hand
  pub room : length rules.mesh.index.fields ≤ vec_capacity tries
  pub are_lists : AreLists rules refinement.growing.in_cut.items lists hand
  pub are_first : AreFirst rules locks.locked hand
  pub for_each : HaveRoomForEach rules locks.room
