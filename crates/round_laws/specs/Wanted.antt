-- Nodes that a view wants, a frame in which all of them fit, and tries that were all granted.
use Rattle.std.specs.Prelude.{◌≡◌, ℕ, ◌≤◌, Bool, true, List, [], ◌∷◌, ◌++◌, Some, slice_get}
use Rattle.std.specs.List.{AllByRecursion}
use Rattle.file_model.specs.declared.fields.PatchField.{PatchField}
use Rattle.file_model.specs.declared.fields.Try.{Try}
use Rattle.file_model.specs.Tries.{is_odd}
use Rattle.round_model.specs.Order.{Rules, node_order}
use Rattle.round_model.specs.Rounds.{has, with_member, frame_size, is_wanted, root_set}
use Rattle.round_laws.specs.Ascending.{IsInnerNode}

-- the set with all these nodes
unfoldable pub with_members : List Bool → List ℕ → List Bool
with_members set [] = set
with_members set (v ∷ vs) = with_members (with_member set v) vs

-- the view wants each of the nodes
abbrev pub AreWanted : Rules → List ℕ → Type 0
AreWanted rules vs = AllByRecursion (λ v. is_wanted rules v ≡ true) vs

-- the frame of the root and the first wanted nodes of the order, however many, has at most `limit` triangles
pub record FitsWanted (rules : Rules) : Type 0 where
  pub fits : (first rest : List ℕ) → node_order rules ≡ first ++ rest → AreWanted rules first → frame_size (has (with_members (root_set rules) first)) rules.mesh.index.fields ≤ rules.limit

-- each try was granted
abbrev pub AreGranted : List Try → Type 0
AreGranted tries = AllByRecursion (λ (t : Try). is_odd t.epoch ≡ true) tries

-- the patch leads from an inner node that the view wants
pub record IsOfWanted (rules : Rules) (p : ℕ) : Type 0 where
  pub field : PatchField
  pub there : slice_get rules.mesh.index.fields p ≡ Some field
  pub inner : IsInnerNode rules field.tail
  pub wanted : is_wanted rules field.tail ≡ true
