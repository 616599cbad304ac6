-- Levels as far as they are found, and laws of levels.
use Rattle.std.specs.Prelude.{◌≡◌, ℕ, ◌+◌, ◌<◌, ◌≤◌, ◌⊎◌, List, [], ◌∷◌, length, slice_get, Option, Some, None, option_map, unwrap_or}
use Rattle.std.specs.List.{Contains}
use Rattle.std.proofs.Common.{arith}
use Rattle.file_model.specs.declared.fields.PatchField.{PatchField}
use Rattle.mesh_model.specs.Walks.{IsGrounded, IsLevel}

-- how many nodes have no level
unfoldable pub levels_missing : List (Option ℕ) → ℕ
levels_missing [] = 0
levels_missing (None ∷ levels) = levels_missing levels + 1
levels_missing (Some level ∷ levels) = levels_missing levels

-- the patch's tail has no level
pub record IsOpen (fields : List PatchField) (levels : List (Option ℕ)) (patch : ℕ) : Type 0 where
  pub field : PatchField
  pub there : slice_get fields patch ≡ Some field
  pub missing : slice_get levels field.tail ≡ Some None

-- a patch that leads to the node comes from one that has no level
pub record HasOpenParent (fields : List PatchField) (levels : List (Option ℕ)) (v : ℕ) : Type 0 where
  pub patch : ℕ
  pub field : PatchField
  pub there : slice_get fields patch ≡ Some field
  pub leads : field.head ≡ v
  pub missing : slice_get levels field.tail ≡ Some None

-- the levels that were found are true, and each leaves room for those that are missing
pub record AreLevels (fields : List PatchField) (levels : List (Option ℕ)) : Type 0 where
  pub found : (v level : ℕ) → slice_get levels v ≡ Some (Some level) → IsLevel fields v level
  pub room : (v level : ℕ) → slice_get levels v ≡ Some (Some level) → level + levels_missing levels < length levels

-- a node without a level waits, or has a parent without one
abbrev pub AreWaiting : List PatchField → List (Option ℕ) → List ℕ → Type 0
AreWaiting fields levels waiting = (v : ℕ) → slice_get levels v ≡ Some None → Contains waiting v ⊎ HasOpenParent fields levels v

-- the patch's tail has this level
pub record HasTailLevel (fields : List PatchField) (levels : List (Option ℕ)) (patch level : ℕ) : Type 0 where
  pub field : PatchField
  pub there : slice_get fields patch ≡ Some field
  pub tail : slice_get levels field.tail ≡ Some (Some level)

-- one of the patches has a tail one level below
pub record IsOneAbove (fields : List PatchField) (levels : List (Option ℕ)) (patches : List ℕ) (level : ℕ) : Type 0 where
  pub patch : ℕ
  pub below : ℕ
  pub among : Contains patches patch
  pub has : HasTailLevel fields levels patch below
  pub above : level ≡ below + 1

-- the level is above those of all tails of the patches, and, but for 0, one above one of them
pub record IsLevelOver (fields : List PatchField) (levels : List (Option ℕ)) (patches : List ℕ) (level : ℕ) : Type 0 where
  pub each : (p : ℕ) → Contains patches p → (below : ℕ) × HasTailLevel fields levels p below × (below < level)
  pub reached : (level ≡ 0) ⊎ IsOneAbove fields levels patches level

-- the node had no level, and this is it
pub record IsNextLevel (fields : List PatchField) (levels : List (Option ℕ)) (v level : ℕ) : Type 0 where
  pub empty : slice_get levels v ≡ Some None
  pub is : IsLevel fields v level
  pub room : level + levels_missing levels ≤ length levels

-- each node has its level, or walks of any length end at it
pub record AreAllLevels (fields : List PatchField) (nodes : ℕ) (levels : List (Option ℕ)) : Type 0 where
  pub as_many : length levels ≡ nodes
  pub found : (v level : ℕ) → slice_get levels v ≡ Some (Some level) → IsLevel fields v level
  pub ungrounded : (v : ℕ) → slice_get levels v ≡ Some None → IsGrounded fields v → ⊥

-- the node is the least without a level
pub record IsLeastWithout (levels : List (Option ℕ)) (v : ℕ) : Type 0 where
  pub empty : slice_get levels v ≡ Some None
  pub least : (u : ℕ) → u < v → slice_get levels u ≡ Some None → ⊥

-- the head of the patch of this number
abbrev pub head_of : List PatchField → ℕ → ℕ
head_of fields patch = unwrap_or (option_map (λ f. f.head) (slice_get fields patch)) 0

-- a node has one level
pub level_is_one : (fields : List PatchField) (v a b : ℕ) → IsLevel fields v a → IsLevel fields v b → a ≡ b
level_is_one fields v a b is_a is_b =
    let below : length is_a.reached.0 ≤ b = is_b.bound is_a.reached.0 is_a.reached.1 in
    let above : length is_b.reached.0 ≤ a = is_a.bound is_b.reached.0 is_b.reached.1 in
    omega (arith, is_a.reached.2, is_b.reached.2)

-- a node with a level is grounded
pub level_grounds : (fields : List PatchField) (v level : ℕ) → IsLevel fields v level → IsGrounded fields v
level_grounds fields v level is_level = (level, is_level.bound)
