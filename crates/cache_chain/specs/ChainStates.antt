-- What callers see of a chain of tiers over a store, and what holds of it.
use Rattle.std.specs.Prelude.{◌≡◌, ℕ, suc, ◌≤◌, false, List, length, map, Option, Some, slice_get, IfSome, Err}
use Rattle.std.specs.Borrow.{GName}
use Rattle.file_model.specs.declared.faults.FileFault.{FileFault}
use Rattle.file_model.specs.Lists.{IndexLists, SeenBody}
use Rattle.view_outside.specs.Files.{Named, HasFile, file_bytes}
use Rattle.patch_file.specs.BodyRead.{IsBodyOf}
use Rattle.body_loads.specs.Loads.{body_at, read_as}
use Rattle.accepted_mesh.specs.MeshView.{MeshSeen}
use Rattle.tier_model.specs.Places.{is_marked}
use Rattle.tier_model.specs.Tiers.{TierState, base_marks, IsTier, IsMadeOf}
use Rattle.tier_budget.specs.TierView.{TierSeen}

-- a chain of tiers, the first the top, of a mesh whose file stands in a store, which was lent by a reference
pub record ChainSeen (S : Type 0) : Type 0 where
  pub mesh : MeshSeen
  pub tiers : List TierState
  pub file : ℕ
  pub store : S
  pub lender : GName

-- the tiers without the room of their journals
abbrev pub states_of : List TierSeen → List TierState
states_of tiers = map (λ (t : TierSeen). t.state) tiers

-- the body is the patch's, and where the bytes are told it is what they say
pub record IsFileBody (index : IndexLists) (bytes : Option (List ℕ)) (p : ℕ) (body : SeenBody) : Type 0 where
  pub right : IsBodyOf index p body
  pub told : IfSome bytes (λ bs. body_at index bs p ≡ read_as body)

-- where the bytes are told, they break the body rule of the patch with the fault
abbrev pub FindsChanged : IndexLists → Option (List ℕ) → ℕ → FileFault → Type 0
FindsChanged index bytes p fault = IfSome bytes (λ bs. body_at index bs p ≡ Some (Err fault))

-- what holds of each body, held or coming
pub record HasBodies (P : ℕ → SeenBody → Type 0) (s : TierState) : Type 0 where
  pub held : (p : ℕ) (body : SeenBody) → slice_get s.held p ≡ Some (Some body) → P p body
  pub came : (p : ℕ) (body : SeenBody) → slice_get s.came p ≡ Some (Some body) → P p body

-- a tier of the index, with bodies of the file
pub record IsTierOf (index : IndexLists) (bytes : Option (List ℕ)) (s : TierState) : Type 0 where
  pub tier : IsTier s
  pub made : IsMadeOf index s
  pub bodies : HasBodies (IsFileBody index bytes) s

-- 1 to 4 tiers of the index; the pinned patches of the first are the base patches, and the others have none
pub record AreTiersOf (index : IndexLists) (bytes : Option (List ℕ)) (tiers : List TierState) : Type 0 where
  pub some_tier : 1 ≤ length tiers
  pub few_tiers : length tiers ≤ 4
  pub each : (k : ℕ) (s : TierState) → slice_get tiers k ≡ Some s → IsTierOf index bytes s
  pub top : (s : TierState) → slice_get tiers 0 ≡ Some s → s.pinned ≡ base_marks index.fields
  pub others : (k : ℕ) (s : TierState) (p : ℕ) → slice_get tiers (suc k) ≡ Some s → is_marked s.pinned p ≡ false

-- what holds of a chain
pub record IsChain (index : IndexLists) (files : Option (List Named)) (file : ℕ) (tiers : List TierState) : Type 0 where
  pub there : HasFile files file
  pub are : AreTiersOf index (file_bytes files file) tiers
