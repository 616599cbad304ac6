-- The world of a run: the mesh, what its file says of the bodies where that is told, each tier's budget, and how
-- many patches come to a tier at a time.
use Rattle.std.specs.Prelude.{◌≡◌, ℕ, ◌≤◌, Bool, true, List, length, Option, Some, slice_get, IfSome}
use Rattle.file_model.specs.Lists.{BodyLists, SeenBody}
use Rattle.mesh_model.specs.Meshes.{MeshLists, IsMesh}
use Rattle.round_laws.specs.Arcs.{is_from}
use Rattle.tier_model.specs.Places.{marked_bytes}
use Rattle.tier_model.specs.Tiers.{TierState, IsWidth, IsBodyFor, sizes_of, base_marks}

pub record World : Type 0 where
  pub mesh : MeshLists
  pub bodies : Option (List BodyLists)
  pub budgets : List ℕ
  pub width : ℕ

-- how many patches there are
abbrev pub patch_count : World → ℕ
patch_count w = length w.mesh.index.fields

-- a base patch leads from the root
abbrev pub is_base : World → ℕ → Bool
is_base w p = is_from w.mesh.index.fields w.mesh.root p

-- the body is the file's body of the patch: its number, size and version are those that the index gives, and its
-- points and corners are those that the file says, where that is told
pub record IsFileBody (w : World) (p : ℕ) (body : SeenBody) : Type 0 where
  pub of_patch : IsBodyFor (sizes_of w.mesh.index) p body
  pub version : body.version ≡ w.mesh.index.version
  pub told : IfSome w.bodies (λ bodies. slice_get bodies p ≡ Some body.lists)

-- each body that the tier holds, or that came to it, is the file's
pub record HasFileBodies (w : World) (t : TierState) : Type 0 where
  pub held : (p : ℕ) (body : SeenBody) → slice_get t.held p ≡ Some (Some body) → IsFileBody w p body
  pub came : (p : ℕ) (body : SeenBody) → slice_get t.came p ≡ Some (Some body) → IsFileBody w p body

-- the mesh was accepted, and there is a tier, to which patches come
pub record IsWorld (w : World) : Type 0 where
  pub mesh : IsMesh w.mesh
  pub some_tier : 1 ≤ length w.budgets
  pub wide : IsWidth w.width

-- the base patches fit the top tier
pub record HoldsBase (w : World) : Type 0 where
  pub fits : (budget : ℕ) → slice_get w.budgets 0 ≡ Some budget → marked_bytes (sizes_of w.mesh.index) (base_marks w.mesh.index.fields) ≤ budget

-- the bodies of the base patches are the file's
pub record AreBaseBodies (w : World) (body : ℕ → SeenBody) : Type 0 where
  pub each : (p : ℕ) → is_base w p ≡ true → IsFileBody w p (body p)
