-- The bodies that a file says, as those of a run's world.
use Rattle.std.proofs.Common.{◌≡◌, ℕ, List, Option, Some, None, Ok, sym, subst}
use Rattle.std.specs.Prelude.{slice_get, IfSome}
use Rattle.file_model.specs.Lists.{BodyLists, IndexLists, SeenBody}
use Rattle.body_loads.specs.Loads.{body_at, read_as}
use Rattle.body_loads.specs.ToldBodies.{told_bodies, said_of}
use Rattle.tier_model.specs.Tiers.{IsBodyFor, sizes_of}
use Rattle.cache_chain.specs.ChainStates.{IsFileBody}
use Rattle.run_model.specs.Worlds.{World}
use Rattle.run_model.specs.Worlds.{IsFileBody as IsWorldBody}

told_at : (index : IndexLists) (bytes : Option (List ℕ)) (p : ℕ) (body : SeenBody) → IfSome bytes (λ bs. body_at index bs p ≡ read_as body) → IfSome (told_bodies index bytes) (λ bodies. slice_get bodies p ≡ Some body.lists)
told_at index None p body told = tt
told_at index (Some bytes) p body told = said_of index bytes p (Ok body.lists) told

-- a body of the file is one of the world's
pub world_body : (w : World) (bytes : Option (List ℕ)) (p : ℕ) (body : SeenBody) → w.bodies ≡ told_bodies w.mesh.index bytes → IsBodyFor (sizes_of w.mesh.index) p body → IsFileBody w.mesh.index bytes p body → IsWorldBody w p body
world_body w bytes p body same for is = record {
  of_patch = for;
  version = is.right.version;
  told = subst (λ (told : Option (List BodyLists)). IfSome told (λ bodies. slice_get bodies p ≡ Some body.lists)) (sym same) (told_at w.mesh.index bytes p body is.told);
}
