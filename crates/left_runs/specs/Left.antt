-- What a run by threads leaves: its tiers, ranked by a board without views and renewed.
use Rattle.mesh_model.specs.Meshes.{MeshLists}
use Rattle.body_loads.specs.ToldBodies.{told_bodies}
use Rattle.token_table.specs.Setups.{Setup}
use Rattle.tier_model.specs.Tiers.{TierState}
use Rattle.tier_model.specs.Changes.{ranked, renewed}
use Rattle.run_model.specs.Worlds.{World}

-- the tier wishes nothing, and nothing is passed over or put aside
abbrev pub unwished : TierState → TierState
unwished t = renewed (ranked t (λ p. 0)) 0

-- the world of a run with this setup
abbrev pub world_left : MeshLists → Setup → World
world_left mesh setup = record {
  mesh = mesh;
  bodies = told_bodies mesh.index setup.bytes;
  budgets = setup.budgets;
  width = setup.width;
}
