-- What callers see of a level, and what holds of it.
use Rattle.std.specs.Prelude.{ℕ}
use Rattle.accepted_mesh.specs.MeshView.{MeshSeen}
use Rattle.tier_budget.specs.TierView.{TierSeen}
use Rattle.level_model.specs.Levels.{RunSeen, SeatSeen, FloorSeen, KeepsLevel}

-- the mesh, the tier, its owner's seat and its floor
pub record LevelSeen (K F : Type 0) : Type 0 where
  pub mesh : MeshSeen
  pub tier : TierSeen
  pub seat : K
  pub floor : F

-- it is level k of the run, with what is seen of seat and floor
abbrev pub IsKept : RunSeen → ℕ → MeshSeen → TierSeen → SeatSeen → FloorSeen → Type 0
IsKept run k mesh tier seat floor = KeepsLevel run k mesh.lists.index tier.state tier.records seat floor
