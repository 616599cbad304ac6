-- Which nodes patches lead to, and bodies as they are seen.
use Rattle.std.specs.Prelude.{◌≡◌, ℕ, ◌<◌, Bool, false, List, length, map, Option, slice_index_or, option_map}
use Rattle.std.specs.List.{list_any}
use Rattle.std.specs.Arc.{arc_value}
use Rattle.std.specs.declared.sync.Arc.{Arc}
use Rattle.file_model.specs.Lists.{IndexLists}
use Rattle.mesh_model.specs.Graph.{leads_to}

-- a node is marked exactly where a patch leads to it
pub record AreHeads (index : IndexLists) (marks : List Bool) : Type 0 where
  pub all_nodes : length marks ≡ length index.nodes
  pub marked : (v : ℕ) → v < length index.nodes → slice_index_or marks v false ≡ list_any (leads_to v) index.fields

-- the bodies behind shared references
abbrev pub bodies_in : {X Z : Type 0} → List (Option (Arc X Z)) → List (Option X)
bodies_in bodies = map (option_map arc_value) bodies
