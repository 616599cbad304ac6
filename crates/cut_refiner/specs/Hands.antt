-- The node whose patches are tried.
use Rattle.std.specs.Prelude.{◌≡◌, ℕ, Bool, List, length, Option, Some, None}
use Rattle.mesh_model.specs.Graph.{nodes_where}
use Rattle.mesh_model.specs.Frames.{frame_patches}
use Rattle.round_model.specs.Order.{Rules}
use Rattle.round_model.specs.Rounds.{has}
use Rattle.cut_refiner.specs.declared.cut_lists.CutLists.{CutLists}
use Rattle.cut_refiner.specs.CutLists.{HaveRoom}

-- the lists are the nodes of the set and the patches that lead out of it
pub record AreListsOf (rules : Rules) (set : List Bool) (lists : CutLists) : Type 0 where
  pub nodes_are : lists.nodes.items ≡ nodes_where (length rules.mesh.index.nodes) (has set)
  pub patches_are : lists.patches.items ≡ frame_patches (has set) rules.mesh.index.fields

-- while a node is in hand the lists are empty, and have room
abbrev pub AreLists : Rules → List Bool → CutLists → Option ℕ → Type 0
AreLists rules set lists None = AreListsOf rules set lists
AreLists rules set lists (Some node) = HaveRoom (length rules.mesh.index.nodes) (length rules.mesh.index.fields) lists
