-- Lists with room.
use Rattle.std.specs.Prelude.{◌≡◌, ℕ, ◌≤◌, [], vec_capacity}
use Rattle.cut_refiner.specs.declared.cut_lists.CutLists.{CutLists}

-- the lists are empty, and have room for so many nodes and patches
pub record HaveRoom (node_count patch_count : ℕ) (lists : CutLists) : Type 0 where
  pub no_nodes : lists.nodes.items ≡ []
  pub no_patches : lists.patches.items ≡ []
  pub for_nodes : node_count ≤ vec_capacity lists.nodes
  pub for_patches : patch_count ≤ vec_capacity lists.patches
