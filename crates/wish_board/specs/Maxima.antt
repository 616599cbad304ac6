-- The greatest wish of each node over the views that were posted.
use Rattle.std.specs.Prelude.{◌≡◌, ℕ, ◌<◌, ◌≤◌, max, Bool, ◌&&◌, ◌==◌, nat_lt, List, length, Option, Some, slice_get, slice_index, if◌then◌else◌}
use Rattle.tier_model.specs.Ranks.{Posted, view_wish, node_wish}

-- each view that was posted has a score for each node
unfoldable pub AreScored : ℕ → List (Option Posted) → Type 0
AreScored nodes views = (i : ℕ) (view : Posted) → slice_get views i ≡ Some (Some view) → length view.scores ≡ nodes

-- there is a number for each node: the greatest wish over the views
pub record AreGreatest (nodes : ℕ) (views : List (Option Posted)) (greatest : List ℕ) : Type 0 where
  pub all_nodes : length greatest ≡ nodes
  pub each : (v : ℕ) → v < nodes → slice_index greatest v ≡ node_wish views v

-- the first so many numbers were raised to the view's wishes, where these are greater
pub record AreRaised (view : Posted) (nodes : ℕ) (before now : List ℕ) : Type 0 where
  pub all_nodes : length now ≡ length before
  pub raised : (v : ℕ) → v < nodes → slice_index now v ≡ max (view_wish view v) (slice_index before v)
  pub rest : (v : ℕ) → nodes ≤ v → slice_index now v ≡ slice_index before v

-- the view wants the node, whose greatest wish is this view's
abbrev pub leads : Posted → ℕ → List ℕ → Bool
leads view v greatest = nat_lt 0 (view_wish view v) && (view_wish view v == slice_index greatest v)

-- of the first so many nodes those that the view led have their greatest wish over the views, and the others keep theirs
pub record AreLowered (left : Posted) (views : List (Option Posted)) (nodes : ℕ) (before now : List ℕ) : Type 0 where
  pub all_nodes : length now ≡ length before
  pub lowered : (v : ℕ) → v < nodes → slice_index now v ≡ (if leads left v before then node_wish views v else slice_index before v)
  pub rest : (v : ℕ) → nodes ≤ v → slice_index now v ≡ slice_index before v
