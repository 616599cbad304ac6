-- How much a patch is wished, and which of two patches ranks higher.
use Rattle.std.specs.Prelude.{◌≡◌, ◌≢◌, ℕ, ◌⊎◌, max, Bool, true, false, List, [], ◌∷◌, Option, Some, None, nat_lt, slice_get, slice_index, if◌then◌else◌}
use Rattle.std.specs.Option.{option_map_or}
use Rattle.file_model.specs.declared.fields.PatchField.{PatchField}
use Rattle.tier_heap.specs.Entries.{is_above}

-- a view that was posted: each node's score, and the score that a node it wants is above
pub record Posted : Type 0 where
  pub scores : List ℕ
  pub threshold : ℕ

-- the node's score in the view, and 0 where the view doesn't want the node
abbrev pub view_wish : Posted → ℕ → ℕ
view_wish view v = if nat_lt view.threshold (slice_index view.scores v) then slice_index view.scores v else 0

-- the greatest score of the node over the views that want it, else 0
unfoldable pub node_wish : List (Option Posted) → ℕ → ℕ
node_wish [] v = 0
node_wish (None ∷ views) v = node_wish views v
node_wish (Some view ∷ views) v = max (view_wish view v) (node_wish views v)

-- the wish of a patch is that of its tail
unfoldable pub wish_of : List PatchField → List (Option Posted) → ℕ → ℕ
wish_of fields views p = option_map_or (λ (f : PatchField). node_wish views f.tail) (slice_get fields p) 0

-- the greater wish ranks higher, and of equal wishes the lesser number
unfoldable pub outranks : (ℕ → ℕ) → ℕ → ℕ → Bool
outranks wish p q = is_above (p, wish p) (q, wish q)

-- of two patches exactly one is above the other, and what is above passes down
pub record IsRanking (above : ℕ → ℕ → Bool) : Type 0 where
  pub either : (p q : ℕ) → p ≢ q → (above p q ≡ true) ⊎ (above q p ≡ true)
  pub one_way : (p q : ℕ) → above p q ≡ true → above q p ≡ false
  pub chain : (p q r : ℕ) → above p q ≡ true → above q r ≡ true → above p r ≡ true
