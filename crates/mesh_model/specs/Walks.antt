-- Walks along the arcs, and how long they can be.
use Rattle.std.specs.Prelude.{◌≡◌, ℕ, ◌≤◌, List, [], ◌∷◌, length, slice_get, Some}
use Rattle.file_model.specs.declared.fields.PatchField.{PatchField}

-- the patches, the last one first, are a walk that ends at the node: the head of each is the tail of
-- the next
abbrev pub EndsAt : List PatchField → List ℕ → ℕ → Type 0
EndsAt fields [] v = Unit {0}
EndsAt fields (p ∷ ps) v = (f : PatchField) × (slice_get fields p ≡ Some f) × (f.head ≡ v) × EndsAt fields ps f.tail

-- no walk that ends at the node is longer
abbrev pub IsBound : List PatchField → ℕ → ℕ → Type 0
IsBound fields v most = (ps : List ℕ) → EndsAt fields ps v → length ps ≤ most

-- the walks that end at the node have bounded length
abbrev pub IsGrounded : List PatchField → ℕ → Type 0
IsGrounded fields v = (most : ℕ) × IsBound fields v most

-- the greatest length of a walk that ends at the node
pub record IsLevel (fields : List PatchField) (v level : ℕ) : Type 0 where
  pub bound : IsBound fields v level
  pub reached : (ps : List ℕ) × EndsAt fields ps v × (length ps ≡ level)
