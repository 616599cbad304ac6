-- A tier: its budget and width, its bodies, its journal, and the wishes that it keeps.
use Rattle.std.specs.Prelude.{◌≡◌, ℕ, ◌≤◌, Bool, true, List, length, map, Option, Some, None, is_some, slice_get, slice_index, slice_index_or}
use Rattle.std.specs.Option.{unwrap_or}
use Rattle.file_model.specs.declared.fields.PatchField.{PatchField}
use Rattle.file_model.specs.Lists.{IndexLists, SeenBody, body_size, no_body}
use Rattle.mesh_model.specs.Graph.{is_root}
use Rattle.tier_model.specs.declared.turns.Turn.{Turn}
use Rattle.tier_model.specs.declared.turns.TheConstants.{MOST_WIDTH}
use Rattle.tier_model.specs.declared.turns.Coming.{Coming}
use Rattle.tier_model.specs.Places.{Places, is_coming, is_full, AreApart, marked_bytes, load_of, Replays}

-- a tier; all lists but `coming` and `journal` go by patch
pub record TierState : Type 0 where
  pub budget : ℕ
  pub width : ℕ
  pub version : ℕ
  pub sizes : List ℕ
  pub wishes : List ℕ
  pub base : List Bool
  pub pinned : List Bool
  pub passed : List Bool
  pub aside : List Bool
  pub held : List (Option SeenBody)
  pub came : List (Option SeenBody)
  pub coming : List Coming
  pub journal : List Turn

-- how many patches there are
abbrev pub count : TierState → ℕ
count s = length s.sizes

-- how many bytes a patch's body has
abbrev pub size : TierState → ℕ → ℕ
size s p = slice_index s.sizes p

-- the wish that is kept of a patch
abbrev pub kept_wish : TierState → ℕ → ℕ
kept_wish s p = slice_index s.wishes p

abbrev pub is_held : TierState → ℕ → Bool
is_held s p = is_some (slice_index_or s.held p None)

-- the body that came of a patch
abbrev pub body_at : TierState → ℕ → SeenBody
body_at s p = unwrap_or (slice_index_or s.came p None) no_body

-- which patches are held, and which come
abbrev pub places : TierState → Places
places s = record { held = map (λ o. is_some o) s.held; coming = s.coming }

abbrev pub load : TierState → ℕ
load s = load_of s.sizes (places s)

abbrev pub pinned_bytes : TierState → ℕ
pinned_bytes s = marked_bytes s.sizes s.pinned

-- to a tier come from 1 to 8 patches at a time, at most
pub record IsWidth (width : ℕ) : Type 0 where
  pub some_come : 1 ≤ width
  pub few_come : width ≤ MOST_WIDTH

-- each list that goes by patch has an item for each patch
pub record IsSized (s : TierState) : Type 0 where
  pub wishes : length s.wishes ≡ count s
  pub base : length s.base ≡ count s
  pub pinned : length s.pinned ≡ count s
  pub passed : length s.passed ≡ count s
  pub aside : length s.aside ≡ count s
  pub held : length s.held ≡ count s
  pub came : length s.came ≡ count s

-- at most as many patches come as the tier is wide, none twice and none that is held, and exactly those that
-- have their body have it at hand
pub record AreComing (s : TierState) : Type 0 where
  pub few : length s.coming ≤ s.width
  pub apart : AreApart s.coming
  pub away : (p : ℕ) → is_coming s.coming p ≡ true → slice_get s.held p ≡ Some None
  pub arrived : (p : ℕ) → is_full s.coming p ≡ is_some (slice_index_or s.came p None)

-- the body is of the patch, and has its size
pub record IsBodyFor (sizes : List ℕ) (p : ℕ) (body : SeenBody) : Type 0 where
  pub patch : body.patch ≡ p
  pub size : length body.bytes ≡ slice_index sizes p

-- each body is of its patch
abbrev pub AreBodies : List ℕ → List (Option SeenBody) → Type 0
AreBodies sizes bodies = (p : ℕ) (body : SeenBody) → slice_get bodies p ≡ Some (Some body) → IsBodyFor sizes p body

-- what holds of every tier
pub record IsTier (s : TierState) : Type 0 where
  pub wide : IsWidth s.width
  pub sized : IsSized s
  pub fits : load s ≤ s.budget
  pub coming : AreComing s
  pub held_bodies : AreBodies s.sizes s.held
  pub came_bodies : AreBodies s.sizes s.came
  pub replays : Replays s.budget s.width s.sizes s.pinned s.journal (places s)

-- each body is the file's, of which these are the bodies
pub record IsOfFile (body : ℕ → SeenBody) (s : TierState) : Type 0 where
  pub held : (p : ℕ) (b : SeenBody) → slice_get s.held p ≡ Some (Some b) → b ≡ body p
  pub came : (p : ℕ) (b : SeenBody) → slice_get s.came p ≡ Some (Some b) → b ≡ body p

-- the sizes of an index's bodies
abbrev pub sizes_of : IndexLists → List ℕ
sizes_of index = map (body_size index.version) index.fields

-- the base patches are those that lead from a root
abbrev pub base_marks : List PatchField → List Bool
base_marks fields = map (λ (f : PatchField). is_root fields f.tail) fields

-- the tier was made of the index
pub record IsMadeOf (index : IndexLists) (s : TierState) : Type 0 where
  pub sizes : s.sizes ≡ sizes_of index
  pub base : s.base ≡ base_marks index.fields
