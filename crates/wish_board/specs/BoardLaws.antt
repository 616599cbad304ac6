-- A board fits its mesh from the first on, and without views nothing is wished.
use Rattle.std.specs.Prelude.{◌≡◌, ℕ, zero, suc, Bool, true, false, is_some, replicate, Option, Some, None, slice_get, if◌then◌else◌, refl}
use Rattle.std.specs.Option.{option_map_or}
use Rattle.file_model.specs.declared.fields.PatchField.{PatchField}
use Rattle.file_model.specs.Lists.{IndexLists}
use Rattle.mesh_model.specs.Meshes.{MeshLists}
use Rattle.tier_model.specs.Ranks.{Posted, node_wish, wish_of}
use Rattle.token_words.specs.declared.session_sets.TheConstants.{SESSIONS}
use Rattle.wish_board.specs.Boards.{BoardSeen, Fits, board_wish, view_of, empty_board, with_view, without_view}

pub fits_empty : (mesh : MeshLists) → Fits (empty_board mesh) mesh.index
unfolding empty_board
fits_empty mesh = record { nodes = refl; fields = refl }

pub fits_with_view : (board : BoardSeen) (index : IndexLists) (session : ℕ) (view : Option Posted) → Fits board index → Fits (with_view board session view) index
unfolding with_view
fits_with_view board index session view fits = record { nodes = fits.nodes; fields = fits.fields }

fits_chosen : (had : Bool) (board changed : BoardSeen) (index : IndexLists) → Fits changed index → Fits board index → Fits (if had then changed else board) index
fits_chosen true board changed index changed_fits fits = changed_fits
fits_chosen false board changed index changed_fits fits = fits

pub fits_without_view : (board : BoardSeen) (index : IndexLists) (session : ℕ) → Fits board index → Fits (without_view board session) index
unfolding without_view
fits_without_view board index session fits =
    fits_chosen (is_some (view_of board session)) board (with_view board session None) index (fits_with_view board index session None fits) fits

-- where no session has a view no node is wanted
pub unwanted : (sessions v : ℕ) → node_wish (replicate sessions None) v ≡ 0
unfolding node_wish
unwanted zero v = refl
unwanted (suc sessions) v = unwanted sessions v

unwished : (field : Option PatchField) → option_map_or (λ (f : PatchField). node_wish (replicate SESSIONS None) f.tail) field 0 ≡ 0
unwished None = refl
unwished (Some f) = unwanted SESSIONS f.tail

-- on a board without views each wish is 0
pub no_wish : (mesh : MeshLists) (p : ℕ) → board_wish (empty_board mesh) p ≡ 0
unfolding empty_board wish_of
no_wish mesh p = unwished (slice_get mesh.index.fields p)
