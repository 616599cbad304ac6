-- What holds of a new board, and of one on which a session has another view.
use Rattle.std.proofs.Common.{◌≡◌, ℕ, ◌-◌, ◌<◌, List, [], ◌∷◌, length, replicate, Option, Some, None, sym, ap, subst, ◌∙◌, arith, refl, true, false, is_some, zero, suc}
use Rattle.std.specs.Prelude.{slice_get, slice_index_or, slice_set, IfSome}
use Rattle.std.specs.List.{AllByRecursion}
use Rattle.std.proofs.lemmas.List.{length-replicate, length-set, get_or_default, get_or-replicate}
use Rattle.std.proofs.lemmas.Option.{slice_get-get_or}
use Rattle.std.specs.Option.{option_map_or}
use Rattle.token_words.specs.Sessions.{IsSession}
use Rattle.file_model.specs.declared.fields.PatchField.{PatchField}
use Rattle.mesh_model.specs.Meshes.{MeshLists}
use Rattle.file_model.specs.Rules.{IsIndex}
use Rattle.mesh_laws.specs.Ends.{HasEnds, each_has_ends}
use Rattle.mesh_laws.specs.Each.{each_at}
use Rattle.tier_model.specs.Ranks.{Posted, node_wish, wish_of}
use Rattle.tier_laws.specs.BodyLaws.{each-set, none_there}
use Rattle.token_words.specs.declared.session_sets.TheConstants.{SESSIONS}
use Rattle.wish_board.specs.Maxima.{AreScored, AreGreatest}
use Rattle.wish_board.specs.Boards.{BoardSeen, without_view, board_wish, next_version, with_view, empty_board, no_posted}
use Rattle.wish_board.specs.BoardView.{IsBoard}
use Rattle.wish_board.specs.BoardLaws.{unwanted}
use Rattle.wish_board.proofs.MaximaLemmas.{scored_at}

-- ---- a new board

none-scored : (nodes sessions : ℕ) → AreScored nodes (replicate sessions None)
unfolding AreScored
none-scored nodes sessions i view at = absurd (none_there sessions i view at)

no_greatest : (nodes sessions : ℕ) → AreGreatest nodes (replicate sessions None) (replicate nodes 0)
no_greatest nodes sessions = record {
  all_nodes = length-replicate nodes 0;
  each = λ v within. get_or-replicate nodes v 0 0 within ∙ sym (unwanted sessions v);
}

abbrev no_view : Option Posted
no_view = None

pub board-new : (mesh : MeshLists) (views : List (Option Posted)) (fields : List PatchField) (maxima : List ℕ) → IsIndex mesh.index → fields ≡ mesh.index.fields → views ≡ no_posted → maxima ≡ replicate (length mesh.index.nodes) 0 → IsBoard (record { nodes = length maxima; fields = fields; views = views; version = 0 }) maxima
board-new mesh views fields maxima rules same none zeros =
    let n = length mesh.index.nodes in
    let many : length maxima ≡ n = ap length zeros ∙ length-replicate n 0 in
    record {
      sessions = ap length none ∙ length-replicate SESSIONS no_view;
      ends = subst (λ (m : ℕ). AllByRecursion (HasEnds m) fields) (sym many) (subst (AllByRecursion (HasEnds n)) (sym same) (each_has_ends mesh.index rules));
      scored = subst (λ (vs : List (Option Posted)). AreScored (length maxima) vs) (sym none) (none-scored (length maxima) SESSIONS);
      greatest = subst (λ (m : ℕ). AreGreatest m views maxima) (sym many) (subst (λ (vs : List (Option Posted)). AreGreatest n vs maxima) (sym none) (subst (AreGreatest n no_posted) (sym zeros) (no_greatest n SESSIONS)));
    }

pub empty_is : (mesh : MeshLists) (views : List (Option Posted)) (fields : List PatchField) (maxima : List ℕ) → fields ≡ mesh.index.fields → views ≡ no_posted → maxima ≡ replicate (length mesh.index.nodes) 0 → record { nodes = length maxima; fields = fields; views = views; version = 0 } ≡ empty_board mesh
unfolding empty_board
empty_is mesh views fields maxima same none zeros =
    let many : length maxima ≡ length mesh.index.nodes = ap length zeros ∙ length-replicate (length mesh.index.nodes) 0 in
    cc

-- ---- another view

pub scored-set : (nodes : ℕ) (views : List (Option Posted)) (i : ℕ) (o : Option Posted) → AreScored nodes views → IfSome o (λ (v : Posted). length v.scores ≡ nodes) → AreScored nodes (slice_set views i o)
unfolding AreScored
scored-set nodes views i o are here = each-set (λ _ (v : Posted). length v.scores ≡ nodes) views i o are (λ view is. subst (λ (p : Option Posted). IfSome p (λ (v : Posted). length v.scores ≡ nodes)) is here)

pub earlier-scored : (nodes : ℕ) (views : List (Option Posted)) (i : ℕ) (o : Option Posted) → AreScored nodes views → i < length views → o ≡ slice_index_or views i o → IfSome o (λ (v : Posted). length v.scores ≡ nodes)
earlier-scored nodes views i None are within is = record {}
earlier-scored nodes views i (Some view) are within is = scored_at nodes views i (Some view) view are within is refl

-- a view that is put back into its slot leaves the views as they were
pub set-back : (views : List (Option Posted)) (i : ℕ) (view o : Option Posted) → o ≡ slice_index_or views i o → slice_set (slice_set views i view) i o ≡ views
set-back [] i view o is = refl
set-back (x ∷ views) zero view o is = ap (λ (p : Option Posted). p ∷ views) is
set-back (x ∷ views) (suc i) view o is = ap (λ (vs : List (Option Posted)). x ∷ vs) (set-back views i view o is)

-- the board with other views and the greatest wishes over them
abbrev pub moved : BoardSeen → List (Option Posted) → ℕ → List ℕ → BoardSeen
moved board views version items = record { nodes = length items; fields = board.fields; views = views; version = version }

pub board-moved : (board : BoardSeen) (maxima now items : List ℕ) (i version : ℕ) (view : Option Posted) → IsBoard board maxima → IfSome view (λ (v : Posted). length v.scores ≡ board.nodes) → AreGreatest board.nodes (slice_set board.views i view) now → items ≡ now → IsBoard (moved board (slice_set board.views i view) version items) items
board-moved board maxima now items i version view is scored greatest same =
    let views = slice_set board.views i view in
    let many : length items ≡ board.nodes = ap length same ∙ greatest.all_nodes in
    record {
      sessions = length-set board.views i view ∙ is.sessions;
      ends = subst (λ (n : ℕ). AllByRecursion (HasEnds n) board.fields) (sym many) is.ends;
      scored = subst (λ (n : ℕ). AreScored n views) (sym many) (scored-set board.nodes board.views i view is.scored scored);
      greatest = subst (λ (n : ℕ). AreGreatest n views items) (sym many) (subst (AreGreatest board.nodes views) (sym same) greatest);
    }

pub with_view_is : (board : BoardSeen) (now items : List ℕ) (session : ℕ) (view : Option Posted) → AreGreatest board.nodes (slice_set board.views (session - 1) view) now → items ≡ now → moved board (slice_set board.views (session - 1) view) (next_version board.version) items ≡ with_view board session view
unfolding with_view
with_view_is board now items session view greatest same =
    ap (λ (n : ℕ). record { nodes = n; fields = board.fields; views = slice_set board.views (session - 1) view; version = next_version board.version }) (ap length same ∙ greatest.all_nodes)

-- ---- a view taken off

here_at : (views : List (Option Posted)) (i : ℕ) (o : Option Posted) → i < length views → o ≡ slice_index_or views i o → is_some (slice_index_or views i None) ≡ is_some o
here_at views i o within is = ap (λ (p : Option Posted). is_some p) (get_or_default views i None o within ∙ sym is)

pub session_within : (board : BoardSeen) (maxima : List ℕ) (session : ℕ) → IsBoard board maxima → IsSession session → session - 1 < length board.views
session_within board maxima session is range = let many = is.sessions in omega (arith, many, range)

pub taken-off : (board : BoardSeen) (session : ℕ) (o : Option Posted) → session - 1 < length board.views → o ≡ slice_index_or board.views (session - 1) o → is_some o ≡ true → with_view board session None ≡ without_view board session
unfolding without_view
taken-off board session o within is some = rw (here_at board.views (session - 1) o within is ∙ some) refl

pub left-on : (board : BoardSeen) (session : ℕ) (o : Option Posted) → session - 1 < length board.views → o ≡ slice_index_or board.views (session - 1) o → is_some o ≡ false → board ≡ without_view board session
unfolding without_view
left-on board session o within is none = rw (here_at board.views (session - 1) o within is ∙ none) refl

-- ---- a wish

pub wish-is : (board : BoardSeen) (maxima : List ℕ) (p x : ℕ) (f : PatchField) → IsBoard board maxima → board.nodes ≡ length maxima → p < length board.fields → f ≡ slice_index_or board.fields p f → x ≡ slice_index_or maxima f.tail x → x ≡ board_wish board p
unfolding wish_of
wish-is board maxima p x f is many within at read =
    let here : slice_get board.fields p ≡ Some f = slice_get-get_or board.fields p f within ∙ ap (λ (g : PatchField). Some g) (sym at) in
    let tail : f.tail < board.nodes = (each_at (HasEnds board.nodes) board.fields p f here is.ends).tail in
    read ∙ get_or_default maxima f.tail x 0 (subst (λ (n : ℕ). f.tail < n) many tail) ∙ is.greatest.each f.tail tail
    ∙ sym (ap (λ (o : Option PatchField). option_map_or (λ (g : PatchField). node_wish board.views g.tail) o 0) here)
