-- Frames: their triangles body by body, and their lines in order.
use Rattle.std.proofs.Common.{◌≡◌, ℕ, ◌+◌, ◌<◌, List, [], ◌∷◌, ◌++◌, length, map, take, get_or, Some, sym, ap, subst, ◌∙◌, append-nil}
use Rattle.std.specs.List.{flat_map, slice_get}
use Rattle.std.proofs.lemmas.Option.{slice_get_within, get_or_from_slice_get}
use Rattle.std.proofs.lemmas.List.Concat.{flat_map-append}
use Rattle.std.proofs.lemmas.List.{take_more, map-append}
use Rattle.grid_vertex.specs.declared.triangles.Triangle.{Triangle}
use Rattle.file_model.specs.Lists.{triangles_of}
use Rattle.text_model.specs.FrameText.{Frame, head_line, cut_line, tries_line, patches_line, triangle_line, front_lines, frame_text}
use Rattle.text_model.specs.Lines.{Adds}
use Rattle.file_model.specs.Lists.{SeenBody}
use Rattle.frame_writer.specs.Appending.{Adds-then}
use Rattle.frame_writer.specs.Frames.{triangles_in}

-- one element more of a list of pieces
pub flat_map-take_more : {X A : Type 0} (f : X → List A) (xs : List X) (i : ℕ) (d : X) → i < length xs → flat_map f (take (i + 1) xs) ≡ flat_map f (take i xs) ++ f (get_or xs i d)
flat_map-take_more f xs i d within =
    ap (flat_map f) (take_more xs i d within) ∙ flat_map-append f (take i xs) (get_or xs i d ∷ []) ∙ ap (λ t. flat_map f (take i xs) ++ t) (append-nil (f (get_or xs i d)))

-- the pieces of one body more
pub triangles_in-take_more : {X : Type 0} (value : X → SeenBody) (xs : List X) (i : ℕ) (d : X) → i < length xs → triangles_in (map value (take (i + 1) xs)) ≡ triangles_in (map value (take i xs)) ++ triangles_of (value (get_or xs i d)).lists
triangles_in-take_more value xs i d within =
    let of_body : SeenBody → List Triangle = λ body. triangles_of body.lists in
    ap (λ bodies. triangles_in (map value bodies)) (take_more xs i d within)
    ∙ ap triangles_in (map-append value (take i xs) (get_or xs i d ∷ []))
    ∙ flat_map-append of_body (map value (take i xs)) (value (get_or xs i d) ∷ [])
    ∙ ap (λ t. triangles_in (map value (take i xs)) ++ t) (append-nil (of_body (value (get_or xs i d))))

-- the lines of a frame in order
pub Adds-frame : (open_edges : ℕ) (frame : Frame) {a b c d : List ℕ} → Adds a b (head_line open_edges frame) → Adds b c (cut_line frame.cut ++ (tries_line frame.tries ++ patches_line frame.patches)) → Adds c d (flat_map triangle_line frame.triangles) → Adds a d (frame_text open_edges frame)
unfolding frame_text front_lines
Adds-frame open_edges frame head front triangles = Adds-then (Adds-then head front) triangles

-- the line of one triangle more
pub Adds-triangle : (triangles : List Triangle) (i : ℕ) (triangle : Triangle) {a b c : List ℕ} → slice_get triangles i ≡ Some triangle → Adds a b (flat_map triangle_line (take i triangles)) → Adds b c (triangle_line triangle) → Adds a c (flat_map triangle_line (take (i + 1) triangles))
Adds-triangle triangles i triangle {a} {b} {c} at before line =
    let within = slice_get_within triangles i triangle at in
    let here = get_or_from_slice_get triangles i triangle triangle at in
    let more = flat_map-take_more triangle_line triangles i triangle within ∙ ap (λ t. flat_map triangle_line (take i triangles) ++ triangle_line t) here in
    subst (Adds a c) (sym more) (Adds-then before line)

-- the lines of one body more
pub Adds-body : {X : Type 0} (value : X → SeenBody) (xs : List X) (i : ℕ) (d : X) {a b c : List ℕ} → i < length xs → Adds a b (flat_map triangle_line (triangles_in (map value (take i xs)))) → Adds b c (flat_map triangle_line (triangles_of (value (get_or xs i d)).lists)) → Adds a c (flat_map triangle_line (triangles_in (map value (take (i + 1) xs))))
Adds-body value xs i d {a} {b} {c} within before lines =
    let more = ap (flat_map triangle_line) (triangles_in-take_more value xs i d within) ∙ flat_map-append triangle_line (triangles_in (map value (take i xs))) (triangles_of (value (get_or xs i d)).lists) in
    subst (Adds a c) (sym more) (Adds-then before lines)
