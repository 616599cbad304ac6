-- Texts that end with a line feed, behind which a new line begins.
use Rattle.std.specs.Prelude.{◌≡◌, ℕ, true, List, [], ◌∷◌, ◌++◌, refl}
use Rattle.std.proofs.Common.{ap, sym, ◌∙◌, append_assoc}
use Rattle.std.specs.List.{flat_map}
use Rattle.grid_vertex.specs.declared.triangles.Triangle.{Triangle}
use Rattle.text_model.specs.Lines.{spaced, line_of, begins_line}
use Rattle.text_model.specs.FrameText.{Frame, head_line, cut_line, tries_line, patches_line, triangle_line, front_lines, frame_text}

-- a line begins behind a line feed
pub begins_line-end : (text : List ℕ) → begins_line (text ++ (10 ∷ [])) ≡ true
begins_line-end [] = refl
begins_line-end (c ∷ []) = refl
begins_line-end (c ∷ d ∷ cs) = begins_line-end (d ∷ cs)

-- a line begins behind two texts that end theirs
pub begins_line-append : (a b : List ℕ) → begins_line a ≡ true → begins_line b ≡ true → begins_line (a ++ b) ≡ true
begins_line-append [] b first second = second
begins_line-append (c ∷ []) [] first second = first
begins_line-append (c ∷ []) (d ∷ ds) first second = second
begins_line-append (c ∷ d ∷ cs) b first second = begins_line-append (d ∷ cs) b first second

-- a line begins behind a line
pub begins_line-line_of : (first : List ℕ) (words : List (List ℕ)) → begins_line (line_of first words) ≡ true
unfolding line_of
begins_line-line_of first words = ap begins_line (sym (append_assoc first (spaced words) (10 ∷ []))) ∙ begins_line-end (first ++ spaced words)

-- a line begins behind the lines of triangles
pub begins_line-triangles : (triangles : List Triangle) → begins_line (flat_map triangle_line triangles) ≡ true
unfolding triangle_line
begins_line-triangles [] = refl
begins_line-triangles (t ∷ ts) = begins_line-append (triangle_line t) (flat_map triangle_line ts) (begins_line-line_of _ _) (begins_line-triangles ts)

-- a line begins behind a frame
pub begins_line-frame_text : (open_edges : ℕ) (frame : Frame) → begins_line (frame_text open_edges frame) ≡ true
unfolding frame_text front_lines head_line cut_line tries_line patches_line
begins_line-frame_text open_edges frame =
    let tries = begins_line-append (tries_line frame.tries) (patches_line frame.patches) (begins_line-line_of _ _) (begins_line-line_of _ _) in
    let cut = begins_line-append (cut_line frame.cut) (tries_line frame.tries ++ patches_line frame.patches) (begins_line-line_of _ _) tries in
    let head = begins_line-append (head_line open_edges frame) (cut_line frame.cut ++ (tries_line frame.tries ++ patches_line frame.patches)) (begins_line-line_of _ _) cut in
    begins_line-append (front_lines open_edges frame) (flat_map triangle_line frame.triangles) head (begins_line-triangles frame.triangles)
