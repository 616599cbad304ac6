-- Texts of points: how long they get, and lines of triangles that are put together from them.
use Rattle.std.proofs.Common.{◌≡◌, ℕ, ◌+◌, ◌^◌, ◌<◌, ◌≤◌, true, not, ◌&&◌, ltb, List, [], ◌∷◌, ◌++◌, length, map, take, get_or, Option, Some, None, refl, sym, ap, subst, ◌∙◌, arith, append_assoc, length-append}
use Rattle.std.specs.Prelude.{IsTrue, unwrap_or}
use Rattle.std.specs.Option.{option_map}
use Rattle.std.specs.List.{slice_get, list_all}
use Rattle.std.proofs.lemmas.Bool.{and_parts, ltb-true}
use Rattle.std.proofs.lemmas.Fmt.{length-decimal-le}
use Rattle.std.proofs.lemmas.List.{take_more, length-map, map-append}
use Rattle.std.proofs.lemmas.List.Elements.{All-get_or}
use Rattle.std.proofs.lemmas.List.Sums.{AllPass-from_list_all}
use Rattle.std.proofs.lemmas.Option.{slice_get-map, slice_get_within, get_or_from_slice_get}
use Rattle.std.specs.Fmt.{decimal}
use Rattle.grid_vertex.specs.declared.points.Point.{Point}
use Rattle.grid_vertex.specs.declared.triangles.Triangle.{Triangle}
use Rattle.grid_vertex.specs.Points.{is_in_grid}
use Rattle.grid_vertex.specs.Triangles.{is_flat_triangle}
use Rattle.file_model.specs.Lists.{Corners, BodyLists, origin_point, point_at_place, triangle_of, triangles_from}
use Rattle.file_model.specs.Rules.{is_narrow, are_corners, is_triangle, is_body}
use Rattle.text_model.specs.FrameText.{triangle_line}
use Rattle.text_model.specs.Lines.{spaced, line_of}
use Rattle.frame_writer.specs.PointTexts.{shown_point, corners_line}

-- a number of four bytes has at most ten digits
pub length-decimal_short : (n : ℕ) → n < 2 ^ 32 → length (decimal n) ≤ 10
length-decimal_short n small = length-decimal-le 10 n (omega arith) (omega arith) (omega arith)

-- so much longer is a text with the digits before it
pub length-digits_before : (n : ℕ) (before after : List ℕ) → n < 2 ^ 32 → after ≡ decimal n ++ before → length after ≤ length before + 10
length-digits_before n before after small is = omega (arith, length-decimal_short n small, ap length is ∙ length-append (decimal n) before)

-- the text of one point more
pub texts_more : (points : List Point) (i : ℕ) (p : Point) {before after : List (List ℕ)} {text : List ℕ} → slice_get points i ≡ Some p → before ≡ map shown_point (take i points) → text ≡ shown_point p → after ≡ before ++ (text ∷ []) → after ≡ map shown_point (take (i + 1) points)
texts_more points i p {before} {after} {text} at are text_is is =
    let within = slice_get_within points i p at in
    let here = text_is ∙ ap shown_point (sym (get_or_from_slice_get points i p p at)) in
    let more = ap (map shown_point) (take_more points i p within) ∙ map-append shown_point (take i points) (get_or points i p ∷ []) in
    is ∙ ap (λ (ts : List (List ℕ)). ts ++ (text ∷ [])) are ∙ ap (λ (t : List ℕ). map shown_point (take i points) ++ (t ∷ [])) here ∙ sym more

-- the three corners are places below the count
pub record AreBelow (count : ℕ) (t : Corners) : Type 0 where
  pub a : t.a < count
  pub b : t.b < count
  pub c : t.c < count

corners_below : (version : ℕ) (body : BodyLists) (k : ℕ) (t : Corners) → IsTrue (is_body version body) → slice_get body.corners k ≡ Some t → AreBelow (length body.points) t
unfolding is_body
corners_below version body k t rules at =
    let n = length body.points in
    let parts = and_parts (list_all is_in_grid body.points && is_narrow version body.points) (list_all (is_triangle body.points) body.corners) rules in
    let all = AllPass-from_list_all (is_triangle body.points) body.corners parts.1 in
    let here = All-get_or (λ (u : Corners). is_triangle body.points u ≡ true) body.corners k t (slice_get_within body.corners k t at) all in
    let passes = subst (λ (u : Corners). is_triangle body.points u ≡ true) (get_or_from_slice_get body.corners k t t at) here in
    let placed = and_parts (are_corners n t) (not (is_flat_triangle (triangle_of body.points t))) passes in
    let ab = and_parts (ltb t.a n && ltb t.b n) (ltb t.c n) placed.0 in
    let each = and_parts (ltb t.a n) (ltb t.b n) ab.0 in
    record { a = ltb-true t.a n each.0; b = ltb-true t.b n each.1; c = ltb-true t.c n ab.1 }

-- each corner of a body has a text where each of its points has one
pub corners_with_texts : (version : ℕ) (body : BodyLists) (texts : List (List ℕ)) (k : ℕ) (t : Corners) → IsTrue (is_body version body) → texts ≡ map shown_point body.points → slice_get body.corners k ≡ Some t → AreBelow (length texts) t
corners_with_texts version body texts k t rules are at =
    subst (λ (n : ℕ). AreBelow n t) (sym (ap length are ∙ length-map body.points shown_point)) (corners_below version body k t rules at)

shown_some : (o : Option Point) (text : List ℕ) → Some text ≡ option_map shown_point o → text ≡ shown_point (unwrap_or o origin_point)
shown_some None text e = cc e
shown_some (Some p) text e = cc e

shown_at : (points : List Point) (texts : List (List ℕ)) (k : ℕ) (text : List ℕ) → texts ≡ map shown_point points → slice_get texts k ≡ Some text → text ≡ shown_point (point_at_place points k)
unfolding point_at_place
shown_at points texts k text are at = shown_some (slice_get points k) text (sym at ∙ ap (λ (ts : List (List ℕ)). slice_get ts k) are ∙ slice_get-map shown_point points k)

triangle_line-texts : (t : Triangle) → corners_line (shown_point t.a) (shown_point t.b) (shown_point t.c) ≡ triangle_line t
unfolding corners_line shown_point triangle_line line_of spaced
triangle_line-texts t = simp append_assoc

-- the texts of the corners make the triangle's line
pub line_from_texts : (points : List Point) (texts : List (List ℕ)) (t : Corners) {a b c : List ℕ} → texts ≡ map shown_point points → slice_get texts t.a ≡ Some a → slice_get texts t.b ≡ Some b → slice_get texts t.c ≡ Some c → corners_line a b c ≡ triangle_line (triangle_of points t)
unfolding triangle_of
line_from_texts points texts t {a} {b} {c} are at_a at_b at_c =
    let first = shown_at points texts t.a a are at_a in
    let second = shown_at points texts t.b b are at_b in
    let third = shown_at points texts t.c c are at_c in
    let line = triangle_line-texts (triangle_of points t) in
    rw (first, second, third) line

triangles_from-map : (points : List Point) (corners : List Corners) → triangles_from points corners ≡ map (triangle_of points) corners
unfolding triangles_from
triangles_from-map points [] = refl
triangles_from-map points (t ∷ ts) = ap (λ (rest : List Triangle). triangle_of points t ∷ rest) (triangles_from-map points ts)

-- the triangle of these corners
pub triangle_there : (points : List Point) (corners : List Corners) (k : ℕ) (t : Corners) → slice_get corners k ≡ Some t → slice_get (triangles_from points corners) k ≡ Some (triangle_of points t)
triangle_there points corners k t at =
    ap (λ (ts : List Triangle). slice_get ts k) (triangles_from-map points corners) ∙ slice_get-map (triangle_of points) corners k ∙ ap (λ (o : Option Corners). option_map (triangle_of points) o) at
