-- A body that is read is spelled so, and a body that is spelled so is read.
use Rattle.std.proofs.Common.{◌≡◌, ℕ, ◌+◌, ◌*◌, ◌≤◌, false, cond, not, ◌&&◌, eqb, ltb, List, [], ◌++◌, length, drop, Ok, refl, sym, ap, subst, ◌∙◌, arith, inl, inr}
use Rattle.std.specs.Prelude.{IsTrue, ◌==◌}
use Rattle.std.specs.List.{flat_map, list_all}
use Rattle.std.proofs.lemmas.Bool.{and_parts, and_from, cases_Bool, ltb-false, le-ltb, eqb-true, eq-eqb, not-true, not_from_false}
use Rattle.std.proofs.lemmas.List.{append-nil, drop_at, length-append}
use Rattle.grid_vertex.specs.declared.points.Point.{Point}
use Rattle.grid_vertex.specs.Points.{is_in_grid}
use Rattle.grid_vertex.specs.Triangles.{is_flat_triangle}
use Rattle.file_model.specs.declared.fields.PatchField.{PatchField}
use Rattle.file_model.specs.declared.faults.FileFault.TheVariants.{Truncated, CornerIndex, Flat}
use Rattle.file_model.specs.Lists.{Corners, BodyLists, triangle_of, body_size}
use Rattle.file_model.specs.Spelling.{point_text, origin_of, offset_text, points_text, corners_text, body_text}
use Rattle.file_model.specs.Reading.{◌>>=◌, many_at, corners_in, points_at, triangle_at, body_in}
use Rattle.file_model.specs.Rules.{is_narrow, are_corners, is_triangle, is_body, fits_field}
use Rattle.file_laws.specs.Numbers.{IsBytes}
use Rattle.file_laws.specs.Units.{length-each, length-point_text, FitsCorners-below, length-corners_text, corners_in-text, corners_text-in}
use Rattle.file_laws.specs.Steps.{step_ok, test_ok, rule_ok, ok_is, Takes, Takes-then, Takes-front, front_is_all, UnitTakes, UnitAgain, many_take, many_again}
use Rattle.file_laws.specs.Points.{length-offset_text, points_take, points_again}

-- ---- triangles

triangle_takes : (points : List Point) (patch end : ℕ) → UnitTakes (triangle_at points patch end) corners_text (is_triangle points)
unfolding triangle_at
triangle_takes points patch end k bytes x fits e =
    let n = length points in
    let t = corners_in bytes in
    let long = test_ok (ltb (length bytes) 6) (Truncated end) _ x e in
    let a = rule_ok (ltb t.a n) (CornerIndex patch k t.a) _ x long.1 in
    let b = rule_ok (ltb t.b n) (CornerIndex patch k t.b) _ x a.1 in
    let c = rule_ok (ltb t.c n) (CornerIndex patch k t.c) _ x b.1 in
    let flat = test_ok (is_flat_triangle (triangle_of points t)) (Flat patch k) _ x c.1 in
    let made : Corners × List ℕ = (t, drop 6 bytes) in
    let took = Takes-front 6 bytes (corners_text t) fits (corners_text-in bytes fits (ltb-false (length bytes) 6 long.0)) in
    let placed : IsTrue (are_corners n t) = and_from (ltb t.a n && ltb t.b n) (ltb t.c n) (and_from (ltb t.a n) (ltb t.b n) a.0 b.0) c.0 in
    let passes = and_from (are_corners n t) (not (is_flat_triangle (triangle_of points t))) placed (not_from_false (is_flat_triangle (triangle_of points t)) flat.0) in
    subst (λ (y : Corners × List ℕ). Takes bytes (corners_text y.0) y.1 × IsTrue (is_triangle points y.0)) (ok_is made x flat.1) (took, passes)

triangle_again : (points : List Point) (patch end : ℕ) → length points ≤ 65536 → UnitAgain (triangle_at points patch end) corners_text (is_triangle points)
unfolding triangle_at
triangle_again points patch end few k t rest h =
    let n = length points in
    let parts = and_parts (are_corners n t) (not (is_flat_triangle (triangle_of points t))) h in
    let ab = and_parts (ltb t.a n && ltb t.b n) (ltb t.c n) parts.0 in
    let each = and_parts (ltb t.a n) (ltb t.b n) ab.0 in
    let long : ltb (length (corners_text t ++ rest)) 6 ≡ false = le-ltb _ 6 (omega (arith, length-append (corners_text t) rest, length-corners_text t)) in
    let back = corners_in-text t rest (FitsCorners-below n t few parts.0) in
    let first = ap (λ (u : Corners). ltb u.a n) back ∙ each.0 in
    let second = ap (λ (u : Corners). ltb u.b n) back ∙ each.1 in
    let third = ap (λ (u : Corners). ltb u.c n) back ∙ ab.1 in
    let not_flat = ap (λ (u : Corners). is_flat_triangle (triangle_of points u)) back ∙ not-true (is_flat_triangle (triangle_of points t)) parts.1 in
    rw (long, first, second, third, not_flat, back, drop_at (corners_text t) rest 6 (length-corners_text t)) refl

-- ---- bodies

length-points_text : (version : ℕ) (points : List Point) → length (points_text version points) ≡ cond (eqb version 2) (12 + 6 * length points) (12 * length points)
unfolding points_text
length-points_text version points =
    elim (cases_Bool (eqb version 2)) [
      | inl v ↦ rw v (length-append (point_text (origin_of points)) _ ∙ omega (arith, length-point_text (origin_of points), length-each (offset_text (origin_of points)) 6 (length-offset_text (origin_of points)) points))
      | inr v ↦ rw v (length-each point_text 12 length-point_text points)
    ]

-- the lengths of a body's lists are the field's numbers
fits_field-parts : (f : PatchField) (body : BodyLists) → IsTrue (fits_field f body) → (length body.points ≡ f.points) × (length body.corners ≡ f.triangles)
fits_field-parts f body h =
    let parts = and_parts (length body.points == f.points) (length body.corners == f.triangles) h in
    (eqb-true (length body.points) f.points parts.0, eqb-true (length body.corners) f.triangles parts.1)

pub length-body_text : (version : ℕ) (f : PatchField) (body : BodyLists) → IsTrue (fits_field f body) → length (body_text version body) ≡ body_size version f
unfolding body_text body_size
length-body_text version f body h =
    let counts = fits_field-parts f body h in
    let points = length-points_text version body.points in
    let corners = length-each corners_text 6 length-corners_text body.corners in
    let whole = length-append (points_text version body.points) (flat_map corners_text body.corners) in
    elim (cases_Bool (eqb version 2)) [
      | inl v ↦ rw v (omega (arith, rw v at points, corners, whole, counts.0, counts.1))
      | inr v ↦ rw v (omega (arith, rw v at points, corners, whole, counts.0, counts.1))
    ]

-- the rules of a body, part by part
pub record IsBody (version : ℕ) (body : BodyLists) : Type 0 where
  pub in_grid : IsTrue (list_all is_in_grid body.points)
  pub narrow : IsTrue (is_narrow version body.points)
  pub triangles : IsTrue (list_all (is_triangle body.points) body.corners)

pub IsBody-from : (version : ℕ) (body : BodyLists) → IsTrue (is_body version body) → IsBody version body
unfolding is_body
IsBody-from version body h =
    let outer = and_parts (list_all is_in_grid body.points && is_narrow version body.points) (list_all (is_triangle body.points) body.corners) h in
    let inner = and_parts (list_all is_in_grid body.points) (is_narrow version body.points) outer.0 in
    record { in_grid = inner.0; narrow = inner.1; triangles = outer.1 }

pub is_body-from : (version : ℕ) (body : BodyLists) → IsBody version body → IsTrue (is_body version body)
unfolding is_body
is_body-from version body h =
    and_from (list_all is_in_grid body.points && is_narrow version body.points) (list_all (is_triangle body.points) body.corners) (and_from (list_all is_in_grid body.points) (is_narrow version body.points) h.in_grid h.narrow) h.triangles

-- what a body that was read is
pub record IsReadBody (version : ℕ) (f : PatchField) (bytes : List ℕ) (body : BodyLists) : Type 0 where
  pub text : bytes ≡ body_text version body
  pub rules : IsTrue (is_body version body)
  pub fits : IsTrue (fits_field f body)

-- found: a body that is read is spelled so, and is one
pub body_text-in : (version patch : ℕ) (f : PatchField) (offset : ℕ) (bytes : List ℕ) (body : BodyLists) → IsBytes bytes → length bytes ≤ body_size version f → body_in version patch f offset bytes ≡ Ok body → IsReadBody version f bytes body
unfolding body_in body_text
body_text-in version patch f offset bytes body fits short e =
    let end = offset + length bytes in
    let a = step_ok (points_at version f.points patch end bytes) (λ points. many_at (triangle_at points.0 patch end) f.triangles 0 points.1 >>= λ corners. Ok (record { points = points.0; corners = corners.0 })) body e in
    let b = step_ok (many_at (triangle_at a.0.0 patch end) f.triangles 0 a.0.1) (λ corners. Ok (record { points = a.0.0; corners = corners.0 })) body a.2 in
    let made : BodyLists = record { points = a.0.0; corners = b.0.0 } in
    let points = points_take version f.points patch end bytes a.0 fits a.1 in
    let corners = many_take (triangle_at a.0.0 patch end) corners_text (is_triangle a.0.0) (triangle_takes a.0.0 patch end) f.triangles 0 a.0.1 b.0 points.takes.rest_fits b.1 in
    let both = Takes-then bytes (points_text version a.0.0) a.0.1 (flat_map corners_text b.0.0) b.0.1 points.takes corners.takes in
    let counts : IsTrue (fits_field f made) = and_from _ _ (eq-eqb (length a.0.0) f.points points.are.counted) (eq-eqb (length b.0.0) f.triangles corners.count) in
    let rules = is_body-from version made (record { in_grid = points.are.in_grid; narrow = points.are.narrow; triangles = corners.pass }) in
    let text = front_is_all bytes (body_text version made) b.0.1 both.parts (omega (arith, length-body_text version f made counts)) in
    subst (IsReadBody version f bytes) (ok_is made body b.2) (record { text = text; rules = rules; fits = counts })

-- again: a body that is spelled is read
pub body_in-text : (version patch : ℕ) (f : PatchField) (offset : ℕ) (body : BodyLists) → IsTrue (is_body version body) → IsTrue (fits_field f body) → 1 ≤ f.points → f.points ≤ 65536 → body_in version patch f offset (body_text version body) ≡ Ok body
unfolding body_in body_text
body_in-text version patch f offset body rules fits some_point few =
    let is = IsBody-from version body rules in
    let counts = fits_field-parts f body fits in
    let behind = flat_map corners_text body.corners in
    let end = offset + length (points_text version body.points ++ behind) in
    let points : points_at version f.points patch end (points_text version body.points ++ behind) ≡ Ok (body.points, behind) = ap (λ (n : ℕ). points_at version n patch end (points_text version body.points ++ behind)) (sym counts.0) ∙ points_again version patch end body.points behind is.in_grid is.narrow (omega (arith, counts.0)) in
    let corners : many_at (triangle_at body.points patch end) f.triangles 0 behind ≡ Ok (body.corners, []) = ap (λ (n : ℕ). many_at (triangle_at body.points patch end) n 0 behind) (sym counts.1) ∙ ap (many_at (triangle_at body.points patch end) (length body.corners) 0) (sym (append-nil behind)) ∙ many_again (triangle_at body.points patch end) corners_text (is_triangle body.points) (triangle_again body.points patch end (omega (arith, counts.0))) 0 body.corners [] is.triangles in
    rw (points, corners) refl
