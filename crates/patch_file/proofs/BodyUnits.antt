-- What follows where a body was read well: its numbers of points and triangles, and its size.
use Rattle.std.proofs.Common.{◌≡◌, ℕ, ◌+◌, ◌*◌, ◌≤◌, Bool, true, cond, eqb, ltb, List, length, drop, Option, Some, Ok, refl, sym, subst, arith, inl, inr, zero, suc, [], ◌∷◌}
use Rattle.std.specs.Prelude.{IsTrue, IfSome, slice_get}
use Rattle.std.specs.Ordering.{int_eq}
use Rattle.std.specs.List.{list_any, list_all}
use Rattle.std.proofs.lemmas.Bool.{and_parts, and_from, cases_Bool, ltb-false, eq-eqb}
use Rattle.std.proofs.lemmas.List.{length-drop}
use Rattle.grid_vertex.specs.declared.points.Point.{Point}
use Rattle.grid_vertex.specs.Points.{is_in_grid}
use Rattle.grid_vertex.specs.Triangles.{is_flat_triangle}
use Rattle.file_model.specs.declared.fields.PatchField.{PatchField}
use Rattle.file_model.specs.declared.faults.FileFault.TheVariants.{Truncated, PointOutOfGrid, CornerIndex, Flat, Loose}
use Rattle.file_model.specs.Lists.{Corners, BodyLists, triangle_of, body_size}
use Rattle.file_model.specs.Reading.{◌>>=◌, many_at, point_in, shifted_in, corners_in, point_at, shifted_at, tight, shifted_points_at, points_at, triangle_at, body_in}
use Rattle.file_model.specs.Rules.{has_ends, has_counts, is_field, fits_field}
use Rattle.file_laws.specs.Steps.{step_ok, test_ok, rule_ok, ok_is}
use Rattle.patch_file.proofs.ReadUnits.{IsUnit, IsUnitReader, are_units}

-- each unit passes
abbrev any : {A : Type 0} → A → Bool
any x = true

point_is : (patch end : ℕ) → IsUnitReader 12 any (point_at patch end)
unfolding point_at
point_is patch end k bytes x e =
    let long = test_ok (ltb (length bytes) 12) (Truncated end) _ x e in
    let rule = rule_ok (is_in_grid (point_in bytes)) (PointOutOfGrid patch k) _ x long.1 in
    let made : Point × List ℕ = (point_in bytes, drop 12 bytes) in
    subst (IsUnit 12 any bytes) (ok_is made x rule.1) (record { room = omega (arith, length-drop 12 bytes, ltb-false (length bytes) 12 long.0); passes = refl })

shifted_is : (origin : Point) (patch end : ℕ) → IsUnitReader 6 any (shifted_at origin patch end)
unfolding shifted_at
shifted_is origin patch end k bytes x e =
    let long = test_ok (ltb (length bytes) 6) (Truncated end) _ x e in
    let rule = rule_ok (is_in_grid (shifted_in origin bytes)) (PointOutOfGrid patch k) _ x long.1 in
    let made : Point × List ℕ = (shifted_in origin bytes, drop 6 bytes) in
    subst (IsUnit 6 any bytes) (ok_is made x rule.1) (record { room = omega (arith, length-drop 6 bytes, ltb-false (length bytes) 6 long.0); passes = refl })

triangle_is : (points : List Point) (patch end : ℕ) → IsUnitReader 6 any (triangle_at points patch end)
unfolding triangle_at
triangle_is points patch end k bytes x e =
    let t = corners_in bytes in
    let long = test_ok (ltb (length bytes) 6) (Truncated end) _ x e in
    let a = rule_ok (ltb t.a (length points)) (CornerIndex patch k t.a) _ x long.1 in
    let b = rule_ok (ltb t.b (length points)) (CornerIndex patch k t.b) _ x a.1 in
    let c = rule_ok (ltb t.c (length points)) (CornerIndex patch k t.c) _ x b.1 in
    let flat = test_ok (is_flat_triangle (triangle_of points t)) (Flat patch k) _ x c.1 in
    let made : Corners × List ℕ = (t, drop 6 bytes) in
    subst (IsUnit 6 any bytes) (ok_is made x flat.1) (record { room = omega (arith, length-drop 6 bytes, ltb-false (length bytes) 6 long.0); passes = refl })

tight_is : (origin : Point) (patch : ℕ) (points x : List Point × List ℕ) → tight origin patch points ≡ Ok x → points ≡ x
unfolding tight
tight_is origin patch points x e =
    let a = rule_ok (list_any (λ (p : Point). int_eq p.x origin.x) points.0) (Loose patch 0) _ x e in
    let b = rule_ok (list_any (λ (p : Point). int_eq p.y origin.y) points.0) (Loose patch 1) _ x a.1 in
    let c = rule_ok (list_any (λ (p : Point). int_eq p.z origin.z) points.0) (Loose patch 2) _ x b.1 in
    ok_is points x c.1

-- points that were read: so many, of so many bytes
record ArePoints (version count : ℕ) (bytes : List ℕ) (x : List Point × List ℕ) : Type 0 where
  count_is : length x.0 ≡ count
  room : length bytes ≡ cond (eqb version 2) (12 + 6 * count) (12 * count) + length x.1

shifted_points_are : (count patch end : ℕ) (bytes : List ℕ) (x : List Point × List ℕ) → shifted_points_at count patch end bytes ≡ Ok x → (length x.0 ≡ count) × (length bytes ≡ 12 + 6 * count + length x.1)
unfolding shifted_points_at
shifted_points_are count patch end bytes x e =
    let origin = point_in bytes in
    let long = test_ok (ltb (length bytes) 12) (Truncated end) _ x e in
    let points = step_ok (many_at (shifted_at origin patch end) count 0 (drop 12 bytes)) (tight origin patch) x long.1 in
    let same = tight_is origin patch points.0 x points.2 in
    let are = are_units 6 any (shifted_at origin patch end) (shifted_is origin patch end) count 0 (drop 12 bytes) points.0 points.1 in
    subst (λ (y : List Point × List ℕ). (length y.0 ≡ count) × (length bytes ≡ 12 + 6 * count + length y.1)) same
    (are.count, omega (arith, are.room, length-drop 12 bytes, ltb-false (length bytes) 12 long.0))

points_are : (version count patch end : ℕ) (bytes : List ℕ) (x : List Point × List ℕ) → points_at version count patch end bytes ≡ Ok x → ArePoints version count bytes x
unfolding points_at
points_are version count patch end bytes x e =
    elim (cases_Bool (eqb version 2)) [
      | inl v ↦
          let are = shifted_points_are count patch end bytes x (rw v at e) in
          record { count_is = are.0; room = rw v are.1 }
      | inr v ↦
          let are = are_units 12 any (point_at patch end) (point_is patch end) count 0 bytes x (rw v at e) in
          record { count_is = are.count; room = rw v are.room }
    ]

-- a body that was read has the numbers of its field, and so many bytes
pub record IsReadBody (version : ℕ) (f : PatchField) (bytes : List ℕ) (body : BodyLists) : Type 0 where
  pub fits : IsTrue (fits_field f body)
  pub room : body_size version f ≤ length bytes

pub body_is : (version patch : ℕ) (f : PatchField) (offset : ℕ) (bytes : List ℕ) (body : BodyLists) → body_in version patch f offset bytes ≡ Ok body → IsReadBody version f bytes body
unfolding body_in body_size
body_is version patch f offset bytes body e =
    let end = offset + length bytes in
    let a = step_ok (points_at version f.points patch end bytes) (λ points. many_at (triangle_at points.0 patch end) f.triangles 0 points.1 >>= λ corners. Ok (record { points = points.0; corners = corners.0 })) body e in
    let b = step_ok (many_at (triangle_at a.0.0 patch end) f.triangles 0 a.0.1) (λ corners. Ok (record { points = a.0.0; corners = corners.0 })) body a.2 in
    let made : BodyLists = record { points = a.0.0; corners = b.0.0 } in
    let points = points_are version f.points patch end bytes a.0 a.1 in
    let corners = are_units 6 any (triangle_at a.0.0 patch end) (triangle_is a.0.0 patch end) f.triangles 0 a.0.1 b.0 b.1 in
    let fits : IsTrue (fits_field f made) = and_from _ _ (eq-eqb (length a.0.0) f.points points.count_is) (eq-eqb (length b.0.0) f.triangles corners.count) in
    let points_room = points.room in
    let room : cond (eqb version 2) (12 + 6 * f.points + 6 * f.triangles) (12 * f.points + 6 * f.triangles) ≤ length bytes =
    elim (cases_Bool (eqb version 2)) [
      | inl v ↦ rw v (omega (arith, rw v at points_room, corners.room))
      | inr v ↦ rw v (omega (arith, rw v at points_room, corners.room))
    ] in
    subst (IsReadBody version f bytes) (ok_is made body b.2) (record { fits = fits; room = room })

-- ---- the field of a patch

pub if_some_from : {X : Type 0} (o : Option X) (x : X) (P : X → Type 0) → o ≡ Some x → P x → IfSome o P
if_some_from o x P is here = subst (λ o'. IfSome o' P) (sym is) here

pub if_some_at : {X : Type 0} (o : Option X) (x : X) (P : X → Type 0) → o ≡ Some x → IfSome o P → P x
if_some_at o x P is here = subst (λ o'. IfSome o' P) is here

pub has_counts_at : (nodes : ℕ) (fields : List PatchField) (patch : ℕ) (f : PatchField) → IsTrue (list_all (is_field nodes) fields) → slice_get fields patch ≡ Some f → IsTrue (has_counts f)
has_counts_at nodes [] patch f rules there = absurd cc
has_counts_at nodes (g ∷ gs) zero f rules there =
    let first = and_parts (is_field nodes g) (list_all (is_field nodes) gs) rules in
    let same : g ≡ f = cc in
    subst (λ h. IsTrue (has_counts h)) same (and_parts (has_ends nodes g) (has_counts g) first.0).1
has_counts_at nodes (g ∷ gs) (suc patch) f rules there = has_counts_at nodes gs patch f (and_parts (is_field nodes g) (list_all (is_field nodes) gs) rules).1 there
