-- What the numbers and bytes of a kept body say of its lists.
use Rattle.std.proofs.Common.{◌≡◌, ℕ, ◌+◌, ◌*◌, ◌≤◌, ◌<◌, zero, suc, List, [], ◌∷◌, length, drop, Some, None, Ok, false, refl, sym, ap, subst, ◌∙◌, arith}
use Rattle.std.specs.Prelude.{slice_get, IsTrue}
use Rattle.std.proofs.lemmas.Bool.{and_from, eq-eqb}
use Rattle.std.proofs.lemmas.List.{length-drop}
use Rattle.grid_vertex.specs.declared.points.Point.{Point}
use Rattle.grid_vertex.specs.declared.triangles.Triangle.{Triangle}
use Rattle.grid_vertex.specs.Triangles.{is_flat_triangle}
use Rattle.file_model.specs.declared.fields.PatchField.{PatchField}
use Rattle.file_model.specs.Lists.{Corners, BodyLists, corners_of, triangle_of, triangles_from, triangles_of, body_size}
use Rattle.file_model.specs.Spelling.{body_text}
use Rattle.file_model.specs.Rules.{is_version, is_body, fits_field}
use Rattle.file_model.specs.Reading.{corners_in, body_in}
use Rattle.file_laws.specs.Numbers.{IsBytes}
use Rattle.file_laws.specs.Bodies.{body_text-in, body_in-text}
use Rattle.patch_body.specs.Faults.{fault_of}
use Rattle.patch_body.specs.Places.{points_size, point_of_bytes, triangle_of_bytes, HavePoints, HasCorners}
use Rattle.file_model.specs.Lists.{SeenBody}
use Rattle.patch_body.specs.Seen.{IsCount, IsInGrid, IsKept, field_of, lists_of, lists_in, seen_body}
use Rattle.patch_body.proofs.Triangles.{AreBelow, is_triangle_at, triangle_same, corners_there}
use Rattle.patch_body.proofs.Lists.{AreLists, are_lists, same_lists}

-- the lists of kept bytes
pub kept_lists : (version points triangles : ℕ) (bytes : List ℕ) → fault_of (body_in version 0 (field_of points triangles) 0 bytes) ≡ None → AreLists version 0 (field_of points triangles) 0 bytes (lists_in version points triangles bytes)
unfolding lists_in
kept_lists version points triangles bytes none =
    let l = are_lists version 0 (field_of points triangles) 0 bytes none in
    subst (AreLists version 0 (field_of points triangles) 0 bytes) (sym (ap lists_of l.1.is)) l.1

-- ---- points

pub kept_point : (version points triangles : ℕ) (bytes : List ℕ) → fault_of (body_in version 0 (field_of points triangles) 0 bytes) ≡ None → (k : ℕ) → k < points → slice_get (lists_in version points triangles bytes).points k ≡ Some (point_of_bytes version bytes k)
kept_point version points triangles bytes none k lt = (kept_lists version points triangles bytes none).points.item k lt

pub kept_places : (version points triangles : ℕ) (bytes : List ℕ) → fault_of (body_in version 0 (field_of points triangles) 0 bytes) ≡ None → HavePoints version bytes points
kept_places version points triangles bytes none = (kept_lists version points triangles bytes none).points.there

-- ---- corners

-- the bytes of the corners of triangle t
abbrev pub corner_bytes : ℕ → ℕ → List ℕ → ℕ → List ℕ
corner_bytes version points bytes t = drop (6 * t) (drop (points_size version points) bytes)

-- what a kept body says of triangle t
pub record HasTriangle (version points : ℕ) (bytes : List ℕ) (lists : BodyLists) (t : ℕ) : Type 0 where
  pub room : points_size version points + (6 * t + 6) ≤ length bytes
  pub item : slice_get lists.corners t ≡ Some (corners_in (corner_bytes version points bytes t))
  pub below : AreBelow points (corners_in (corner_bytes version points bytes t))
  pub not_flat : is_flat_triangle (triangle_of lists.points (corners_in (corner_bytes version points bytes t))) ≡ false

pub kept_triangle : (version points triangles : ℕ) (bytes : List ℕ) → fault_of (body_in version 0 (field_of points triangles) 0 bytes) ≡ None → (t : ℕ) → t < triangles → HasTriangle version points bytes (lists_in version points triangles bytes) t
kept_triangle version points triangles bytes none t lt =
    let l = kept_lists version points triangles bytes none in
    let lists = lists_in version points triangles bytes in
    let rest = corner_bytes version points bytes t in
    let at = is_triangle_at lists.points 0 (0 + length bytes) (0 + t) rest (l.corners.none t lt) in
    let room : 6 ≤ length rest = at.room in
    let long : length lists.points ≡ points = l.points.length_is in
    record {
      room = omega (arith, length-drop (6 * t) (drop (points_size version points) bytes), length-drop (points_size version points) bytes);
      item = l.corners.item t lt;
      below = subst (λ (n : ℕ). AreBelow n (corners_in rest)) long at.below;
      not_flat = at.not_flat;
    }

slice_get-triangles : (points : List Point) (corners : List Corners) (t : ℕ) (found : Corners) → slice_get corners t ≡ Some found → slice_get (triangles_from points corners) t ≡ Some (triangle_of points found)
unfolding triangles_from
slice_get-triangles points [] t found h = absurd cc
slice_get-triangles points (c ∷ cs) zero found h = let same : c ≡ found = cc in ap (λ (x : Corners). Some (triangle_of points x)) same
slice_get-triangles points (c ∷ cs) (suc t) found h = slice_get-triangles points cs t found h

-- what a triangle that was read from kept bytes is
pub record IsTriangleThere (version : ℕ) (bytes : List ℕ) (lists : BodyLists) (t : ℕ) (corners : List ℕ) (triangle : Triangle) : Type 0 where
  pub item : slice_get (triangles_of lists) t ≡ Some triangle
  pub not_flat : is_flat_triangle triangle ≡ false
  pub grid : IsInGrid triangle
  pub places : HasCorners version bytes corners

pub triangle_there : (version points triangles : ℕ) (bytes : List ℕ) → fault_of (body_in version 0 (field_of points triangles) 0 bytes) ≡ None → (t : ℕ) → t < triangles
    → (corners : List ℕ) → corners_of corners ≡ corners_in (corner_bytes version points bytes t) → IsTriangleThere version bytes (lists_in version points triangles bytes) t corners (triangle_of_bytes version bytes corners)
triangle_there version points triangles bytes none t lt corners same =
    let l = kept_lists version points triangles bytes none in
    let lists = lists_in version points triangles bytes in
    let h = kept_triangle version points triangles bytes none t lt in
    let below : AreBelow points (corners_of corners) = subst (AreBelow points) (sym same) h.below in
    let here = triangle_same version points 0 (0 + length bytes) bytes lists.points l.points corners below in
    let there : triangle_of lists.points (corners_in (corner_bytes version points bytes t)) ≡ triangle_of_bytes version bytes corners = ap (triangle_of lists.points) (sym same) ∙ here in
    record {
      item = slice_get-triangles lists.points lists.corners t _ h.item ∙ ap (λ (x : Triangle). Some x) there;
      not_flat = sym (ap is_flat_triangle there) ∙ h.not_flat;
      grid = record { a = (l.points.there _ below.a).grid; b = (l.points.there _ below.b).grid; c = (l.points.there _ below.c).grid };
      places = corners_there version points 0 (0 + length bytes) bytes lists.points l.points corners below;
    }

-- ---- how a body comes to be kept

seen_from : (patch version points triangles : ℕ) (bytes : List ℕ) → fault_of (body_in version 0 (field_of points triangles) 0 bytes) ≡ None → IsTrue (is_version version) → IsCount points → IsCount triangles
    → IsTrue (is_body version (lists_in version points triangles bytes)) → bytes ≡ body_text version (lists_in version points triangles bytes) → IsKept patch version points triangles bytes
seen_from patch version points triangles bytes none known few_points few_triangles rules text =
    let l = kept_lists version points triangles bytes none in
    record {
      reads = none;
      seen = record {
        version = known;
        points = subst IsCount (sym l.points.length_is) few_points;
        triangles = subst IsCount (sym l.corners.count) few_triangles;
        rules = rules;
        text = text;
      };
    }

field-same : (version patch : ℕ) (f : PatchField) (offset : ℕ) (bytes : List ℕ) → body_in version patch (field_of f.points f.triangles) offset bytes ≡ body_in version patch f offset bytes
unfolding body_in
field-same version patch f offset bytes = refl

-- bytes that were read without fault
pub record IsRead (patch version : ℕ) (f : PatchField) (offset : ℕ) (bytes : List ℕ) : Type 0 where
  pub kept : IsKept patch version f.points f.triangles bytes
  pub is : body_in version patch f offset bytes ≡ Ok (lists_in version f.points f.triangles bytes)

pub kept_from_reading : (patch version : ℕ) (f : PatchField) (offset : ℕ) (bytes : List ℕ) → IsBytes bytes → IsTrue (is_version version) → IsCount f.points → IsCount f.triangles → length bytes ≤ body_size version f
    → fault_of (body_in version patch f offset bytes) ≡ None → IsRead patch version f offset bytes
kept_from_reading patch version f offset bytes fits known few_points few_triangles short none =
    let same : body_in version 0 (field_of f.points f.triangles) 0 bytes ≡ body_in version patch f offset bytes = field-same version 0 f 0 bytes ∙ same_lists version patch f offset 0 0 bytes none in
    let reads = ap fault_of same ∙ none in
    let l = kept_lists version f.points f.triangles bytes reads in
    let is = sym same ∙ l.is in
    let read = body_text-in version patch f offset bytes (lists_in version f.points f.triangles bytes) fits short is in
    record { kept = seen_from patch version f.points f.triangles bytes reads known few_points few_triangles read.rules read.text; is = is }

-- lists that were spelled
pub record IsSpelled (patch version points triangles : ℕ) (lists : BodyLists) (bytes : List ℕ) : Type 0 where
  pub kept : IsKept patch version points triangles bytes
  pub same : lists_in version points triangles bytes ≡ lists

pub kept_from_spelling : (patch version points triangles : ℕ) (lists : BodyLists) (bytes : List ℕ) → IsTrue (is_version version) → IsCount points → IsCount triangles → length lists.points ≡ points → length lists.corners ≡ triangles
    → IsTrue (is_body version lists) → bytes ≡ body_text version lists → IsSpelled patch version points triangles lists bytes
unfolding lists_in
kept_from_spelling patch version points triangles lists bytes known few_points few_triangles long many rules text =
    let fits : IsTrue (fits_field (field_of points triangles) lists) = and_from _ _ (eq-eqb (length lists.points) points long) (eq-eqb (length lists.corners) triangles many) in
    let some_there = few_points.some_there in
    let few = few_points.few in
    let read : body_in version 0 (field_of points triangles) 0 bytes ≡ Ok lists = ap (body_in version 0 (field_of points triangles) 0) text ∙ body_in-text version 0 (field_of points triangles) 0 lists rules fits some_there (omega arith) in
    let same : lists_in version points triangles bytes ≡ lists = ap lists_of read in
    record {
      kept = seen_from patch version points triangles bytes (ap fault_of read) known few_points few_triangles (subst (λ (l : BodyLists). IsTrue (is_body version l)) (sym same) rules) (text ∙ ap (body_text version) (sym same));
      same = same;
    }

-- ---- what a call may ask for, by the value that callers see

-- how many points and triangles the value has
pub seen_points : (patch version points triangles : ℕ) (bytes : List ℕ) (body : SeenBody) → IsKept patch version points triangles bytes → seen_body patch version points triangles bytes ≡ body → length body.lists.points ≡ points
seen_points patch version points triangles bytes body kept is = sym (ap (λ (b : SeenBody). length b.lists.points) is) ∙ (kept_lists version points triangles bytes kept.reads).points.length_is

pub seen_triangles : (patch version points triangles : ℕ) (bytes : List ℕ) (body : SeenBody) → IsKept patch version points triangles bytes → seen_body patch version points triangles bytes ≡ body → length body.lists.corners ≡ triangles
seen_triangles patch version points triangles bytes body kept is = sym (ap (λ (b : SeenBody). length b.lists.corners) is) ∙ (kept_lists version points triangles bytes kept.reads).corners.count
