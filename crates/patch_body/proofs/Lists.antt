-- A body of which reading finds no fault.
use Rattle.std.proofs.Common.{◌≡◌, ℕ, ◌+◌, List, length, drop, None, Result, Ok, Err, refl, sym, ◌∙◌}
use Rattle.grid_vertex.specs.declared.points.Point.{Point}
use Rattle.file_model.specs.declared.faults.FileFault.{FileFault}
use Rattle.file_model.specs.declared.fields.PatchField.{PatchField}
use Rattle.file_model.specs.Lists.{Corners, BodyLists}
use Rattle.file_model.specs.Reading.{◌>>=◌, corners_in, triangle_at, points_at, many_at, body_in}
use Rattle.patch_body.specs.Faults.{fault_of}
use Rattle.patch_body.specs.Places.{points_size, points_read}
use Rattle.patch_body.proofs.Units.{AreUnits, are_units, first_none, same_units}
use Rattle.patch_body.proofs.Points.{ArePoints, are_points, same_points}
use Rattle.patch_body.proofs.Triangles.{triangle_unit, less_triangle}

abbrev lists_from : List Point → List Corners × List ℕ → Result BodyLists FileFault
lists_from points corners = Ok (record { points = points; corners = corners.0 })

fault-lists : (points : List Point) (read : Result (List Corners × List ℕ) FileFault) → fault_of (read >>= lists_from points) ≡ fault_of read
fault-lists points (Ok corners) = refl
fault-lists points (Err fault) = refl

-- where the points have none, the body's is that of the triangles
pub body_fault : (version patch : ℕ) (f : PatchField) (offset : ℕ) (bytes : List ℕ) → let end = offset + length bytes in
    fault_of (points_at version f.points patch end bytes) ≡ None
    → fault_of (body_in version patch f offset bytes) ≡ fault_of (many_at (triangle_at (points_read version f.points patch end bytes) patch end) f.triangles 0 (drop (points_size version f.points) bytes))
unfolding body_in
body_fault version patch f offset bytes none =
    let end = offset + length bytes in
    let p = are_points version f.points patch end bytes none in
    let read = many_at (triangle_at p.0 patch end) f.triangles 0 (drop (points_size version f.points) bytes) in
    rw (p.1.is) (fault-lists p.0 read)

-- a body from its points and its corners
body_is : (version patch : ℕ) (f : PatchField) (offset : ℕ) (bytes : List ℕ) (points : List Point) (corners : List Corners) (rest left : List ℕ)
    → points_at version f.points patch (offset + length bytes) bytes ≡ Ok (points, rest)
    → many_at (triangle_at points patch (offset + length bytes)) f.triangles 0 rest ≡ Ok (corners, left)
    → body_in version patch f offset bytes ≡ Ok (record { points = points; corners = corners })
unfolding body_in
body_is version patch f offset bytes points corners rest left p t = rw (p, t) refl

-- the lists of a body of which reading finds no fault
pub record AreLists (version patch : ℕ) (f : PatchField) (offset : ℕ) (bytes : List ℕ) (lists : BodyLists) : Type 0 where
  pub is : body_in version patch f offset bytes ≡ Ok lists
  pub points : ArePoints version f.points patch (offset + length bytes) bytes lists.points
  pub corners : AreUnits 6 corners_in (triangle_at lists.points patch (offset + length bytes)) f.triangles 0 (drop (points_size version f.points) bytes) lists.corners

pub are_lists : (version patch : ℕ) (f : PatchField) (offset : ℕ) (bytes : List ℕ) → fault_of (body_in version patch f offset bytes) ≡ None → (lists : BodyLists) × AreLists version patch f offset bytes lists
unfolding body_in
are_lists version patch f offset bytes none =
    let end = offset + length bytes in
    let p = are_points version f.points patch end bytes (first_none (points_at version f.points patch end bytes) _ none) in
    let read = many_at (triangle_at p.0 patch end) f.triangles 0 (drop (points_size version f.points) bytes) in
    let behind : fault_of read ≡ None = sym (fault-lists p.0 read) ∙ (rw (p.1.is) at none) in
    let u = are_units (triangle_unit p.0 patch end) f.triangles 0 (drop (points_size version f.points) bytes) behind in
    (record { points = p.0; corners = u.0 }, record { is = body_is version patch f offset bytes p.0 u.0 _ _ p.1.is u.1.is; points = p.1; corners = u.1 })

-- a body without fault gives the same lists for every patch and place
pub same_lists : (version patch : ℕ) (f : PatchField) (offset other place : ℕ) (bytes : List ℕ) → fault_of (body_in version patch f offset bytes) ≡ None → body_in version other f place bytes ≡ body_in version patch f offset bytes
unfolding body_in
same_lists version patch f offset other place bytes none =
    let end = offset + length bytes in
    let there = place + length bytes in
    let points_none = first_none (points_at version f.points patch end bytes) _ none in
    let p = are_points version f.points patch end bytes points_none in
    let rest = drop (points_size version f.points) bytes in
    let read = many_at (triangle_at p.0 patch end) f.triangles 0 rest in
    let behind : fault_of read ≡ None = sym (fault-lists p.0 read) ∙ (rw (p.1.is) at none) in
    let same = same_units (triangle_unit p.0 patch end) (triangle_unit p.0 other there) (less_triangle p.0 patch end other there) f.triangles 0 rest behind in
    rw (same_points version f.points patch end other there bytes points_none, p.1.is, same) refl
