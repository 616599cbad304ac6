-- Points, offsets and triangles as units.
use Rattle.std.proofs.Common.{◌≡◌, ℕ, ◌+◌, ◌*◌, ◌≤◌, ◌<◌, true, false, cond, ltb, eqb, not, List, length, drop, Some, None, Result, Ok, Err, inl, inr, refl, sym, ap, ◌∙◌, arith}
use Rattle.std.specs.Prelude.{slice_get}
use Rattle.std.specs.List.{list_any}
use Rattle.std.specs.Ordering.{int_eq}
use Rattle.std.proofs.lemmas.Bool.{ltb-false, le-ltb, not-false, cases_Bool}
use Rattle.std.proofs.lemmas.List.{drop-drop, length-drop}
use Rattle.grid_vertex.specs.declared.points.Point.{Point}
use Rattle.grid_vertex.specs.Points.{is_in_grid}
use Rattle.file_model.specs.declared.faults.FileFault.{FileFault}
use Rattle.file_model.specs.declared.faults.FileFault.TheVariants.{Truncated, PointOutOfGrid, Loose}
use Rattle.file_model.specs.Lists.{point_at_place}
use Rattle.file_model.specs.Reading.{◌>>=◌, point_in, shifted_in, point_at, shifted_at, many_at, tight, shifted_points_at, points_at}
use Rattle.patch_body.specs.Faults.{fault_of}
use Rattle.patch_body.specs.Places.{points_size, point_of_bytes, HavePoints}
use Rattle.patch_body.proofs.Units.{IsUnit, given, passes, are_units, first_none, same_units}

-- what reading point k of a body of version 1 says where it has no fault
pub record IsPoint (value : Point) (width : ℕ) (bytes : List ℕ) (read : Result (Point × List ℕ) FileFault) : Type 0 where
  pub gives : read ≡ given value (drop width bytes)
  pub room : width ≤ length bytes
  pub grid : is_in_grid value ≡ true

-- a unit of a point: room for it, and the point in the grid
checked_point : (value : Point) (width : ℕ) (bytes : List ℕ) (short out : FileFault) → (read : Result (Point × List ℕ) FileFault) → read ≡ cond (ltb (length bytes) width) (Err short) (cond (not (is_in_grid value)) (Err out) (given value (drop width bytes)))
    → fault_of read ≡ None → IsPoint value width bytes read
checked_point value width bytes short out read is h =
    let room = passes (ltb (length bytes) width) short _ (sym (ap fault_of is) ∙ h) in
    let grid = passes (not (is_in_grid value)) out (given value (drop width bytes)) room.none in
    record {
      gives = is ∙ room.is ∙ grid.is;
      room = ltb-false (length bytes) width room.fails;
      grid = not-false (is_in_grid value) grid.fails;
    }

pub is_point : (patch end k : ℕ) (bytes : List ℕ) → fault_of (point_at patch end k bytes) ≡ None → IsPoint (point_in bytes) 12 bytes (point_at patch end k bytes)
unfolding point_at
is_point patch end k bytes h = checked_point (point_in bytes) 12 bytes (Truncated end) (PointOutOfGrid patch k) _ refl h

pub is_shifted : (origin : Point) (patch end k : ℕ) (bytes : List ℕ) → fault_of (shifted_at origin patch end k bytes) ≡ None → IsPoint (shifted_in origin bytes) 6 bytes (shifted_at origin patch end k bytes)
unfolding shifted_at
is_shifted origin patch end k bytes h = checked_point (shifted_in origin bytes) 6 bytes (Truncated end) (PointOutOfGrid patch k) _ refl h

pub point_unit : (patch end : ℕ) → IsUnit 12 point_in (point_at patch end)
point_unit patch end = record {
  gives = λ k bytes h. (is_point patch end k bytes h).gives;
  room = λ k bytes h. (is_point patch end k bytes h).room;
}

pub shifted_unit : (origin : Point) (patch end : ℕ) → IsUnit 6 (shifted_in origin) (shifted_at origin patch end)
shifted_unit origin patch end = record {
  gives = λ k bytes h. (is_shifted origin patch end k bytes h).gives;
  room = λ k bytes h. (is_shifted origin patch end k bytes h).room;
}

-- ---- the points of a body

-- the points of a body that have no fault
pub record ArePoints (version count patch end : ℕ) (bytes : List ℕ) (points : List Point) : Type 0 where
  pub is : points_at version count patch end bytes ≡ Ok (points, drop (points_size version count) bytes)
  pub length_is : length points ≡ count
  pub item : (k : ℕ) → k < count → slice_get points k ≡ Some (point_of_bytes version bytes k)
  pub there : HavePoints version bytes count
  pub room : points_size version count ≤ length bytes

plain_points : (version count patch end : ℕ) (bytes : List ℕ) → eqb version 2 ≡ false → fault_of (many_at (point_at patch end) count 0 bytes) ≡ None → (points : List Point) × ArePoints version count patch end bytes points
unfolding points_at points_size point_of_bytes
plain_points version count patch end bytes e h =
    let u = are_units (point_unit patch end) count 0 bytes h in
    let at = λ (k : ℕ) (lt : k < count). is_point patch end (0 + k) (drop (12 * k) bytes) (u.1.none k lt) in (
      u.0,
      record {
        is = rw e (u.1.is);
        length_is = u.1.count;
        item = λ k lt. rw e (u.1.item k lt);
        there = λ k lt. record { room = rw e (let room = (at k lt).room in omega (arith, length-drop (12 * k) bytes)); grid = rw e ((at k lt).grid) };
        room = rw e (u.1.room);
      },
    )

tight_gives : (origin : Point) (patch : ℕ) (points : List Point × List ℕ) → fault_of (tight origin patch points) ≡ None → tight origin patch points ≡ Ok points
unfolding tight
tight_gives origin patch points h =
    let x = passes (not (list_any (λ (p : Point). int_eq p.x origin.x) points.0)) (Loose patch 0) _ h in
    let y = passes (not (list_any (λ (p : Point). int_eq p.y origin.y) points.0)) (Loose patch 1) _ x.none in
    let z = passes (not (list_any (λ (p : Point). int_eq p.z origin.z) points.0)) (Loose patch 2) _ y.none in
    x.is ∙ y.is ∙ z.is

-- what reading the points of version 2 says where it has no fault
record AreShifted (count patch end : ℕ) (bytes : List ℕ) : Type 0 where
  room : 12 ≤ length bytes
  none : fault_of (many_at (shifted_at (point_in bytes) patch end) count 0 (drop 12 bytes)) ≡ None
  is : shifted_points_at count patch end bytes ≡ many_at (shifted_at (point_in bytes) patch end) count 0 (drop 12 bytes)

kept_by_tight : (origin : Point) (patch : ℕ) (read : Result (List Point × List ℕ) FileFault) → fault_of (read >>= tight origin patch) ≡ None → (read >>= tight origin patch) ≡ read
kept_by_tight origin patch (Ok points) h = tight_gives origin patch points h
kept_by_tight origin patch (Err fault) h = refl

are_shifted : (count patch end : ℕ) (bytes : List ℕ) → fault_of (shifted_points_at count patch end bytes) ≡ None → AreShifted count patch end bytes
unfolding shifted_points_at
are_shifted count patch end bytes h =
    let read = many_at (shifted_at (point_in bytes) patch end) count 0 (drop 12 bytes) in
    let room = passes (ltb (length bytes) 12) (Truncated end) (read >>= tight (point_in bytes) patch) h in
    record {
      room = ltb-false (length bytes) 12 room.fails;
      none = first_none read (tight (point_in bytes) patch) room.none;
      is = room.is ∙ kept_by_tight (point_in bytes) patch read room.none;
    }

shifted_points : (version count patch end : ℕ) (bytes : List ℕ) → eqb version 2 ≡ true → fault_of (shifted_points_at count patch end bytes) ≡ None → (points : List Point) × ArePoints version count patch end bytes points
unfolding points_at points_size point_of_bytes
shifted_points version count patch end bytes e h =
    let s = are_shifted count patch end bytes h in
    let u = are_units (shifted_unit (point_in bytes) patch end) count 0 (drop 12 bytes) s.none in
    let at = λ (k : ℕ) (lt : k < count). is_shifted (point_in bytes) patch end (0 + k) (drop (6 * k) (drop 12 bytes)) (u.1.none k lt) in
    let past : (n : ℕ) → drop (6 * n) (drop 12 bytes) ≡ drop (12 + 6 * n) bytes = λ n. drop-drop (6 * n) 12 bytes in (
      u.0,
      record {
        is = rw e (s.is ∙ u.1.is ∙ ap (λ (rest : List ℕ). Ok (u.0, rest)) (past count));
        length_is = u.1.count;
        item = λ k lt. rw e (u.1.item k lt ∙ ap (λ (rest : List ℕ). Some (shifted_in (point_in bytes) rest)) (past k));
        there = λ k lt. record {
          room = rw e (let room : 6 ≤ length (drop (12 + 6 * k) bytes) = rw (past k) at ((at k lt).room) in omega (arith, length-drop (12 + 6 * k) bytes));
          grid = rw e (rw (past k) at ((at k lt).grid));
        };
        room = rw e (let behind = u.1.room in let front = s.room in omega (arith, length-drop 12 bytes));
      },
    )

pub are_points : (version count patch end : ℕ) (bytes : List ℕ) → fault_of (points_at version count patch end bytes) ≡ None → (points : List Point) × ArePoints version count patch end bytes points
unfolding points_at
are_points version count patch end bytes h =
    elim (cases_Bool (eqb version 2)) [
      | inl e ↦ shifted_points version count patch end bytes e (rw e at h)
      | inr e ↦ plain_points version count patch end bytes e (rw e at h)
    ]

-- a point of the list is that of the bytes
pub place_of : (version count patch end : ℕ) (bytes : List ℕ) (points : List Point) → ArePoints version count patch end bytes points → (k : ℕ) → k < count → point_at_place points k ≡ point_of_bytes version bytes k
unfolding point_at_place
place_of version count patch end bytes points a k lt = rw (a.item k lt) refl

-- points that have no fault have none in a body of another patch or place, and are the same
less_point : (patch end other place : ℕ) (k : ℕ) (bytes : List ℕ) → fault_of (point_at patch end k bytes) ≡ None → fault_of (point_at other place k bytes) ≡ None
unfolding point_at
less_point patch end other place k bytes h =
    let p = is_point patch end k bytes h in
    rw (le-ltb (length bytes) 12 p.room, p.grid) refl

less_shifted : (origin : Point) (patch end other place : ℕ) (k : ℕ) (bytes : List ℕ) → fault_of (shifted_at origin patch end k bytes) ≡ None → fault_of (shifted_at origin other place k bytes) ≡ None
unfolding shifted_at
less_shifted origin patch end other place k bytes h =
    let p = is_shifted origin patch end k bytes h in
    rw (le-ltb (length bytes) 6 p.room, p.grid) refl

tight_same : (origin : Point) (patch other : ℕ) (points : List Point × List ℕ) → fault_of (tight origin patch points) ≡ None → tight origin other points ≡ Ok points
unfolding tight
tight_same origin patch other points h =
    let x = passes (not (list_any (λ (p : Point). int_eq p.x origin.x) points.0)) (Loose patch 0) _ h in
    let y = passes (not (list_any (λ (p : Point). int_eq p.y origin.y) points.0)) (Loose patch 1) _ x.none in
    let z = passes (not (list_any (λ (p : Point). int_eq p.z origin.z) points.0)) (Loose patch 2) _ y.none in
    rw (x.fails, y.fails, z.fails) refl

same_tight : (origin : Point) (patch other : ℕ) (read : Result (List Point × List ℕ) FileFault) → fault_of (read >>= tight origin patch) ≡ None → (read >>= tight origin other) ≡ (read >>= tight origin patch)
same_tight origin patch other (Ok points) h = tight_same origin patch other points h ∙ sym (tight_gives origin patch points h)
same_tight origin patch other (Err fault) h = refl

same_shifted : (count patch end other place : ℕ) (bytes : List ℕ) → fault_of (shifted_points_at count patch end bytes) ≡ None → shifted_points_at count other place bytes ≡ shifted_points_at count patch end bytes
unfolding shifted_points_at
same_shifted count patch end other place bytes h =
    let origin = point_in bytes in
    let read = many_at (shifted_at origin patch end) count 0 (drop 12 bytes) in
    let room = passes (ltb (length bytes) 12) (Truncated end) (read >>= tight origin patch) h in
    let same = same_units (shifted_unit origin patch end) (shifted_unit origin other place) (less_shifted origin patch end other place) count 0 (drop 12 bytes) (first_none read (tight origin patch) room.none) in
    rw (room.fails) (ap (λ (r : Result (List Point × List ℕ) FileFault). r >>= tight origin other) same ∙ same_tight origin patch other read room.none)

pub same_points : (version count patch end other place : ℕ) (bytes : List ℕ) → fault_of (points_at version count patch end bytes) ≡ None → points_at version count other place bytes ≡ points_at version count patch end bytes
unfolding points_at
same_points version count patch end other place bytes h =
    elim (cases_Bool (eqb version 2)) [
      | inl e ↦ rw e (same_shifted count patch end other place bytes (rw e at h))
      | inr e ↦ rw e (same_units (point_unit patch end) (point_unit other place) (less_point patch end other place) count 0 bytes (rw e at h))
    ]
