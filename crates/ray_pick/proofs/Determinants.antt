-- A determinant, step by step, each with what its call shows of the numbers before.
use Rattle.std.proofs.Common.{◌≡◌, ◌≤◌, ◌+◌, ◌*◌, ◌+ℤ◌, ◌*ℤ◌, ◌-ℤ◌, ℤ, ◌∙◌, SFits, w64, to_z, of_z}
use Rattle.std.specs.Prelude.{unsigned_abs}
use Rattle.std.specs.Int.{w128}
use Rattle.std.proofs.lemmas.Int.{to_z-of_z}
use Rattle.ray_pick.specs.declared.vectors.Vector.{Vector}
use Rattle.ray_pick.specs.Rays.{determinant}
use Rattle.ray_pick.specs.Bounds.{IsShort}
use Rattle.ray_pick.specs.Meetings.{size_of}
use Rattle.ray_pick.proofs.WideNumbers.{shown, minor_is, wide_is, sum_is, wide_within, flat_within, sum_bound, size_within}

abbrev as_i64 : ℤ → ℤ
as_i64 z = to_z w64 (of_z w64 z)

abbrev as_i128 : ℤ → ℤ
as_i128 z = to_z w128 (of_z w128 z)

-- the coordinates fit their type
pub record Fits (v : Vector) : Type 0 where
  pub x : SFits w64 v.x
  pub y : SFits w64 v.y
  pub z : SFits w64 v.z

abbrev IsMinor : (m a b c d : ℤ) → Type 0
IsMinor m a b c d = m ≡ as_i64 a *ℤ as_i64 d -ℤ as_i64 b *ℤ as_i64 c

-- what the calls say
pub record Steps (p q r : Vector) (m1 m2 m3 p1 p2 p3 flat all : ℤ) : Type 0 where
  pub fits_p : Fits p
  pub fits_q : Fits q
  pub fits_r : Fits r
  pub short : IsShort 4194304 r
  pub minor_1 : IsMinor m1 p.y p.z q.y q.z
  pub minor_2 : IsMinor m2 p.z p.x q.z q.x
  pub minor_3 : IsMinor m3 p.x p.y q.x q.y
  pub fits_1 : SFits w64 m1
  pub fits_2 : SFits w64 m2
  pub fits_3 : SFits w64 m3
  pub wide_1 : p1 ≡ as_i64 m1 *ℤ as_i64 r.x
  pub wide_2 : p2 ≡ as_i64 m2 *ℤ as_i64 r.y
  pub wide_3 : p3 ≡ as_i64 m3 *ℤ as_i64 r.z
  pub bound_1 : unsigned_abs p1 ≤ 35184372088832 * unsigned_abs (as_i64 r.x)
  pub bound_2 : unsigned_abs p2 ≤ 35184372088832 * unsigned_abs (as_i64 r.y)
  pub bound_3 : unsigned_abs p3 ≤ 35184372088832 * unsigned_abs (as_i64 r.z)
  pub flat_is : flat ≡ as_i128 p1 +ℤ as_i128 p2
  pub flat_bound : unsigned_abs flat ≤ unsigned_abs (as_i128 p1) + unsigned_abs (as_i128 p2)
  pub all_is : all ≡ as_i128 flat +ℤ as_i128 p3
  pub all_bound : unsigned_abs all ≤ unsigned_abs (as_i128 flat) + unsigned_abs (as_i128 p3)

-- the numbers stand for themselves
record Shown (r : Vector) (p1 p2 p3 flat all : ℤ) : Type 0 where
  first : as_i128 p1 ≡ p1
  second : as_i128 p2 ≡ p2
  third : as_i128 p3 ≡ p3
  sum : as_i128 flat ≡ flat
  total : as_i128 all ≡ all
  bound : unsigned_abs all ≤ 35184372088832 * size_of r

shown_by : (p q r : Vector) (m1 m2 m3 p1 p2 p3 flat all : ℤ) → Steps p q r m1 m2 m3 p1 p2 p3 flat all → Shown r p1 p2 p3 flat all
shown_by p q r m1 m2 m3 p1 p2 p3 flat all s =
    let x = unsigned_abs r.x in
    let y = unsigned_abs r.y in
    let z = unsigned_abs r.z in
    let b1 : unsigned_abs p1 ≤ 35184372088832 * x = rw (← to_z-of_z w64 r.x s.fits_r.x) s.bound_1 in
    let b2 : unsigned_abs p2 ≤ 35184372088832 * y = rw (← to_z-of_z w64 r.y s.fits_r.y) s.bound_2 in
    let b3 : unsigned_abs p3 ≤ 35184372088832 * z = rw (← to_z-of_z w64 r.z s.fits_r.z) s.bound_3 in
    let s1 = shown p1 (wide_within (unsigned_abs p1) x b1 s.short.x) in
    let s2 = shown p2 (wide_within (unsigned_abs p2) y b2 s.short.y) in
    let s3 = shown p3 (wide_within (unsigned_abs p3) z b3 s.short.z) in
    let bf : unsigned_abs flat ≤ unsigned_abs p1 + unsigned_abs p2 = rw (← s1, ← s2) s.flat_bound in
    let sf = shown flat (flat_within (unsigned_abs flat) (unsigned_abs p1) (unsigned_abs p2) x y bf b1 b2 s.short.x s.short.y) in
    let ba : unsigned_abs all ≤ unsigned_abs flat + unsigned_abs p3 = rw (← sf, ← s3) s.all_bound in
    let bound = sum_bound p1 p2 p3 flat all x y z b1 b2 b3 bf ba in
    record { first = s1; second = s2; third = s3; sum = sf; total = shown all (size_within (unsigned_abs all) x y z bound s.short.x s.short.y s.short.z); bound = bound }

pub determinant_bound : (p q r : Vector) (m1 m2 m3 p1 p2 p3 flat all : ℤ) → Steps p q r m1 m2 m3 p1 p2 p3 flat all → unsigned_abs (as_i128 all) ≤ 35184372088832 * size_of r
determinant_bound p q r m1 m2 m3 p1 p2 p3 flat all s =
    let w = shown_by p q r m1 m2 m3 p1 p2 p3 flat all s in
    rw (w.total) w.bound

pub determinant_is : (p q r : Vector) (m1 m2 m3 p1 p2 p3 flat all : ℤ) → Steps p q r m1 m2 m3 p1 p2 p3 flat all → as_i128 all ≡ determinant p q r
unfolding determinant
determinant_is p q r m1 m2 m3 p1 p2 p3 flat all s =
    let w = shown_by p q r m1 m2 m3 p1 p2 p3 flat all s in
    let px = to_z-of_z w64 p.x s.fits_p.x in
    let py = to_z-of_z w64 p.y s.fits_p.y in
    let pz = to_z-of_z w64 p.z s.fits_p.z in
    let qx = to_z-of_z w64 q.x s.fits_q.x in
    let qy = to_z-of_z w64 q.y s.fits_q.y in
    let qz = to_z-of_z w64 q.z s.fits_q.z in
    let n1 = p.y *ℤ q.z -ℤ p.z *ℤ q.y in
    let n2 = p.z *ℤ q.x -ℤ p.x *ℤ q.z in
    let n3 = p.x *ℤ q.y -ℤ p.y *ℤ q.x in
    let i1 = minor_is m1 p.y p.z q.y q.z (as_i64 p.y) (as_i64 p.z) (as_i64 q.y) (as_i64 q.z) py pz qy qz s.minor_1 in
    let i2 = minor_is m2 p.z p.x q.z q.x (as_i64 p.z) (as_i64 p.x) (as_i64 q.z) (as_i64 q.x) pz px qz qx s.minor_2 in
    let i3 = minor_is m3 p.x p.y q.x q.y (as_i64 p.x) (as_i64 p.y) (as_i64 q.x) (as_i64 q.y) px py qx qy s.minor_3 in
    let k1 = wide_is p1 m1 n1 r.x (as_i64 m1) (as_i64 r.x) (to_z-of_z w64 m1 s.fits_1) (to_z-of_z w64 r.x s.fits_r.x) i1 s.wide_1 in
    let k2 = wide_is p2 m2 n2 r.y (as_i64 m2) (as_i64 r.y) (to_z-of_z w64 m2 s.fits_2) (to_z-of_z w64 r.y s.fits_r.y) i2 s.wide_2 in
    let k3 = wide_is p3 m3 n3 r.z (as_i64 m3) (as_i64 r.z) (to_z-of_z w64 m3 s.fits_3) (to_z-of_z w64 r.z s.fits_r.z) i3 s.wide_3 in
    w.total ∙ sum_is p1 p2 p3 (n1 *ℤ r.x) (n2 *ℤ r.y) (n3 *ℤ r.z) flat all (as_i128 p1) (as_i128 p2) (as_i128 p3) (as_i128 flat) w.first w.second w.third w.sum k1 k2 k3 s.flat_is s.all_is
