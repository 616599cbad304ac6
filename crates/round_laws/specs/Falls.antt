-- From no eye does a node appear with a greater error than one that has no less error, in a ball that holds
-- the node's.
use Rattle.std.proofs.Common.{◌≡◌, ℕ, ◌+◌, ◌-◌, ◌*◌, ◌/◌, ◌<◌, ◌≤◌, max, true, leb, arith}
use Rattle.std.specs.Prelude.{ℤ, IsTrue}
use Rattle.std.proofs.lemmas.Int.{ints}
use Rattle.std.proofs.lemmas.Bool.{and_parts, leb-true}
use Rattle.std.proofs.Math.Nat.{mul-le-mul, div-mul-le_self}
use Rattle.std.proofs.lemmas.Nat.{le-div}
use Rattle.grid_vertex.specs.declared.points.Point.{Point}
use Rattle.grid_vertex.specs.declared.balls.Ball.{Ball}
use Rattle.grid_vertex.specs.Points.{gap, square, distance_squared_of}
use Rattle.grid_vertex.specs.Balls.{is_ball_within}
use Rattle.grid_vertex.specs.Roots.{root_of}
use Rattle.file_model.specs.declared.fields.Node.{Node}
use Rattle.mesh_model.specs.Accepted.{has_no_more_error, has_ball_within}
use Rattle.round_model.specs.Scores.{distance_of, score_of}
use Rattle.round_laws.specs.Roots.{root_within}

gap_within : (e c d : ℤ) → gap e c ≤ gap e d + gap c d
gap_within e c d = omega (arith, ints)

-- what the test of balls tells
record IsWithin (outer inner : Ball) : Type 0 where
  radius : inner.radius ≤ outer.radius
  centre : distance_squared_of outer.centre inner.centre ≤ square (outer.radius - inner.radius)

within_from_test : (outer inner : Ball) → is_ball_within outer inner ≡ true → IsWithin outer inner
unfolding is_ball_within
within_from_test outer inner h =
    let parts = and_parts (leb inner.radius outer.radius) (leb (distance_squared_of outer.centre inner.centre) (square (outer.radius - inner.radius))) h in
    record {
      radius = leb-true inner.radius outer.radius parts.0;
      centre = leb-true (distance_squared_of outer.centre inner.centre) (square (outer.radius - inner.radius)) parts.1;
    }

root_of_distance : (eye : Point) (outer inner : Ball) → IsWithin outer inner → root_of (distance_squared_of eye outer.centre) ≤ root_of (distance_squared_of eye inner.centre) + (outer.radius - inner.radius)
unfolding distance_squared_of
root_of_distance eye outer inner within =
    let e = eye in
    let c = outer.centre in
    let d = inner.centre in
    root_within (gap e.x c.x) (gap e.y c.y) (gap e.z c.z) (gap e.x d.x) (gap e.y d.y) (gap e.z d.z) (gap c.x d.x) (gap c.y d.y) (gap c.z d.z) (outer.radius - inner.radius)
    (gap_within e.x c.x d.x) (gap_within e.y c.y d.y) (gap_within e.z c.z d.z) within.centre

-- an eye is no further from a ball than from one that it holds
pub distance_falls : (eye : Point) (outer inner : Ball) → is_ball_within outer inner ≡ true → distance_of eye outer ≤ distance_of eye inner
unfolding distance_of
distance_falls eye outer inner h =
    let within = within_from_test outer inner h in
    plain (root_of (distance_squared_of eye outer.centre)) (root_of (distance_squared_of eye inner.centre)) outer.radius inner.radius within.radius (root_of_distance eye outer inner within)
  where
    plain : (a b r s : ℕ) → s ≤ r → a ≤ b + (r - s) → max 1 (a - r) ≤ max 1 (b - s)
    plain a b r s less near = omega arith

distance_positive : (eye : Point) (ball : Ball) → 0 < distance_of eye ball
unfolding distance_of
distance_positive eye ball = omega arith

-- a lesser number by a greater one
quotient_falls : (m n d e : ℕ) → m ≤ n → e ≤ d → 0 < e → m / d ≤ n / e
quotient_falls m n d e less near positive =
    let product : m / d * e ≤ m / d * d = mul-le-mul (omega arith) near in
    le-div (m / d) n e positive (omega (arith, product, div-mul-le_self m d))

pub score_falls : (eye : Point) (focal : ℕ) (u v : Node) → IsTrue (has_no_more_error u v) → IsTrue (has_ball_within u v) → score_of eye focal v ≤ score_of eye focal u
unfolding score_of
score_falls eye focal u v errors balls =
    let less : v.error * focal ≤ u.error * focal = mul-le-mul (leb-true v.error u.error errors) (omega arith) in
    quotient_falls (v.error * focal) (u.error * focal) (distance_of eye v.ball) (distance_of eye u.ball) less (distance_falls eye u.ball v.ball balls) (distance_positive eye u.ball)
