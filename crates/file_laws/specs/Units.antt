-- A point, a node, a patch field and a triangle's corners are spelled by their bytes, and bytes are
-- the spelling of what they say.
use Rattle.std.proofs.Common.{◌≡◌, ℕ, ◌+◌, ◌*◌, ◌^◌, ◌<◌, ◌≤◌, true, ◌&&◌, leb, ltb, List, [], ◌∷◌, ◌++◌, length, take, drop, refl, sym, ap, ◌∙◌, append_assoc, arith}
use Rattle.std.specs.Prelude.{ℤ, unsigned_abs, FitsSigned, IsTrue}
use Rattle.std.specs.Int.{w32}
use Rattle.std.specs.List.{flat_map}
use Rattle.std.proofs.Math.Seq.{take-add}
use Rattle.std.proofs.lemmas.Bool.{and_parts, leb-true, ltb-true}
use Rattle.std.proofs.lemmas.Int.{fits_signed_from_abs}
use Rattle.std.proofs.lemmas.List.{drop_at, drop-drop, length-append, length-drop}
use Rattle.grid_vertex.specs.Points.{is_within, is_in_grid}
use Rattle.grid_vertex.specs.declared.points.Point.{Point}
use Rattle.file_model.specs.declared.fields.Node.{Node}
use Rattle.file_model.specs.declared.fields.PatchField.{PatchField}
use Rattle.file_model.specs.Numbers.{number_text, number_in, signed_text, signed_in}
use Rattle.file_model.specs.Lists.{Corners}
use Rattle.file_model.specs.Spelling.{point_text, node_text, field_text, corners_text}
use Rattle.file_model.specs.Reading.{point_in, node_in, field_in, corners_in}
use Rattle.file_model.specs.Rules.{is_node, are_corners}
use Rattle.file_laws.specs.Numbers.{IsBytes, IsBytes-drop, length-number_text, length-signed_text, number_in-text, number_text-in, signed_in-text, signed_text-in}

-- ---- pieces of a list

-- what lies behind a front of m
pub drop_past : (front rest : List ℕ) (m n : ℕ) → length front ≡ m → drop (m + n) (front ++ rest) ≡ drop n rest
drop_past front rest m n len = sym (drop-drop n m (front ++ rest)) ∙ ap (drop n) (drop_at front rest m len)

-- two fronts of one after the other
pub both : {a b c d : List ℕ} → a ≡ b → c ≡ d → a ++ c ≡ b ++ d
both {a} {b} {c} {d} p q = ap (λ (x : List ℕ). x ++ c) p ∙ ap (λ (y : List ℕ). b ++ y) q

-- a list of m + n from its first m, which a reader read at its place, and the n behind
pub take_both : (m n : ℕ) (bytes front behind : List ℕ) → front ≡ take m bytes → behind ≡ take n (drop m bytes) → front ++ behind ≡ take (m + n) bytes
take_both m n bytes front behind p q = both p q ∙ sym (take-add m n bytes)

-- texts of one length each, one after the other
pub length-each : {X : Type 0} (text : X → List ℕ) (width : ℕ) → ((x : X) → length (text x) ≡ width) → (xs : List X) → length (flat_map text xs) ≡ width * length xs
length-each text width each [] = omega arith
length-each text width each (x ∷ xs) = omega (arith, length-append (text x) (flat_map text xs), each x, length-each text width each xs)

-- a spelling of three parts, as it stands before more
pub regroup_three : (a b c rest : List ℕ) → (a ++ (b ++ c)) ++ rest ≡ a ++ (b ++ (c ++ rest))
regroup_three a b c rest = append_assoc a (b ++ c) rest ∙ ap (λ (t : List ℕ). a ++ t) (append_assoc b c rest)

-- ---- points

coordinate_fits : (z : ℤ) → is_within 1048576 z ≡ true → FitsSigned w32 z
coordinate_fits z h = fits_signed_from_abs w32 z (omega (arith, leb-true (unsigned_abs z) 1048576 h))

pub length-point_text : (p : Point) → length (point_text p) ≡ 12
unfolding point_text
length-point_text p =
    length-append (signed_text p.x) _ ∙ omega (arith, length-append (signed_text p.y) (signed_text p.z), length-signed_text p.x, length-signed_text p.y, length-signed_text p.z)

pub point_in-text : (p : Point) (rest : List ℕ) → IsTrue (is_in_grid p) → point_in (point_text p ++ rest) ≡ p
unfolding point_text
point_in-text p rest h =
    let xy = and_parts _ _ h in
    let x_y = and_parts _ _ xy.0 in
    let sx = signed_text p.x in
    let sy = signed_text p.y in
    let sz = signed_text p.z in
    let whole : point_text p ++ rest ≡ sx ++ (sy ++ (sz ++ rest)) = regroup_three sx sy sz rest in
    let second : drop 4 (sx ++ (sy ++ (sz ++ rest))) ≡ sy ++ (sz ++ rest) = drop_at sx (sy ++ (sz ++ rest)) 4 (length-signed_text p.x) in
    let third : drop 8 (sx ++ (sy ++ (sz ++ rest))) ≡ sz ++ rest = drop_past sx (sy ++ (sz ++ rest)) 4 4 (length-signed_text p.x) ∙ drop_at sy (sz ++ rest) 4 (length-signed_text p.y) in
    ap point_in whole ∙ rw (second, third, signed_in-text p.x (sy ++ (sz ++ rest)) (coordinate_fits p.x x_y.0), signed_in-text p.y (sz ++ rest) (coordinate_fits p.y x_y.1), signed_in-text p.z rest (coordinate_fits p.z xy.1)) refl

pub point_text-in : (bytes : List ℕ) → IsBytes bytes → 12 ≤ length bytes → point_text (point_in bytes) ≡ take 12 bytes
unfolding point_text
point_text-in bytes fits long =
    let behind : List ℕ = drop 4 bytes in
    let last : signed_text (signed_in (drop 8 bytes)) ≡ take 4 (drop 4 behind) = signed_text-in (drop 8 bytes) (IsBytes-drop 8 bytes fits) (omega (arith, length-drop 8 bytes)) ∙ ap (take 4) (sym (drop-drop 4 4 bytes)) in
    take_both 4 8 bytes _ _ (signed_text-in bytes fits (omega arith)) (take_both 4 4 behind _ _ (signed_text-in behind (IsBytes-drop 4 bytes fits) (omega (arith, length-drop 4 bytes))) last)

-- ---- nodes

pub length-node_text : (n : Node) → length (node_text n) ≡ 20
unfolding node_text
length-node_text n =
    length-append (point_text n.ball.centre) _ ∙ omega (arith, length-append (number_text 4 n.ball.radius) (number_text 4 n.error), length-point_text n.ball.centre, length-number_text 4 n.ball.radius, length-number_text 4 n.error)

pub node_in-text : (n : Node) (rest : List ℕ) → IsTrue (is_node n) → node_in (node_text n ++ rest) ≡ n
unfolding node_text
node_in-text n rest h =
    let outer = and_parts (is_in_grid n.ball.centre && leb n.ball.radius 4194304) (leb n.error 1048576) h in
    let inner = and_parts (is_in_grid n.ball.centre) (leb n.ball.radius 4194304) outer.0 in
    let centre = point_text n.ball.centre in
    let radius = number_text 4 n.ball.radius in
    let error = number_text 4 n.error in
    let whole : node_text n ++ rest ≡ centre ++ (radius ++ (error ++ rest)) = regroup_three centre radius error rest in
    let second : drop 12 (centre ++ (radius ++ (error ++ rest))) ≡ radius ++ (error ++ rest) = drop_at centre (radius ++ (error ++ rest)) 12 (length-point_text n.ball.centre) in
    let third : drop 16 (centre ++ (radius ++ (error ++ rest))) ≡ error ++ rest = drop_past centre (radius ++ (error ++ rest)) 12 4 (length-point_text n.ball.centre) ∙ drop_at radius (error ++ rest) 4 (length-number_text 4 n.ball.radius) in
    let radius_fits : n.ball.radius < 256 ^ 4 = omega (arith, leb-true n.ball.radius 4194304 inner.1) in
    let error_fits : n.error < 256 ^ 4 = omega (arith, leb-true n.error 1048576 outer.1) in
    ap node_in whole ∙ rw (second, third, point_in-text n.ball.centre (radius ++ (error ++ rest)) inner.0, number_in-text 4 n.ball.radius (error ++ rest) radius_fits, number_in-text 4 n.error rest error_fits) refl

pub node_text-in : (bytes : List ℕ) → IsBytes bytes → 20 ≤ length bytes → node_text (node_in bytes) ≡ take 20 bytes
unfolding node_text
node_text-in bytes fits long =
    let behind : List ℕ = drop 12 bytes in
    let last : number_text 4 (number_in 4 (drop 16 bytes)) ≡ take 4 (drop 4 behind) = number_text-in 4 (drop 16 bytes) (IsBytes-drop 16 bytes fits) (omega (arith, length-drop 16 bytes)) ∙ ap (take 4) (sym (drop-drop 4 12 bytes)) in
    take_both 12 8 bytes _ _ (point_text-in bytes fits (omega arith)) (take_both 4 4 behind _ _ (number_text-in 4 behind (IsBytes-drop 12 bytes fits) (omega (arith, length-drop 12 bytes))) last)

-- ---- patch fields

-- each number of the field fits its type, as in every field of the program
pub record FitsField (f : PatchField) : Type 0 where
  pub tail : f.tail < 2 ^ 32
  pub head : f.head < 2 ^ 32
  pub points : f.points < 65536
  pub triangles : f.triangles < 65536

pub length-field_text : (f : PatchField) → length (field_text f) ≡ 12
unfolding field_text
length-field_text f =
    length-append (number_text 4 f.tail) _ ∙ omega (arith, length-append (number_text 4 f.head) (number_text 2 f.points ++ number_text 2 f.triangles), length-append (number_text 2 f.points) (number_text 2 f.triangles), length-number_text 4 f.tail, length-number_text 4 f.head, length-number_text 2 f.points, length-number_text 2 f.triangles)

pub field_in-text : (f : PatchField) (rest : List ℕ) → FitsField f → field_in (field_text f ++ rest) ≡ f
unfolding field_text
field_in-text f rest h =
    let tail = number_text 4 f.tail in
    let head = number_text 4 f.head in
    let points = number_text 2 f.points in
    let triangles = number_text 2 f.triangles in
    let from_points : List ℕ = points ++ (triangles ++ rest) in
    let whole : field_text f ++ rest ≡ tail ++ (head ++ from_points) = regroup_three tail head (points ++ triangles) rest ∙ ap (λ (t : List ℕ). tail ++ (head ++ t)) (append_assoc points triangles rest) in
    let second : drop 4 (tail ++ (head ++ from_points)) ≡ head ++ from_points = drop_at tail (head ++ from_points) 4 (length-number_text 4 f.tail) in
    let third : drop 8 (tail ++ (head ++ from_points)) ≡ from_points = drop_past tail (head ++ from_points) 4 4 (length-number_text 4 f.tail) ∙ drop_at head from_points 4 (length-number_text 4 f.head) in
    let fourth : drop 10 (tail ++ (head ++ from_points)) ≡ triangles ++ rest = drop_past tail (head ++ from_points) 4 6 (length-number_text 4 f.tail) ∙ drop_past head from_points 4 2 (length-number_text 4 f.head) ∙ drop_at points (triangles ++ rest) 2 (length-number_text 2 f.points) in
    ap field_in whole ∙ rw (second, third, fourth, number_in-text 4 f.tail (head ++ from_points) h.tail, number_in-text 4 f.head from_points h.head, number_in-text 2 f.points (triangles ++ rest) h.points, number_in-text 2 f.triangles rest h.triangles) refl

pub field_text-in : (bytes : List ℕ) → IsBytes bytes → 12 ≤ length bytes → field_text (field_in bytes) ≡ take 12 bytes
unfolding field_text
field_text-in bytes fits long =
    let from_head : List ℕ = drop 4 bytes in
    let from_points : List ℕ = drop 4 from_head in
    let third_at : drop 8 bytes ≡ from_points = sym (drop-drop 4 4 bytes) in
    let fourth_at : drop 10 bytes ≡ drop 2 from_points = sym (ap (drop 2) (drop-drop 4 4 bytes) ∙ drop-drop 2 8 bytes) in
    let fourth : number_text 2 (number_in 2 (drop 10 bytes)) ≡ take 2 (drop 2 from_points) = number_text-in 2 (drop 10 bytes) (IsBytes-drop 10 bytes fits) (omega (arith, length-drop 10 bytes)) ∙ ap (take 2) fourth_at in
    let third : number_text 2 (number_in 2 (drop 8 bytes)) ≡ take 2 from_points = number_text-in 2 (drop 8 bytes) (IsBytes-drop 8 bytes fits) (omega (arith, length-drop 8 bytes)) ∙ ap (take 2) third_at in
    let second : number_text 4 (number_in 4 from_head) ≡ take 4 from_head = number_text-in 4 from_head (IsBytes-drop 4 bytes fits) (omega (arith, length-drop 4 bytes)) in
    take_both 4 8 bytes _ _ (number_text-in 4 bytes fits (omega arith)) (take_both 4 4 from_head _ _ second (take_both 2 2 from_points _ _ third fourth))

-- ---- corners

-- each place fits its type, as in every body of the program
pub record FitsCorners (t : Corners) : Type 0 where
  pub a : t.a < 65536
  pub b : t.b < 65536
  pub c : t.c < 65536

pub FitsCorners-below : (points : ℕ) (t : Corners) → points ≤ 65536 → IsTrue (are_corners points t) → FitsCorners t
FitsCorners-below points t few h =
    let outer = and_parts (ltb t.a points && ltb t.b points) (ltb t.c points) h in
    let inner = and_parts (ltb t.a points) (ltb t.b points) outer.0 in
    record {
      a = omega (arith, ltb-true t.a points inner.0);
      b = omega (arith, ltb-true t.b points inner.1);
      c = omega (arith, ltb-true t.c points outer.1);
    }

pub length-corners_text : (t : Corners) → length (corners_text t) ≡ 6
unfolding corners_text
length-corners_text t =
    length-append (number_text 2 t.a) _ ∙ omega (arith, length-append (number_text 2 t.b) (number_text 2 t.c), length-number_text 2 t.a, length-number_text 2 t.b, length-number_text 2 t.c)

-- three numbers of two bytes, one after the other: what stands at places 2 and 4
pub second_of_three : (a b c : ℕ) (rest : List ℕ) → drop 2 (number_text 2 a ++ (number_text 2 b ++ (number_text 2 c ++ rest))) ≡ number_text 2 b ++ (number_text 2 c ++ rest)
second_of_three a b c rest = drop_at (number_text 2 a) (number_text 2 b ++ (number_text 2 c ++ rest)) 2 (length-number_text 2 a)

pub third_of_three : (a b c : ℕ) (rest : List ℕ) → drop 4 (number_text 2 a ++ (number_text 2 b ++ (number_text 2 c ++ rest))) ≡ number_text 2 c ++ rest
third_of_three a b c rest =
    drop_past (number_text 2 a) (number_text 2 b ++ (number_text 2 c ++ rest)) 2 2 (length-number_text 2 a) ∙ drop_at (number_text 2 b) (number_text 2 c ++ rest) 2 (length-number_text 2 b)

pub three_numbers-in : (bytes : List ℕ) → IsBytes bytes → 6 ≤ length bytes → number_text 2 (number_in 2 bytes) ++ (number_text 2 (number_in 2 (drop 2 bytes)) ++ number_text 2 (number_in 2 (drop 4 bytes))) ≡ take 6 bytes
three_numbers-in bytes fits long =
    let behind : List ℕ = drop 2 bytes in
    let last : number_text 2 (number_in 2 (drop 4 bytes)) ≡ take 2 (drop 2 behind) = number_text-in 2 (drop 4 bytes) (IsBytes-drop 4 bytes fits) (omega (arith, length-drop 4 bytes)) ∙ ap (take 2) (sym (drop-drop 2 2 bytes)) in
    take_both 2 4 bytes _ _ (number_text-in 2 bytes fits (omega arith)) (take_both 2 2 behind _ _ (number_text-in 2 behind (IsBytes-drop 2 bytes fits) (omega (arith, length-drop 2 bytes))) last)

pub corners_in-text : (t : Corners) (rest : List ℕ) → FitsCorners t → corners_in (corners_text t ++ rest) ≡ t
unfolding corners_text
corners_in-text t rest h =
    ap corners_in (regroup_three (number_text 2 t.a) (number_text 2 t.b) (number_text 2 t.c) rest)
    ∙ rw (second_of_three t.a t.b t.c rest, third_of_three t.a t.b t.c rest, number_in-text 2 t.a (number_text 2 t.b ++ (number_text 2 t.c ++ rest)) h.a, number_in-text 2 t.b (number_text 2 t.c ++ rest) h.b, number_in-text 2 t.c rest h.c) refl

pub corners_text-in : (bytes : List ℕ) → IsBytes bytes → 6 ≤ length bytes → corners_text (corners_in bytes) ≡ take 6 bytes
unfolding corners_text
corners_text-in bytes fits long = three_numbers-in bytes fits long
