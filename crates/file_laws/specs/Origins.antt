-- The least coordinates of a list of points, and offsets from them.
use Rattle.std.proofs.Common.{◌≡◌, ℕ, ◌≤◌, Bool, true, false, cond, ◌&&◌, List, [], ◌∷◌, length, refl, sym, subst, ◌∙◌, arith, inl, inr}
use Rattle.std.specs.Prelude.{ℤ, pos, ◌+ℤ◌, ◌-ℤ◌, ◌≤ℤ◌, ◌⊎◌, int_le, int_lt, unsigned_abs, map, IsTrue}
use Rattle.std.specs.List.{fold, list_all, list_any}
use Rattle.std.specs.Int.{int_min}
use Rattle.std.specs.Ordering.{int_eq}
use Rattle.std.proofs.lemmas.Bool.{and_parts, and_from, or_cases, le-leb, or_left, or_right, false≢true}
use Rattle.std.proofs.lemmas.Bool.Decides.{Decides-int_eq}
use Rattle.std.proofs.lemmas.Int.{ints}
use Rattle.grid_vertex.specs.declared.points.Point.{Point}
use Rattle.grid_vertex.specs.Points.{is_within, is_in_grid}
use Rattle.file_model.specs.Spelling.{least, origin_of}
use Rattle.file_laws.specs.Steps.{all_both, all_left, all_right}

-- ---- integers

le_from : (a b : ℤ) → IsTrue (int_le a b) → a ≤ℤ b
le_from a b h = record { le = search h }

pub past_back : (o z : ℤ) → IsTrue (int_le o z) → o +ℤ pos (unsigned_abs (z -ℤ o)) ≡ z
past_back o z h = let le = le_from o z h in omega (arith, ints)

pub past_gap : (o : ℤ) (n : ℕ) → unsigned_abs ((o +ℤ pos n) -ℤ o) ≡ n
past_gap o n = omega (arith, ints)

pub past_le : (o : ℤ) (n : ℕ) → IsTrue (int_le o (o +ℤ pos n))
past_le o n = grind (arith, ints)

same_from_le : (a b : ℤ) → IsTrue (int_le a b) → IsTrue (int_le b a) → a ≡ b
same_from_le a b h k = let le = le_from a b h in let ge = le_from b a k in omega (arith, ints)

le_through : (a b c : ℤ) → IsTrue (int_le a b) → IsTrue (int_le b c) → IsTrue (int_le a c)
le_through a b c h k = grind (arith, ints)

min_left : (a b : ℤ) → IsTrue (int_le (int_min a b) a)
min_left a b = grind (arith, ints)

min_right : (a b : ℤ) → IsTrue (int_le (int_min a b) b)
min_right a b = grind (arith, ints)

min_either : (a b : ℤ) → (int_min a b ≡ a) ⊎ (int_min a b ≡ b)
min_either a b = elim (int_lt b a) as (λ t. (cond t b a ≡ a) ⊎ (cond t b a ≡ b)) [ true ↦ inr refl | false ↦ inl refl ]

le_same : (a : ℤ) → IsTrue (int_le a a)
le_same a = grind (arith, ints)

-- ---- the least of some numbers

fold_below : (get : Point → ℤ) (a : ℤ) (ps : List Point) → IsTrue (int_le (fold int_min a (map get ps)) a) × IsTrue (list_all (λ (p : Point). int_le (fold int_min a (map get ps)) (get p)) ps)
fold_below get a [] = (le_same a, refl)
fold_below get a (p ∷ ps) =
    let m = int_min a (get p) in
    let r = fold int_min m (map get ps) in
    let below = fold_below get m ps in
    (le_through r m a below.0 (min_left a (get p)), and_from (int_le r (get p)) _ (le_through r m (get p) below.0 (min_right a (get p))) below.1)

-- the least is the first number or one of the others
fold_reached : (get : Point → ℤ) (a : ℤ) (ps : List Point) → (fold int_min a (map get ps) ≡ a) ⊎ IsTrue (list_any (λ (p : Point). int_eq (get p) (fold int_min a (map get ps))) ps)
fold_reached get a [] = inl refl
fold_reached get a (p ∷ ps) =
    let m = int_min a (get p) in
    let r = fold int_min m (map get ps) in
    elim (fold_reached get m ps) [
      | inl is_m ↦ elim (min_either a (get p)) [
        | inl is_a ↦ inl (is_m ∙ is_a)
        | inr is_p ↦ inr (or_left (int_eq (get p) r) _ ((Decides-int_eq (get p) r).1 (sym (is_m ∙ is_p))))
      ]
      | inr among ↦ inr (or_right (int_eq (get p) r) _ among)
    ]

-- no number is below the least
pub least_below : (get : Point → ℤ) (ps : List Point) → IsTrue (list_all (λ (p : Point). int_le (least (map get ps)) (get p)) ps)
least_below get [] = refl
least_below get (p ∷ ps) =
    let below = fold_below get (get p) ps in
    and_from (int_le (fold int_min (get p) (map get ps)) (get p)) _ below.0 below.1

-- a point has the least number
pub least_reached : (get : Point → ℤ) (ps : List Point) → 1 ≤ length ps → IsTrue (list_any (λ (p : Point). int_eq (get p) (least (map get ps))) ps)
least_reached get [] h = absurd (omega arith)
least_reached get (p ∷ ps) h =
    let r = fold int_min (get p) (map get ps) in
    elim (fold_reached get (get p) ps) [
      | inl is_first ↦ or_left (int_eq (get p) r) _ ((Decides-int_eq (get p) r).1 (sym is_first))
      | inr among ↦ or_right (int_eq (get p) r) _ among
    ]

-- where all items pass one test and some item another, some item passes both
pub any_with_all : {X : Type 0} {P : Type 0} (p q : X → Bool) (xs : List X) → IsTrue (list_any p xs) → IsTrue (list_all q xs) → ((x : X) → IsTrue (p x) → IsTrue (q x) → P) → P
any_with_all p q [] h k step = absurd (false≢true h)
any_with_all {P = P} p q (x ∷ xs) h k step =
    let all = and_parts (q x) (list_all q xs) k in
    elim (or_cases (p x) (list_any p xs) h) [
      | inl here ↦ step x here all.0
      | inr later ↦ any_with_all {P = P} p q xs later all.1 step
    ]

-- a number that is reached, with none below it, is the least
pub least_is : (get : Point → ℤ) (z : ℤ) (ps : List Point) → IsTrue (list_all (λ (p : Point). int_le z (get p)) ps) → IsTrue (list_any (λ (p : Point). int_eq (get p) z) ps) → least (map get ps) ≡ z
least_is get z [] below reached = absurd (false≢true reached)
least_is get z (p ∷ ps) below reached =
    let r = least (map get (p ∷ ps)) in
    let not_above : IsTrue (int_le r z) = any_with_all (λ (q : Point). int_eq (get q) z) (λ (q : Point). int_le r (get q)) (p ∷ ps) reached (least_below get (p ∷ ps)) (λ q here low. subst (λ (y : ℤ). IsTrue (int_le r y)) ((Decides-int_eq (get q) z).0 here) low) in
    let not_below : IsTrue (int_le z r) = any_with_all (λ (q : Point). int_eq (get q) r) (λ (q : Point). int_le z (get q)) (p ∷ ps) (least_reached get (p ∷ ps) (omega arith)) below (λ q here low. subst (λ (y : ℤ). IsTrue (int_le z y)) ((Decides-int_eq (get q) r).0 here) low) in
    same_from_le r z not_above not_below

-- the least is within a limit that all are within
least_within : (limit : ℕ) (get : Point → ℤ) (ps : List Point) → IsTrue (list_all (λ (p : Point). is_within limit (get p)) ps) → IsTrue (is_within limit (least (map get ps)))
least_within limit get [] h = le-leb 0 limit (omega arith)
least_within limit get (p ∷ ps) h =
    let r = least (map get (p ∷ ps)) in
    any_with_all (λ (q : Point). int_eq (get q) r) (λ (q : Point). is_within limit (get q)) (p ∷ ps) (least_reached get (p ∷ ps) (omega arith)) h (λ q here near. subst (λ (y : ℤ). IsTrue (is_within limit y)) ((Decides-int_eq (get q) r).0 here) near)

-- ---- the least coordinates

-- no coordinate is below the origin's
abbrev pub is_past : Point → Point → Bool
is_past origin p = int_le origin.x p.x && int_le origin.y p.y && int_le origin.z p.z

pub origin_below : (ps : List Point) → IsTrue (list_all (is_past (origin_of ps)) ps)
unfolding origin_of
origin_below ps =
    let origin = origin_of ps in
    all_both (λ (p : Point). int_le origin.x p.x && int_le origin.y p.y) (λ (p : Point). int_le origin.z p.z) ps
    (all_both (λ (p : Point). int_le origin.x p.x) (λ (p : Point). int_le origin.y p.y) ps (least_below (λ (p : Point). p.x) ps) (least_below (λ (p : Point). p.y) ps))
    (least_below (λ (p : Point). p.z) ps)

pub origin_in_grid : (ps : List Point) → IsTrue (list_all is_in_grid ps) → IsTrue (is_in_grid (origin_of ps))
unfolding origin_of
origin_in_grid ps h =
    let xy = all_left (λ (p : Point). is_within 1048576 p.x && is_within 1048576 p.y) (λ (p : Point). is_within 1048576 p.z) ps h in
    let x = all_left (λ (p : Point). is_within 1048576 p.x) (λ (p : Point). is_within 1048576 p.y) ps xy in
    let y = all_right (λ (p : Point). is_within 1048576 p.x) (λ (p : Point). is_within 1048576 p.y) ps xy in
    let z = all_right (λ (p : Point). is_within 1048576 p.x && is_within 1048576 p.y) (λ (p : Point). is_within 1048576 p.z) ps h in
    let origin = origin_of ps in
    and_from (is_within 1048576 origin.x && is_within 1048576 origin.y) (is_within 1048576 origin.z)
    (and_from (is_within 1048576 origin.x) (is_within 1048576 origin.y) (least_within 1048576 (λ (p : Point). p.x) ps x) (least_within 1048576 (λ (p : Point). p.y) ps y))
    (least_within 1048576 (λ (p : Point). p.z) ps z)

-- on each axis a point has the origin's coordinate
pub record IsReached (origin : Point) (ps : List Point) : Type 0 where
  pub x : IsTrue (list_any (λ (p : Point). int_eq p.x origin.x) ps)
  pub y : IsTrue (list_any (λ (p : Point). int_eq p.y origin.y) ps)
  pub z : IsTrue (list_any (λ (p : Point). int_eq p.z origin.z) ps)

pub origin_reached : (ps : List Point) → 1 ≤ length ps → IsReached (origin_of ps) ps
unfolding origin_of
origin_reached ps h = record { x = least_reached (λ (p : Point). p.x) ps h; y = least_reached (λ (p : Point). p.y) ps h; z = least_reached (λ (p : Point). p.z) ps h }

-- what is reached on each axis, with no coordinate below it, are the least coordinates
pub origin_is : (origin : Point) (ps : List Point) → IsTrue (list_all (is_past origin) ps) → IsReached origin ps → origin_of ps ≡ origin
unfolding origin_of
origin_is origin ps below reached =
    let xy = all_left (λ (p : Point). int_le origin.x p.x && int_le origin.y p.y) (λ (p : Point). int_le origin.z p.z) ps below in
    let x = least_is (λ (p : Point). p.x) origin.x ps (all_left (λ (p : Point). int_le origin.x p.x) (λ (p : Point). int_le origin.y p.y) ps xy) reached.x in
    let y = least_is (λ (p : Point). p.y) origin.y ps (all_right (λ (p : Point). int_le origin.x p.x) (λ (p : Point). int_le origin.y p.y) ps xy) reached.y in
    let z = least_is (λ (p : Point). p.z) origin.z ps (all_right (λ (p : Point). int_le origin.x p.x && int_le origin.y p.y) (λ (p : Point). int_le origin.z p.z) ps below) reached.z in
    rw (x, y, z) refl
