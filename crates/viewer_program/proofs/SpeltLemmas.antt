-- Half-spaces four words at a time.
use Rattle.std.proofs.Common.{◌≡◌, ℕ, ◌-◌, ◌<◌, ◌≤◌, Bool, true, false, List, [], ◌∷◌, length, map, take, drop, Option, Some, None, refl, ap, sym, ◌∙◌, arith}
use Rattle.std.specs.Prelude.{slice_index_or, ◌==◌, if◌then◌else◌}
use Rattle.std.specs.Bool.{then_some}
use Rattle.std.proofs.Math.Seq.{take-length}
use Rattle.view_planes.specs.HalfSpaces.{HalfSpaceSeen}
use Rattle.view_planes.specs.Planes.{PlanesSeen, has_room, with_plane}
use Rattle.viewer_program.specs.Spelt.{half_space_in, with_half_space, with_half_spaces}
use Rattle.viewer_program.specs.Commands.{pick_in}

abbrev no_planes : Option PlanesSeen
no_planes = None

module _ {X : Type 0} (f : X → List ℕ) (seen : PlanesSeen) where
  abbrev left : List X → List (List ℕ)
  left xs = map f (take (length xs - 4) (drop 4 xs))

  -- the first four words spell the next half-space
  next : (xs : List X) (a b c d : X) → 4 ≤ length xs → a ≡ slice_index_or xs 0 a → b ≡ slice_index_or xs 1 b → c ≡ slice_index_or xs 2 c → d ≡ slice_index_or xs 3 d
      → with_half_spaces (Some seen) (map f xs) ≡ with_half_spaces (with_half_space seen (half_space_in (f a) (f b) (f c) (f d))) (left xs)
  unfolding with_half_spaces
  next [] a b c d many is_a is_b is_c is_d = absurd (omega (arith, many))
  next (x1 ∷ []) a b c d many is_a is_b is_c is_d = absurd (omega (arith, many))
  next (x1 ∷ x2 ∷ []) a b c d many is_a is_b is_c is_d = absurd (omega (arith, many))
  next (x1 ∷ x2 ∷ x3 ∷ []) a b c d many is_a is_b is_c is_d = absurd (omega (arith, many))
  next (x1 ∷ x2 ∷ x3 ∷ x4 ∷ xs) a b c d many is_a is_b is_c is_d =
      let same_a : a ≡ x1 = is_a in
      let same_b : b ≡ x2 = is_b in
      let same_c : c ≡ x3 = is_c in
      let same_d : d ≡ x4 = is_d in
      let fewer : length (x1 ∷ x2 ∷ x3 ∷ x4 ∷ xs) - 4 ≡ length xs = omega arith in
      rw (same_a, same_b, same_c, same_d) (ap (λ (ws : List X). with_half_spaces (with_half_space seen (half_space_in (f x1) (f x2) (f x3) (f x4))) (map f ws)) (sym (ap (λ (n : ℕ). take n xs) fewer ∙ take-length xs)))

  -- where fewer than four are left, none may be
  pub no_next : (xs : List X) (is_empty : Bool) → length xs < 4 → is_empty ≡ (length xs == 0) → then_some is_empty seen ≡ with_half_spaces (Some seen) (map f xs)
  unfolding with_half_spaces
  no_next [] is_empty few is = rw is refl
  no_next (x1 ∷ []) is_empty few is = rw is refl
  no_next (x1 ∷ x2 ∷ []) is_empty few is = rw is refl
  no_next (x1 ∷ x2 ∷ x3 ∷ []) is_empty few is = rw is refl
  no_next (x1 ∷ x2 ∷ x3 ∷ x4 ∷ xs) is_empty few is = absurd (omega (arith, few))

  module _ (xs : List X) (a b c d : X) (many : 4 ≤ length xs) (is_a : a ≡ slice_index_or xs 0 a) (is_b : b ≡ slice_index_or xs 1 b) (is_c : c ≡ slice_index_or xs 2 c) (is_d : d ≡ slice_index_or xs 3 d) where
    abbrev spelt : Option HalfSpaceSeen
    spelt = half_space_in (f a) (f b) (f c) (f d)

    pub next_none : spelt ≡ None → with_half_spaces (Some seen) (map f xs) ≡ None
    unfolding with_half_spaces
    next_none none = next xs a b c d many is_a is_b is_c is_d ∙ ap (λ (o : Option HalfSpaceSeen). with_half_spaces (with_half_space seen o) (left xs)) none

    pub next_over : (plane : HalfSpaceSeen) → spelt ≡ Some plane → has_room seen.planes ≡ false → with_half_spaces (Some seen) (map f xs) ≡ None
    unfolding with_half_spaces
    next_over plane some full =
        next xs a b c d many is_a is_b is_c is_d ∙ ap (λ (o : Option HalfSpaceSeen). with_half_spaces (with_half_space seen o) (left xs)) some
        ∙ ap (λ (room : Bool). with_half_spaces (if room then Some (with_plane seen plane) else no_planes) (left xs)) full

    pub next_some : (plane : HalfSpaceSeen) → spelt ≡ Some plane → has_room seen.planes ≡ true → with_half_spaces (Some seen) (map f xs) ≡ with_half_spaces (Some (with_plane seen plane)) (left xs)
    next_some plane some room =
        next xs a b c d many is_a is_b is_c is_d ∙ ap (λ (o : Option HalfSpaceSeen). with_half_spaces (with_half_space seen o) (left xs)) some
        ∙ ap (λ (free : Bool). with_half_spaces (if free then Some (with_plane seen plane) else no_planes) (left xs)) room

-- five words or fewer spell no view
pub too_few_for_pick : {X : Type 0} (f : X → List ℕ) (xs : List X) → length xs < 6 → None ≡ pick_in (map f xs)
too_few_for_pick f [] few = refl
too_few_for_pick f (x1 ∷ []) few = refl
too_few_for_pick f (x1 ∷ x2 ∷ []) few = refl
too_few_for_pick f (x1 ∷ x2 ∷ x3 ∷ []) few = refl
too_few_for_pick f (x1 ∷ x2 ∷ x3 ∷ x4 ∷ []) few = refl
too_few_for_pick f (x1 ∷ x2 ∷ x3 ∷ x4 ∷ x5 ∷ []) few = refl
too_few_for_pick f (x1 ∷ x2 ∷ x3 ∷ x4 ∷ x5 ∷ x6 ∷ xs) few = absurd (omega (arith, few))
