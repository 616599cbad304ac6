-- The open edges of triangles are one list, and triangles of one net have the same.
use Rattle.std.proofs.Common.{◌≡◌, zero, suc, true, List, [], ◌∷◌, refl, sym, subst, ◌∙◌, arith, inl, inr}
use Rattle.std.specs.Prelude.{◌⊎◌}
use Rattle.std.specs.List.{Contains}
use Rattle.grid_vertex.specs.declared.triangles.Triangle.{Triangle}
use Rattle.mesh_model.specs.Nets.{Pair, is_pair_before, Ascend, AreOpen, HaveOneNet}
use Rattle.mesh_model.specs.Orders.{pair_one_way}

-- ---- ascending lists of the same pairs

here : (p : Pair) (ps : List Pair) → Contains (p ∷ ps) p
here p ps = (0, omega arith, refl)

there : (p q : Pair) (ps : List Pair) → Contains ps q → Contains (p ∷ ps) q
there p q ps h = (suc h.0, omega (arith, h.1), h.2)

split_at_head : (p q : Pair) (ps : List Pair) → Contains (p ∷ ps) q → (p ≡ q) ⊎ Contains ps q
split_at_head p q ps (zero, within, is) = inl is
split_at_head p q ps (suc k, within, is) = inr (k, omega (arith, within), is)

-- what one list has the other has too
abbrev Within : List Pair → List Pair → Type 0
Within ps qs = (r : Pair) → Contains ps r → Contains qs r

not_past_end : (r : Pair) → Contains [] r → ⊥
not_past_end r h = omega (arith, h.1)

heads_are_one : (p q : Pair) (ps qs : List Pair) → Ascend (p ∷ ps) → Ascend (q ∷ qs) → Within (p ∷ ps) (q ∷ qs) → Within (q ∷ qs) (p ∷ ps) → p ≡ q
heads_are_one p q ps qs up up' h k =
    elim (split_at_head q p qs (h p (here p ps))) [
      | inl same ↦ sym same
      | inr later ↦ elim (split_at_head p q ps (k q (here q qs))) [
        | inl same ↦ same
        | inr later' ↦ absurd (pair_one_way p q (up.0 q later') (up'.0 p later))
      ]
    ]

tails_within : (p q : Pair) (ps qs : List Pair) → Ascend (p ∷ ps) → p ≡ q → Within (p ∷ ps) (q ∷ qs) → Within ps qs
tails_within p q ps qs up same h r at =
    elim (split_at_head q r qs (h r (there p r ps at))) [
      | inl again ↦
          let itself = subst (λ (s : Pair). is_pair_before p s ≡ true) (sym (same ∙ again)) (up.0 r at) in
          absurd (pair_one_way p p itself itself)
      | inr later ↦ later
    ]

ascending_is_one : (ps qs : List Pair) → Ascend ps → Ascend qs → Within ps qs → Within qs ps → ps ≡ qs
ascending_is_one [] [] up up' h k = refl
ascending_is_one [] (q ∷ qs) up up' h k = absurd (not_past_end q (k q (here q qs)))
ascending_is_one (p ∷ ps) [] up up' h k = absurd (not_past_end p (h p (here p ps)))
ascending_is_one (p ∷ ps) (q ∷ qs) up up' h k =
    let same = heads_are_one p q ps qs up up' h k in
    let rest = ascending_is_one ps qs up.1 up'.1 (tails_within p q ps qs up same h) (tails_within q p qs ps up' (sym same) k) in
    λ i. same i ∷ rest i

-- ---- open edges

-- the open edges of triangles are those of all triangles that have their net
pub open_of_one_net : (first second : List Triangle) (pairs : List Pair) → HaveOneNet first second → AreOpen first pairs → AreOpen second pairs
open_of_one_net first second pairs one open' = record {
  ascending = open'.ascending;
  forward = open'.forward;
  open_edges = λ p forward. (
    λ at zero'. (open'.open_edges p forward).0 at (one p.a p.b ∙ zero'),
    λ apart. (open'.open_edges p forward).1 (λ zero'. apart (sym (one p.a p.b) ∙ zero')),
  );
}

open_within : (triangles : List Triangle) (ps qs : List Pair) → AreOpen triangles ps → AreOpen triangles qs → Within ps qs
open_within triangles ps qs h k r at =
    let forward = h.forward r at in
    (k.open_edges r forward).1 ((h.open_edges r forward).0 at)

-- they are one list
pub open_is_one : (triangles : List Triangle) (ps qs : List Pair) → AreOpen triangles ps → AreOpen triangles qs → ps ≡ qs
open_is_one triangles ps qs h k = ascending_is_one ps qs h.ascending k.ascending (open_within triangles ps qs h k) (open_within triangles qs ps k h)
