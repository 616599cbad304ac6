-- When a coordinate is the origin's, and the axes on which some point has it.
use Rattle.std.proofs.Common.{◌≡◌, ℕ, Bool, true, false, eqb, ◌||◌, not, cond, List, [], ◌∷◌, Result, Ok, Err, inl, inr, refl, sym, ap, ◌∙◌, arith}
use Rattle.std.specs.Prelude.{ℤ, pos, ◌+ℤ◌}
use Rattle.std.specs.List.{list_any}
use Rattle.std.specs.Ordering.{int_eq}
use Rattle.std.specs.Cmp.{signed_Decides}
use Rattle.std.proofs.lemmas.Bool.{cases_eq, eq-eqb, ne_eqb, false_from_ne_true}
use Rattle.std.proofs.lemmas.Int.{ints}
use Rattle.grid_vertex.specs.declared.points.Point.{Point}
use Rattle.file_model.specs.declared.faults.FileFault.{FileFault}
use Rattle.file_model.specs.declared.faults.FileFault.TheVariants.{Loose}
use Rattle.file_model.specs.Reading.{◌>>=◌, tight}
use Rattle.patch_body.specs.declared.zeros.Zeros.{Zeros}
use Rattle.patch_body.specs.Faults.{fault_of}
use Rattle.patch_body.specs.Zeros.{zeros_at, either, zeros_with, no_axis, loose_fault, fault_with}

-- a coordinate is the origin's where its offset is 0
pub int_eq-shift : (z : ℤ) (n : ℕ) → int_eq (z +ℤ pos n) z ≡ eqb n 0
int_eq-shift z n =
    let d = signed_Decides (z +ℤ pos n) z in
    elim (cases_eq n 0) [
      | inl e ↦ d.1 (omega (arith, ints)) ∙ sym (eq-eqb n 0 e)
      | inr ne ↦ false_from_ne_true _ (λ t. let same : z +ℤ pos n ≡ z = d.0 t in ne (omega (arith, ints))) ∙ sym (ne_eqb n 0 ne)
    ]

or-assoc : (a b c : Bool) → ((a || b) || c) ≡ (a || (b || c))
or-assoc true b c = refl
or-assoc false b c = refl

or-false : (a : Bool) → (a || false) ≡ a
or-false true = refl
or-false false = refl

-- those seen before, and each axis on which some point of the list has the origin's coordinate
abbrev axes_of : Zeros → Point → List Point → Zeros
axes_of seen origin points = record {
  x = seen.x || list_any (λ (p : Point). int_eq p.x origin.x) points;
  y = seen.y || list_any (λ (p : Point). int_eq p.y origin.y) points;
  z = seen.z || list_any (λ (p : Point). int_eq p.z origin.z) points;
}

zeros_with-is : (seen : Zeros) (origin : Point) (points : List Point) → zeros_with seen origin points ≡ axes_of seen origin points
unfolding zeros_with
zeros_with-is seen origin [] = rw (or-false seen.x, or-false seen.y, or-false seen.z) refl
zeros_with-is seen origin (p ∷ ps) =
    zeros_with-is (either seen (zeros_at origin p)) origin ps
    ∙ rw (or-assoc seen.x (int_eq p.x origin.x), or-assoc seen.y (int_eq p.y origin.y), or-assoc seen.z (int_eq p.z origin.z)) refl

-- the fault of points that must be tight is that of their axes
tight_fault : (origin : Point) (patch : ℕ) (points : List Point × List ℕ) (a b c : Bool)
    → (rest : Result (List Point × List ℕ) FileFault) → rest ≡ Ok points
    → fault_of (cond (not a) (Err (Loose patch 0)) (cond (not b) (Err (Loose patch 1)) (cond (not c) (Err (Loose patch 2)) rest))) ≡ loose_fault patch (record { x = a; y = b; z = c })
tight_fault origin patch points false b c rest e = refl
tight_fault origin patch points true false c rest e = refl
tight_fault origin patch points true true false rest e = refl
tight_fault origin patch points true true true rest e = ap fault_of e

pub fault-tight : (origin : Point) (patch : ℕ) (read : Result (List Point × List ℕ) FileFault) → fault_of (read >>= tight origin patch) ≡ fault_with no_axis origin patch read
unfolding tight
fault-tight origin patch (Ok points) =
    tight_fault origin patch points (list_any (λ (p : Point). int_eq p.x origin.x) points.0) (list_any (λ (p : Point). int_eq p.y origin.y) points.0) (list_any (λ (p : Point). int_eq p.z origin.z) points.0) (Ok points) refl
    ∙ ap (loose_fault patch) (sym (zeros_with-is no_axis origin points.0))
fault-tight origin patch (Err fault) = refl
