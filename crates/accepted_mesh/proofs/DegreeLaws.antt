-- The greatest degree of the nodes so far, and of one node more.
use Rattle.std.proofs.Common.{◌≡◌, ℕ, ◌+◌, ◌<◌, ◌≤◌, max, List, sym, subst, arith, inl, inr, below_more}
use Rattle.std.proofs.lemmas.Bool.{cases_lt}
use Rattle.file_model.specs.declared.fields.PatchField.{PatchField}
use Rattle.accepted_mesh.specs.MeshView.{degree}

-- one of so many nodes has the degree
abbrev pub HasDegree : List PatchField → ℕ → ℕ → Type 0
HasDegree fields nodes n = (v : ℕ) × (v < nodes) × (degree fields v ≡ n)

pub most_more : (fields : List PatchField) (node greatest now : ℕ) → ((v : ℕ) → v < node → degree fields v ≤ greatest) → now ≡ max (degree fields node) greatest → (v : ℕ) → v < node + 1 → degree fields v ≤ now
most_more fields node greatest now before is = below_more (λ v. degree fields v ≤ now) node (λ v less. omega (arith, before v less, is)) (omega (arith, is))

pub some_more : (fields : List PatchField) (nodes node greatest now : ℕ) → node < nodes → (0 < greatest → HasDegree fields nodes greatest) → now ≡ max (degree fields node) greatest → 0 < now → HasDegree fields nodes now
some_more fields nodes node greatest now within before is some =
    elim (cases_lt greatest (degree fields node)) [
      | inl less ↦ (node, within, omega (arith, is, less))
      | inr more ↦
          let same : now ≡ greatest = omega (arith, is, more) in
          subst (HasDegree fields nodes) (sym same) (before (omega (arith, same, some)))
    ]
