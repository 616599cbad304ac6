-- The base patches of a mesh are those that lead from its root.
use Rattle.std.proofs.Common.{◌≡◌, ℕ, zero, suc, ◌+◌, ◌<◌, Bool, true, false, ◌||◌, eqb, nat_eq, List, [], ◌∷◌, length, map, refl, sym, ap, ap₂, ◌∙◌, inl, inr, arith}
use Rattle.std.specs.Prelude.{if◌then◌else◌}
use Rattle.std.specs.List.{AllByRecursion, list_any}
use Rattle.std.proofs.lemmas.Bool.{cases_eq, eq-eqb, ne_eqb}
use Rattle.file_model.specs.declared.fields.PatchField.{PatchField}
use Rattle.file_model.specs.Lists.{IndexLists}
use Rattle.file_model.specs.Rules.{IsIndex}
use Rattle.mesh_model.specs.Graph.{is_root, leads_from, patches_from, outgoing}
use Rattle.mesh_model.specs.Accepted.{IsNestedGraph}
use Rattle.mesh_model.specs.Meshes.{MeshLists, IsMesh}
use Rattle.mesh_laws.specs.Ends.{HasEnds, each_has_ends}
use Rattle.mesh_laws.specs.Roots.{only_root_from_roots}
use Rattle.accepted_mesh.specs.MeshLaws.{root_is}
use Rattle.tier_model.specs.Places.{is_marked}
use Rattle.tier_model.specs.Tiers.{base_marks}

or_from_false : (a b : Bool) → a ≡ false → b ≡ false → (a || b) ≡ false
or_from_false a b first second = ap₂ (λ (x y : Bool). x || y) first second

root_or_not : (index : IndexLists) (root v : ℕ) → IsNestedGraph index root → v < length index.nodes → eqb v root ≡ is_root index.fields v
root_or_not index root v nested within =
    elim (cases_eq v root) [
      | inl same ↦ eq-eqb v root same ∙ sym (ap (is_root index.fields) same ∙ (root_is index root nested).passes)
      | inr differ ↦ ne_eqb v root differ ∙ sym ((only_root_from_roots (length index.nodes) index.fields root nested.one_root).others v within (λ same. differ (sym same)))
    ]

each_base : (index : IndexLists) (root : ℕ) (fields : List PatchField) → IsNestedGraph index root → AllByRecursion (HasEnds (length index.nodes)) fields → map (leads_from root) fields ≡ map (λ (f : PatchField). is_root index.fields f.tail) fields
each_base index root [] nested ends = refl
each_base index root (f ∷ fields) nested ends =
    ap₂ (λ (m : Bool) (ms : List Bool). m ∷ ms) (root_or_not index root f.tail nested ends.0.tail) (each_base index root fields nested ends.1)

pub base_leads_from_root : (index : IndexLists) (root : ℕ) → IsIndex index → IsNestedGraph index root → map (leads_from root) index.fields ≡ base_marks index.fields
base_leads_from_root index root rules nested = each_base index root index.fields nested (each_has_ends index rules)

-- ---- a patch is chosen exactly where its field passes

behind_others : (test : PatchField → Bool) (first p : ℕ) (fields : List PatchField) → p < first → list_any (nat_eq p) (patches_from first test fields) ≡ false
unfolding patches_from
behind_others test first p [] before = refl
behind_others test first p (f ∷ fields) before = by_mark (test f) (behind_others test (first + 1) p fields (omega arith))
  where
    by_mark : (passes : Bool) → list_any (nat_eq p) (patches_from (first + 1) test fields) ≡ false → list_any (nat_eq p) (if passes then first ∷ patches_from (first + 1) test fields else patches_from (first + 1) test fields) ≡ false
    by_mark true later = or_from_false (nat_eq p first) (list_any (nat_eq p) (patches_from (first + 1) test fields)) (ne_eqb p first (λ same. absurd (omega arith))) later
    by_mark false later = later

first_by : (passes : Bool) (first : ℕ) (later : List ℕ) → list_any (nat_eq first) later ≡ false → list_any (nat_eq first) (if passes then first ∷ later else later) ≡ passes
first_by true first later none = ap (λ (b : Bool). b || list_any (nat_eq first) later) (eq-eqb first first refl)
first_by false first later none = none

later_by : (passes : Bool) (first p : ℕ) (later : List ℕ) → first < p → list_any (nat_eq p) (if passes then first ∷ later else later) ≡ list_any (nat_eq p) later
later_by true first p later behind = ap (λ (b : Bool). b || list_any (nat_eq p) later) (ne_eqb p first (λ same. absurd (omega arith)))
later_by false first p later behind = refl

chosen_from : (test : PatchField → Bool) (first : ℕ) (fields : List PatchField) (p : ℕ) → list_any (nat_eq (first + p)) (patches_from first test fields) ≡ is_marked (map test fields) p
unfolding patches_from
chosen_from test first [] p = refl
chosen_from test first (f ∷ fields) zero =
    ap (λ (q : ℕ). list_any (nat_eq q) (patches_from first test (f ∷ fields))) (omega arith)
    ∙ first_by (test f) first (patches_from (first + 1) test fields) (behind_others test (first + 1) first fields (omega arith))
chosen_from test first (f ∷ fields) (suc p) =
    later_by (test f) first (first + suc p) (patches_from (first + 1) test fields) (omega arith)
    ∙ ap (λ (q : ℕ). list_any (nat_eq q) (patches_from (first + 1) test fields)) (omega arith)
    ∙ chosen_from test (first + 1) fields p

-- the base patches as a list and as marks
pub base_listed : (mesh : MeshLists) → IsMesh mesh → (p : ℕ) → list_any (nat_eq p) (outgoing mesh.index.fields mesh.root) ≡ is_marked (base_marks mesh.index.fields) p
base_listed mesh facts p =
    ap (λ (q : ℕ). list_any (nat_eq q) (outgoing mesh.index.fields mesh.root)) (omega arith)
    ∙ chosen_from (leads_from mesh.root) 0 mesh.index.fields p
    ∙ ap (λ (marks : List Bool). is_marked marks p) (base_leads_from_root mesh.index mesh.root facts.rules facts.graph)
