-- The set of a round is a cut, whatever was answered.
use Rattle.std.proofs.Common.{◌≡◌, ℕ, ◌<◌, ◌≤◌, ◌⊎◌, Bool, true, false, not, ◌&&◌, ◌||◌, eqb, List, [], ◌∷◌, ◌++◌, length, replicate, Some, refl, sym, subst, ◌∙◌, inl, inr}
use Rattle.std.specs.Prelude.{slice_get}
use Rattle.std.specs.List.{AllByRecursion}
use Rattle.std.proofs.lemmas.Bool.{cond_both, and_parts, or_cases, or_parts, not-true, leb-true, eq-eqb, cases_eq, ne_eqb, false_from_ne_true}
use Rattle.std.proofs.lemmas.List.{length-replicate}
use Rattle.file_model.specs.declared.fields.PatchField.{PatchField}
use Rattle.file_model.specs.declared.fields.Try.{Try}
use Rattle.file_model.specs.Lists.{IndexLists, FileLists}
use Rattle.file_model.specs.Rules.{IsIndex}
use Rattle.mesh_model.specs.Graph.{leads_to, is_root, is_sink, outgoing}
use Rattle.mesh_model.specs.Nets.{HaveOneNet}
use Rattle.mesh_model.specs.Frames.{root_alone, IsCut}
use Rattle.mesh_model.specs.Accepted.{is_inner, IsAccepted, triangles_out_of}
use Rattle.mesh_model.specs.Meshes.{IsMesh}
use Rattle.round_model.specs.Order.{Rules, node_order}
use Rattle.round_model.specs.Tries.{Tried, Verdict, Granted, Refused, OpenAt, tried_patches}
use Rattle.round_model.specs.Rounds.{RoundState, has, with_member, frame_size, is_wanted, has_parents, is_within_limit, is_tried, after_verdict, after_tries, round_from, root_set, round_of}
use Rattle.mesh_laws.specs.Each.{each_passes, each_at}
use Rattle.mesh_laws.specs.Roots.{only_root_from_roots}
use Rattle.mesh_laws.specs.Bases.{base_is_cut}
use Rattle.mesh_laws.specs.Boundary.{boundary}
use Rattle.mesh_laws.specs.Frames.{frame_of_set}
use Rattle.round_laws.specs.Ascending.{IsInnerNode, order_is_inner}
use Rattle.round_laws.specs.Members.{still_has, had_or_is, has_member, empty_has_none, as_many_members}

-- ---- what each join keeps, a round keeps

set_after : (P : List Bool → Type 0) (set : List Bool) (tries : List Try) (v : ℕ) (tried : Tried) (rest : List Bool → List Try → List ℕ → RoundState) (verdict : Verdict) → P set → P (with_member set v) → ((s : List Bool) (t : List Try) (e : List ℕ) → P s → P (rest s t e).set) → P (after_verdict set tries v tried rest verdict).set
set_after P set tries v tried rest Granted here joined go = go (with_member set v) (tries ++ tried.tries) tried.unused joined
set_after P set tries v tried rest Refused here joined go = go set (tries ++ tried.tries) tried.unused here
set_after P set tries v tried rest (OpenAt p) here joined go = here

from_keeps : (rules : Rules) (P : List Bool → Type 0) → ((set : List Bool) (v : ℕ) → IsInnerNode rules v → is_tried rules set v ≡ true → P set → P (with_member set v)) → (vs : List ℕ) (set : List Bool) (tries : List Try) (epochs : List ℕ) → AllByRecursion (IsInnerNode rules) vs → P set → P (round_from rules vs set tries epochs).set
unfolding round_from
from_keeps rules P step [] set tries epochs inner h = h
from_keeps rules P step (v ∷ vs) set tries epochs inner h =
    let tried = tried_patches (outgoing rules.mesh.index.fields v) epochs in
    cond_both (is_tried rules set v) (after_tries set tries v tried (λ s t e. round_from rules vs s t e)) (round_from rules vs set tries epochs) (λ (stand : RoundState). P stand.set)
    (λ is. set_after P set tries v tried (λ s t e. round_from rules vs s t e) tried.verdict h (step set v inner.0 is h) (λ s t e kept. from_keeps rules P step vs s t e inner.1 kept))
    (λ passed. from_keeps rules P step vs set tries epochs inner.1 h)

pub round_keeps : (rules : Rules) (P : List Bool → Type 0) → ((set : List Bool) (v : ℕ) → IsInnerNode rules v → is_tried rules set v ≡ true → P set → P (with_member set v)) → P (root_set rules) → (epochs : List ℕ) → P (round_of rules epochs).set
unfolding round_of
round_keeps rules P step h epochs = from_keeps rules P step (node_order rules) (root_set rules) [] epochs (order_is_inner rules) h

-- ---- what the test of a node tells

-- the node joins where its patches are granted
pub record IsJoining (rules : Rules) (set : List Bool) (v : ℕ) : Type 0 where
  pub wanted : is_wanted rules v ≡ true
  pub parents : has_parents rules.mesh.index.fields set v ≡ true
  pub within : is_within_limit rules set v ≡ true

pub joining_from_test : (rules : Rules) (set : List Bool) (v : ℕ) → is_tried rules set v ≡ true → IsJoining rules set v
joining_from_test rules set v h =
    let all = and_parts (is_wanted rules v && has_parents rules.mesh.index.fields set v) (is_within_limit rules set v) h in
    let first = and_parts (is_wanted rules v) (has_parents rules.mesh.index.fields set v) all.0 in
    record { wanted = first.0; parents = first.1; within = all.1 }

parent_in_set : (fields : List PatchField) (set : List Bool) (v p : ℕ) (f : PatchField) → has_parents fields set v ≡ true → slice_get fields p ≡ Some f → v ≡ f.head → has set f.tail ≡ true
parent_in_set fields set v p f parents here leads =
    elim (or_cases (not (leads_to v f)) (has set f.tail) (each_at (λ g. (not (leads_to v g) || has set g.tail) ≡ true) fields p f here (each_passes (λ g. not (leads_to v g) || has set g.tail) fields parents))) [
      | inl apart ↦ absurd (let never = not-true (leads_to v f) apart in let is = eq-eqb f.head v (sym leads) in cc)
      | inr is ↦ is
    ]

-- ---- the cut

pub inner_no_sink : (fields : List PatchField) (v : ℕ) → is_inner fields v ≡ true → is_sink fields v ≡ false
inner_no_sink fields v h = (or_parts (is_root fields v) (is_sink fields v) (not-true (is_root fields v || is_sink fields v) h)).1

cut_with_member : (rules : Rules) (set : List Bool) (v : ℕ) → IsInnerNode rules v → is_tried rules set v ≡ true → IsCut rules.mesh.index.fields rules.mesh.root (has set) → IsCut rules.mesh.index.fields rules.mesh.root (has (with_member set v))
cut_with_member rules set v inner tried cut =
    let fields = rules.mesh.index.fields in
    let joining = joining_from_test rules set v tried in
    record {
      has_root = still_has set v rules.mesh.root cut.has_root;
      no_sink = λ u is. elim (had_or_is set v u is) [
        | inl same ↦ subst (λ (w : ℕ). is_sink fields w ≡ false) same (inner_no_sink fields v inner.inner)
        | inr had ↦ cut.no_sink u had
      ];
      has_parents = λ p f here is. elim (had_or_is set v f.head is) [
        | inl leads ↦ still_has set v f.tail (parent_in_set fields set v p f joining.parents here leads)
        | inr had ↦ still_has set v f.tail (cut.has_parents p f here had)
      ];
    }

root_is_node : (rules : Rules) → IsMesh rules.mesh → rules.mesh.root < length rules.mesh.index.nodes
root_is_node rules mesh = (only_root_from_roots (length rules.mesh.index.nodes) rules.mesh.index.fields rules.mesh.root mesh.graph.one_root).node

-- the root's set has the root alone
pub root_set_has : (rules : Rules) → IsMesh rules.mesh → (v : ℕ) → has (root_set rules) v ≡ root_alone rules.mesh.root v
unfolding root_set
root_set_has rules mesh v =
    let root = rules.mesh.root in
    let none = replicate (length rules.mesh.index.nodes) false in
    elim (cases_eq v root) [
      | inl same ↦
          let there = has_member none root (subst (λ (n : ℕ). root < n) (sym (length-replicate (length rules.mesh.index.nodes) false)) (root_is_node rules mesh)) in
          subst (λ (u : ℕ). has (with_member none root) u ≡ eqb u root) (sym same) (there ∙ sym (eq-eqb root root refl))
      | inr apart ↦ false_from_ne_true (has (with_member none root) v) (λ is. never v apart (had_or_is none root v is)) ∙ sym (ne_eqb v root apart)
    ]
  where
    never : (v : ℕ) → (v ≡ rules.mesh.root → ⊥) → (rules.mesh.root ≡ v) ⊎ (has (replicate (length rules.mesh.index.nodes) false) v ≡ true) → ⊥
    never v apart (inl same) = apart (sym same)
    never v apart (inr had) = let none = empty_has_none (length rules.mesh.index.nodes) v in absurd (cc)

root_set_is_cut : (rules : Rules) → IsMesh rules.mesh → IsCut rules.mesh.index.fields rules.mesh.root (has (root_set rules))
root_set_is_cut rules mesh =
    let alone = base_is_cut rules.mesh.index rules.mesh.root mesh.rules mesh.graph in
    let same = root_set_has rules mesh in
    record {
      has_root = same rules.mesh.root ∙ alone.has_root;
      no_sink = λ v is. alone.no_sink v (sym (same v) ∙ is);
      has_parents = λ p f here is. same f.tail ∙ alone.has_parents p f here (sym (same f.head) ∙ is);
    }

pub round_is_cut : (rules : Rules) → IsMesh rules.mesh → (epochs : List ℕ) → IsCut rules.mesh.index.fields rules.mesh.root (has (round_of rules epochs).set)
round_is_cut rules mesh = round_keeps rules (λ (set : List Bool). IsCut rules.mesh.index.fields rules.mesh.root (has set)) (cut_with_member rules) (root_set_is_cut rules mesh)

-- its frame has the net of the root's triangles
pub round_boundary : (rules : Rules) (file : FileLists) (epochs : List ℕ) → IsMesh rules.mesh → IsAccepted file rules.mesh.root → file.index ≡ rules.mesh.index → HaveOneNet (frame_of_set file (has (round_of rules epochs).set)) (triangles_out_of file rules.mesh.root)
round_boundary rules file epochs mesh accepted same =
    boundary file rules.mesh.root (has (round_of rules epochs).set) (subst IsIndex (sym same) mesh.rules) accepted
    (subst (λ (index : IndexLists). IsCut index.fields rules.mesh.root (has (round_of rules epochs).set)) (sym same) (round_is_cut rules mesh epochs))

-- ---- its size and its members

-- the frame is within the limit, or nothing joined the root
pub round_within_limit : (rules : Rules) (epochs : List ℕ) → ((round_of rules epochs).set ≡ root_set rules) ⊎ (frame_size (has (round_of rules epochs).set) rules.mesh.index.fields ≤ rules.limit)
round_within_limit rules =
    round_keeps rules (λ (set : List Bool). (set ≡ root_set rules) ⊎ (frame_size (has set) rules.mesh.index.fields ≤ rules.limit))
    (λ set v inner tried h. inr (leb-true (frame_size (has (with_member set v)) rules.mesh.index.fields) rules.limit (joining_from_test rules set v tried).within)) (inl refl)

-- the node is the root, or an inner node that is wanted
abbrev pub IsRootOrWanted : Rules → ℕ → Type 0
IsRootOrWanted rules v = (rules.mesh.root ≡ v) ⊎ (IsInnerNode rules v × (is_wanted rules v ≡ true))

pub round_members : (rules : Rules) (epochs : List ℕ) (v : ℕ) → has (round_of rules epochs).set v ≡ true → IsRootOrWanted rules v
unfolding root_set
round_members rules =
    round_keeps rules (λ (set : List Bool). (v : ℕ) → has set v ≡ true → IsRootOrWanted rules v)
    (λ set u inner tried h v is. joined set u v (inner, (joining_from_test rules set u tried).wanted) (h v) (had_or_is set u v is))
    (λ v is. at_root v (had_or_is (replicate (length rules.mesh.index.nodes) false) rules.mesh.root v is))
  where
    joined : (set : List Bool) (u v : ℕ) → IsInnerNode rules u × (is_wanted rules u ≡ true) → (has set v ≡ true → IsRootOrWanted rules v) → (u ≡ v) ⊎ (has set v ≡ true) → IsRootOrWanted rules v
    joined set u v is h (inl same) = inr (subst (λ (w : ℕ). IsInnerNode rules w × (is_wanted rules w ≡ true)) same is)
    joined set u v is h (inr had) = h had

    at_root : (v : ℕ) → (rules.mesh.root ≡ v) ⊎ (has (replicate (length rules.mesh.index.nodes) false) v ≡ true) → IsRootOrWanted rules v
    at_root v (inl same) = inl same
    at_root v (inr had) = absurd (let none = empty_has_none (length rules.mesh.index.nodes) v in cc)

-- the set has a flag for each node
pub round_as_many : (rules : Rules) (epochs : List ℕ) → length (round_of rules epochs).set ≡ length rules.mesh.index.nodes
unfolding root_set
round_as_many rules =
    round_keeps rules (λ (set : List Bool). length set ≡ length rules.mesh.index.nodes) (λ set v inner tried h. as_many_members set v ∙ h)
    (as_many_members (replicate (length rules.mesh.index.nodes) false) rules.mesh.root ∙ length-replicate (length rules.mesh.index.nodes) false)
