-- A set of nodes as it grows: the triangles and the patches that lead out of it.
use Rattle.std.proofs.Common.{◌≡◌, ℕ, zero, suc, ◌+◌, ◌-◌, ◌<◌, ◌≤◌, Bool, true, false, not, ◌&&◌, ◌||◌, cond, eqb, leb, List, [], ◌∷◌, ◌++◌, length, get_or, Some, refl, sym, ap, subst, ◌∙◌, arith, inl, inr}
use Rattle.std.specs.Prelude.{slice_get, slice_index, replicate}
use Rattle.std.specs.List.{AllByRecursion, sum_by}
use Rattle.std.proofs.lemmas.Bool.{cases_eq, cond_both, eq-eqb, ne_eqb, eqb-true, or_cases, not-true, leb-true, and_parts, cases_lt}
use Rattle.std.proofs.lemmas.List.{length-replicate, get_or_push, get_or_append_left}
use Rattle.std.proofs.lemmas.List.Sums.{sum_by-cons}
use Rattle.file_model.specs.declared.fields.PatchField.{PatchField}
use Rattle.mesh_model.specs.Graph.{leads_to, leads_from, patches_from, incoming, outgoing}
use Rattle.mesh_model.specs.Nets.{one_if}
use Rattle.mesh_model.specs.Frames.{leads_out, triangles_in_all}
use Rattle.mesh_model.specs.Meshes.{MeshLists, IsMesh}
use Rattle.round_model.specs.Rounds.{has, with_member, frame_size}
use Rattle.mesh_laws.specs.Each.{each_from_places, each_passes, each_at, each_then, each_of_all}
use Rattle.round_laws.specs.Members.{still_has, had_or_is, has_member, empty_has_none}
use Rattle.round_laws.specs.Parents.{levels_rise}
use Rattle.cut_refiner.specs.GrowingCuts.{triangles_at, heads_at, missing_of, AreCounts, IsGrowingCut, IsGrowing}
use Rattle.cut_refiner.proofs.PatchLaws.{part_where, sum_of_patches, sums_add, sums_split, sums_at_most, sum_of_none}

-- ---- the set with one more node

pub other_has : (set : List Bool) (v u : ℕ) → (u ≡ v → ⊥) → has (with_member set v) u ≡ has set u
other_has [] v u apart = refl
other_has (t ∷ ts) zero zero apart = absurd (apart refl)
other_has (t ∷ ts) zero (suc u) apart = refl
other_has (t ∷ ts) (suc v) zero apart = refl
other_has (t ∷ ts) (suc v) (suc u) apart = other_has ts v u (λ same. apart (ap suc same))

has_now : (set : List Bool) (v u : ℕ) → v < length set → has (with_member set v) u ≡ (eqb u v || has set u)
has_now set v u within =
    elim (cases_eq u v) [
      | inl same ↦ subst (λ (w : ℕ). has (with_member set v) w ≡ (eqb w v || has set w)) (sym same) (has_member set v within ∙ sym (ap (λ (t : Bool). t || has set v) (eq-eqb v v refl)))
      | inr apart ↦ other_has set v u apart ∙ sym (ap (λ (t : Bool). t || has set u) (ne_eqb u v apart))
    ]

-- ---- a patch as a node joins

-- what is known of a patch: whether it leads from the node and to it, and whether the set has its tail and
-- its head
record IsPatch (from to tail head : Bool) : Type 0 where
  loops : from ≡ true → to ≡ true → ⊥
  leaves : from ≡ true → tail ≡ false
  enters : to ≡ true → tail ≡ true
  new_head : to ≡ true → head ≡ false
  closed : head ≡ true → tail ≡ true

both : (from to tail head : Bool) (n : ℕ) → IsPatch from to tail head → cond ((from || tail) && not (to || head)) n 0 + cond to n 0 ≡ cond (tail && not head) n 0 + cond from n 0
both true true tail head n is = absurd (is.loops refl refl)
both true false true head n is = absurd (let e = is.leaves refl in cc)
both true false false true n is = absurd (let e = is.closed refl in cc)
both true false false false n is = omega arith
both false true false head n is = absurd (let e = is.enters refl in cc)
both false true true true n is = absurd (let e = is.new_head refl in cc)
both false true true false n is = omega arith
both false false tail head n is = refl

within : (from to tail head : Bool) (n : ℕ) → IsPatch from to tail head → cond to n 0 ≤ cond (tail && not head) n 0
within from true false head n is = absurd (let e = is.enters refl in cc)
within from true true true n is = absurd (let e = is.new_head refl in cc)
within from true true false n is = omega arith
within from false tail head n is = omega arith

fewer : (from to tail head at : Bool) → IsPatch from to tail head → one_if (at && not (from || tail)) + cond from (one_if at) 0 ≡ one_if (at && not tail)
fewer true to true head at is = absurd (let e = is.leaves refl in cc)
fewer true to false head true is = refl
fewer true to false head false is = refl
fewer false to tail head at is = omega arith

module _ (mesh : MeshLists) (set : List Bool) (missing : List ℕ) (size v : ℕ) (is : IsGrowing mesh set missing size v) where
  abbrev fields : List PatchField
  fields = mesh.index.fields

  abbrev IsPatchOf : PatchField → Type 0
  IsPatchOf f = IsPatch (leads_from v f) (leads_to v f) (has set f.tail) (has set f.head)

  v_in : v < length set
  v_in = let flags = is.growing.flags in let node = is.node in omega arith

  tail_of_head : (f : PatchField) (p : ℕ) → slice_get fields p ≡ Some f → leads_to v f ≡ true → has set f.tail ≡ true
  tail_of_head f p here leads =
      elim (or_cases (not (leads_to v f)) (has set f.tail) (each_at (λ g. (not (leads_to v g) || has set g.tail) ≡ true) fields p f here (each_passes (λ g. not (leads_to v g) || has set g.tail) fields is.parents))) [
        | inl apart ↦ absurd (let never = not-true (leads_to v f) apart in cc)
        | inr there ↦ there
      ]

  patch_is : (p : ℕ) (f : PatchField) → slice_get fields p ≡ Some f → IsPatchOf f
  patch_is p f here = record {
    loops = λ from to. let rises = levels_rise mesh is.is_mesh p f here in let tail = eqb-true f.tail v from in let head = eqb-true f.head v to in let same = ap (slice_index mesh.levels) (tail ∙ sym head) in absurd (omega arith);
    leaves = λ from. ap (has set) (eqb-true f.tail v from) ∙ is.outside;
    enters = tail_of_head f p here;
    new_head = λ to. ap (has set) (eqb-true f.head v to) ∙ is.outside;
    closed = is.growing.closed p f here;
  }

  patches_are : AllByRecursion IsPatchOf fields
  patches_are = each_from_places IsPatchOf fields patch_is

  abbrev out_now : PatchField → Bool
  out_now = leads_out (has (with_member set v))

  out_now_is : (f : PatchField) → out_now f ≡ ((leads_from v f || has set f.tail) && not (leads_to v f || has set f.head))
  out_now_is f =
      ap (λ (t : Bool). t && not (has (with_member set v) f.head)) (has_now set v f.tail v_in)
      ∙ ap (λ (t : Bool). (leads_from v f || has set f.tail) && not t) (has_now set v f.head v_in)

  -- ---- triangles

  abbrev triangles_of : PatchField → ℕ
  triangles_of f = f.triangles

  grows : frame_size (has (with_member set v)) fields + sum_by (part_where (leads_to v) triangles_of) fields ≡ frame_size (has set) fields + sum_by (part_where (leads_from v) triangles_of) fields
  unfolding frame_size
  grows =
      sums_add (part_where out_now triangles_of) (part_where (leads_to v) triangles_of) (part_where (leads_out (has set)) triangles_of) (part_where (leads_from v) triangles_of) fields
      (each_then IsPatchOf (λ f. part_where out_now triangles_of f + part_where (leads_to v) triangles_of f ≡ part_where (leads_out (has set)) triangles_of f + part_where (leads_from v) triangles_of f) fields
      (λ f patch. ap (λ (t : Bool). cond t f.triangles 0 + cond (leads_to v f) f.triangles 0) (out_now_is f) ∙ both (leads_from v f) (leads_to v f) (has set f.tail) (has set f.head) f.triangles patch) patches_are)

  enters_within : sum_by (part_where (leads_to v) triangles_of) fields ≤ frame_size (has set) fields
  unfolding frame_size
  enters_within =
      sums_at_most (part_where (leads_to v) triangles_of) (part_where (leads_out (has set)) triangles_of) fields
      (each_then IsPatchOf (λ f. part_where (leads_to v) triangles_of f ≤ part_where (leads_out (has set)) triangles_of f) fields
      (λ f patch. within (leads_from v f) (leads_to v f) (has set f.tail) (has set f.head) f.triangles patch) patches_are)

  -- the triangles of the patches that lead to the node, and of those that lead from it
  abbrev pub triangles_in : ℕ
  triangles_in = sum_by (triangles_at fields) (incoming fields v)

  abbrev pub triangles_from : ℕ
  triangles_from = sum_by (triangles_at fields) (outgoing fields v)

  pub size_less : triangles_in ≤ size
  size_less = omega (arith, enters_within, is.growing.triangles, sum_of_patches (leads_to v) triangles_of fields)

  pub size_now : size - triangles_in + triangles_from ≡ frame_size (has (with_member set v)) fields
  size_now = omega (arith, size_less, grows, is.growing.triangles, sum_of_patches (leads_to v) triangles_of fields, sum_of_patches (leads_from v) triangles_of fields)

  -- ---- missing patches

  -- whether a patch leads to the node, as a number
  abbrev leads_at : ℕ → PatchField → ℕ
  leads_at u f = one_if (leads_to u f)

  abbrev misses : (ℕ → Bool) → ℕ → PatchField → ℕ
  misses in_set u f = one_if (leads_to u f && not (in_set f.tail))

  -- what misses the set misses it with the node, or leads from the node
  pub missing_now : (u : ℕ) → missing_of fields (has set) u ≡ missing_of fields (has (with_member set v)) u + sum_by (heads_at fields u) (outgoing fields v)
  unfolding missing_of
  missing_now u =
      let split = sums_split (misses (has (with_member set v)) u) (part_where (leads_from v) (leads_at u)) (misses (has set) u) fields
      (each_then IsPatchOf (λ f. misses (has (with_member set v)) u f + part_where (leads_from v) (leads_at u) f ≡ misses (has set) u f) fields
      (λ f patch. ap (λ (t : Bool). one_if (leads_to u f && not t) + part_where (leads_from v) (leads_at u) f) (has_now set v f.tail v_in) ∙ fewer (leads_from v f) (leads_to v f) (has set f.tail) (has set f.head) (leads_to u f) patch) patches_are) in
      omega (arith, split, sum_of_patches (leads_from v) (leads_at u) fields)

  -- the set with the node has its nodes' parents
  pub closed_now : (p : ℕ) (f : PatchField) → slice_get fields p ≡ Some f → has (with_member set v) f.head ≡ true → has (with_member set v) f.tail ≡ true
  closed_now p f here there =
      elim (had_or_is set v f.head there) [
        | inl same ↦ still_has set v f.tail (tail_of_head f p here (eq-eqb f.head v (sym same)))
        | inr had ↦ still_has set v f.tail (is.growing.closed p f here had)
      ]

part_within : (t : Bool) (n : ℕ) → cond t n 0 ≤ n
part_within true n = omega arith
part_within false n = omega arith

pub size_fits : (in_set : ℕ → Bool) (fields : List PatchField) → frame_size in_set fields ≤ triangles_in_all fields
unfolding frame_size
size_fits in_set fields =
    sums_at_most (part_where (leads_out in_set) (λ (f : PatchField). f.triangles)) (λ (f : PatchField). f.triangles) fields
    (each_of_all (λ (f : PatchField). part_where (leads_out in_set) (λ (g : PatchField). g.triangles) f ≤ f.triangles) fields (λ f. part_within (leads_out in_set f) f.triangles))

-- what the code counts as a node joins
pub record HasGrown (mesh : MeshLists) (set : List Bool) (size v into out_of : ℕ) : Type 0 where
  pub less : into ≤ size
  pub fits : size - into + out_of ≤ triangles_in_all mesh.index.fields
  pub is : size - into + out_of ≡ frame_size (has (with_member set v)) mesh.index.fields

pub grown : (mesh : MeshLists) (set : List Bool) (missing : List ℕ) (size v : ℕ) → IsGrowing mesh set missing size v → (fs : List PatchField) (ps qs : List ℕ) (into out_of : ℕ) → fs ≡ mesh.index.fields → ps ≡ incoming mesh.index.fields v → qs ≡ outgoing mesh.index.fields v → into ≡ sum_by (triangles_at fs) ps → out_of ≡ sum_by (triangles_at fs) qs → HasGrown mesh set size v into out_of
grown mesh set missing size v is fs ps qs into out_of same ins outs sum_in sum_out =
    let into_is : into ≡ triangles_in mesh set missing size v is = sum_in ∙ ap (λ (gs : List PatchField). sum_by (triangles_at gs) ps) same ∙ ap (λ (rs : List ℕ). sum_by (triangles_at mesh.index.fields) rs) ins in
    let out_is : out_of ≡ triangles_from mesh set missing size v is = sum_out ∙ ap (λ (gs : List PatchField). sum_by (triangles_at gs) qs) same ∙ ap (λ (rs : List ℕ). sum_by (triangles_at mesh.index.fields) rs) outs in
    let less = size_less mesh set missing size v is in
    let now_is = size_now mesh set missing size v is in
    record {
      less = omega arith;
      fits = omega (arith, size_fits (has (with_member set v)) mesh.index.fields);
      is = omega arith;
    }

-- a mesh has few patches
pub few_fields : (mesh : MeshLists) → IsMesh mesh → length mesh.index.fields ≤ 65536
few_fields mesh is = leb-true (length mesh.index.fields) 65536 (and_parts (leb 1 (length mesh.index.fields)) (leb (length mesh.index.fields) 65536) is.rules.patch_count).1

pub few_nodes : (mesh : MeshLists) → IsMesh mesh → length mesh.index.nodes ≤ 65536
few_nodes mesh is = leb-true (length mesh.index.nodes) 65536 (and_parts (leb 2 (length mesh.index.nodes)) (leb (length mesh.index.nodes) 65536) is.rules.node_count).1

-- ---- the set of no nodes

test_of_none : (t in_tail : Bool) → in_tail ≡ false → one_if (t && not in_tail) ≡ one_if t
test_of_none true in_tail h = ap (λ (b : Bool). one_if (not b)) h
test_of_none false in_tail h = refl

counted_from : (test : PatchField → Bool) (in_set : ℕ → Bool) (fs : List PatchField) (first : ℕ) → ((u : ℕ) → in_set u ≡ false) → sum_by (λ (f : PatchField). one_if (test f && not (in_set f.tail))) fs ≡ length (patches_from first test fs)
unfolding patches_from
counted_from test in_set [] first none = refl
counted_from test in_set (f ∷ fs) first none =
    let rest = counted_from test in_set fs (first + 1) none in
    let cons = sum_by-cons (λ (g : PatchField). one_if (test g && not (in_set g.tail))) f fs in
    let here = test_of_none (test f) (in_set f.tail) (none f.tail) in
    cond_both (test f) (first ∷ patches_from (first + 1) test fs) (patches_from (first + 1) test fs) (λ (ps : List ℕ). sum_by (λ (g : PatchField). one_if (test g && not (in_set g.tail))) (f ∷ fs) ≡ length ps)
    (λ passes. let one = ap one_if passes in omega arith)
    (λ fails. let zero_ = ap one_if fails in omega arith)

nothing_out : (t : Bool) (n : ℕ) (h : Bool) → t ≡ false → cond (t && h) n 0 ≡ 0
nothing_out t n h e = ap (λ (b : Bool). cond (b && h) n 0) e

pub empty_growing : (mesh : MeshLists) (counts : List ℕ) → AreCounts mesh counts → IsGrowingCut mesh (replicate (length mesh.index.nodes) false) counts 0
unfolding missing_of frame_size
empty_growing mesh counts are =
    let nodes = length mesh.index.nodes in
    let none = empty_has_none nodes in
    record {
      flags = length-replicate nodes false;
      counts = are.as_many;
      closed = λ p f here there. absurd (let never = none f.head in cc);
      each = λ v node. are.each v node ∙ sym (counted_from (leads_to v) (has (replicate nodes false)) mesh.index.fields 0 none);
      triangles = sym (sum_of_none (part_where (leads_out (has (replicate nodes false))) (λ (f : PatchField). f.triangles)) mesh.index.fields
          (each_of_all (λ (f : PatchField). part_where (leads_out (has (replicate nodes false))) (λ (g : PatchField). g.triangles) f ≡ 0) mesh.index.fields
          (λ f. nothing_out (has (replicate nodes false) f.tail) f.triangles (not (has (replicate nodes false) f.head)) (none f.tail))));
    }

-- one more node is counted
pub counted_more : (counts : List ℕ) (n count : ℕ) (number : ℕ → ℕ) → length counts ≡ n → ((v : ℕ) → v < n → get_or counts v 0 ≡ number v) → count ≡ number n → (v : ℕ) → v < n + 1 → get_or (counts ++ count ∷ []) v 0 ≡ number v
counted_more counts n count number many each is v within =
    elim (cases_eq v n) [
      | inl same ↦ subst (λ (u : ℕ). get_or (counts ++ count ∷ []) u 0 ≡ number u) (sym same) (get_or_push counts count 0 n many ∙ is)
      | inr apart ↦ get_or_append_left counts (count ∷ []) 0 v (below apart) ∙ each v (under apart)
    ]
  where
    under : (v ≡ n → ⊥) → v < n
    under apart = elim (cases_lt v n) [ inl less ↦ less | inr more ↦ absurd (apart (omega arith)) ]

    below : (v ≡ n → ⊥) → v < length counts
    below apart = let less = under apart in omega arith
