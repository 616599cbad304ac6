-- Where the limit doesn't bind and each try is granted, culling takes away from the view's cut what is behind
-- a half-space, and nothing else.
use Rattle.std.proofs.Common.{◌≡◌, ℕ, ◌*◌, ◌≤◌, ◌⊎◌, Bool, true, false, not, ◌&&◌, ◌||◌, cond, leb, ltb, eqb, List, [], ◌∷◌, length, map, None, refl, sym, subst, ◌∙◌, arith, inl, inr}
use Rattle.std.specs.Prelude.{slice_get, slice_index}
use Rattle.std.specs.List.{list_all}
use Rattle.std.proofs.lemmas.Bool.{and_parts, and_from, or_cases, or_left, or_right, eqb-true, eq-eqb, leb-true, ltb-true}
use Rattle.std.proofs.lemmas.List.Sums.{sum_by-cons}
use Rattle.file_model.specs.declared.fields.PatchField.{PatchField}
use Rattle.file_model.specs.declared.limits.TheConstants.{MOST_IN_PATCH}
use Rattle.file_model.specs.Lists.{IndexLists}
use Rattle.file_model.specs.Rules.{IsIndex, is_between, has_ends, has_counts, is_field}
use Rattle.mesh_model.specs.Frames.{leads_out, root_alone}
use Rattle.mesh_model.specs.Meshes.{MeshLists, IsMesh}
use Rattle.round_model.specs.Scores.{score_of}
use Rattle.round_model.specs.Order.{Rules}
use Rattle.round_model.specs.Rounds.{has, frame_size, is_wanted, root_set, round_of}
use Rattle.round_model.specs.Views.{ViewSeen, rules_of, view_rules}
use Rattle.round_laws.specs.Parents.{FallsAlong, falls_from_eye}
use Rattle.round_laws.specs.Cuts.{IsRootOrWanted, round_is_cut, round_members}
use Rattle.round_laws.specs.Wanted.{with_members, FitsWanted, AreGranted}
use Rattle.round_laws.specs.FullRounds.{full_round}
use Rattle.view_planes.specs.Planes.{PlanesSeen, is_culled_node, culled_score, planes_rules}
use Rattle.view_planes.specs.Culling.{culled_at, culled_falls}

-- ---- no frame has more triangles than the greatest limit

few_of_field : (nodes : ℕ) (f : PatchField) → is_field nodes f ≡ true → f.triangles ≤ 65535
few_of_field nodes f h =
    let counts = and_parts (is_between 1 MOST_IN_PATCH f.points) (is_between 1 MOST_IN_PATCH f.triangles) (and_parts (has_ends nodes f) (has_counts f) h).1 in
    leb-true f.triangles 65535 (and_parts (leb 1 f.triangles) (leb f.triangles 65535) counts.1).1

few_triangles : (nodes : ℕ) (in_set : ℕ → Bool) (fields : List PatchField) → list_all (is_field nodes) fields ≡ true → frame_size in_set fields ≤ 65535 * length fields
unfolding frame_size
few_triangles nodes in_set [] all = omega arith
few_triangles nodes in_set (f ∷ fs) all =
    let parts = and_parts (is_field nodes f) (list_all (is_field nodes) fs) all in
    let few = few_of_field nodes f parts.0 in
    let rest = few_triangles nodes in_set fs parts.1 in
    let first = counted (leads_out in_set f) f.triangles few in
    omega (arith, sum_by-cons (λ (g : PatchField). cond (leads_out in_set g) g.triangles 0) f fs)
  where
    counted : (b : Bool) (t : ℕ) → t ≤ 65535 → cond b t 0 ≤ 65535
    counted true t few = few
    counted false t few = omega arith

frame_fits : (index : IndexLists) (in_set : ℕ → Bool) → IsIndex index → frame_size in_set index.fields ≤ 4294967295
frame_fits index in_set rules =
    let few = few_triangles (length index.nodes) in_set index.fields rules.fields in
    let many = leb-true (length index.fields) 65536 (and_parts (leb 1 (length index.fields)) (leb (length index.fields) 65536) rules.patch_count).1 in
    omega arith

fits_wanted : (rules : Rules) → IsMesh rules.mesh → rules.limit ≡ 4294967295 → FitsWanted rules
fits_wanted rules mesh greatest = record {
  fits = λ first rest order wanted.
      let fits = frame_fits rules.mesh.index (has (with_members (root_set rules) first)) mesh.rules in
      subst (λ (limit : ℕ). frame_size (has (with_members (root_set rules) first)) rules.mesh.index.fields ≤ limit) (sym greatest) fits;
}

-- ---- whole rounds

-- the round is through, and each of its tries was granted
pub record IsGranted (rules : Rules) (epochs : List ℕ) : Type 0 where
  pub through : (round_of rules epochs).at ≡ None
  pub granted : AreGranted (round_of rules epochs).tries

wanted_is_in : (rules : Rules) (epochs : List ℕ) → IsMesh rules.mesh → FallsAlong rules → FitsWanted rules → IsGranted rules epochs → (v : ℕ) → IsRootOrWanted rules v → has (round_of rules epochs).set v ≡ true
wanted_is_in rules epochs mesh falls fits granted v (inl root) =
    subst (λ (u : ℕ). has (round_of rules epochs).set u ≡ true) root (round_is_cut rules mesh epochs).has_root
wanted_is_in rules epochs mesh falls fits granted v (inr is) = full_round rules epochs mesh falls fits granted.through granted.granted v is.0 is.1

-- ---- with planes and without

-- the numbers of nodes that are wanted
less_tests : (threshold : ℕ) (culled : Bool) (score with_planes : ℕ) → with_planes ≡ cond culled 0 score → ltb threshold with_planes ≡ (ltb threshold score && not culled)
less_tests threshold true score with_planes e = none (ltb threshold with_planes) (ltb threshold score) (λ less. omega (arith, ltb-true threshold with_planes less))
  where
    none : (a b : Bool) → (a ≡ true → ⊥) → a ≡ (b && false)
    none true b never = absurd (never refl)
    none false true never = refl
    none false false never = refl
less_tests threshold false score with_planes e = subst (λ (s : ℕ). ltb threshold s ≡ (ltb threshold score && true)) (sym e) (whole (ltb threshold score))
  where
    whole : (b : Bool) → b ≡ (b && true)
    whole true = refl
    whole false = refl

wanted_in_front : (seen : PlanesSeen) (mesh : MeshLists) (v : ℕ) → is_wanted (planes_rules seen mesh) v ≡ (is_wanted (view_rules seen.view mesh) v && not (is_culled_node seen.planes (slice_get mesh.index.nodes v)))
unfolding rules_of
wanted_in_front seen mesh v =
    less_tests seen.view.threshold (is_culled_node seen.planes (slice_get mesh.index.nodes v)) (slice_index (map (score_of seen.view.eye seen.view.focal) mesh.index.nodes) v) (slice_index (map (culled_score seen) mesh.index.nodes) v)
    (culled_at seen mesh.index.nodes v)

-- the round of a view that isn't limited
abbrev Whole : MeshLists → Rules → List ℕ → Type 0
Whole mesh rules epochs = (v : ℕ) → (has (round_of rules epochs).set v ≡ true → IsRootOrWanted rules v) × (IsRootOrWanted rules v → has (round_of rules epochs).set v ≡ true)

whole_view : (view : ViewSeen) (mesh : MeshLists) (epochs : List ℕ) → IsMesh mesh → view.limit ≡ 4294967295 → IsGranted (view_rules view mesh) epochs → Whole mesh (view_rules view mesh) epochs
unfolding rules_of
whole_view view mesh epochs is limit granted v =
    let rules = view_rules view mesh in
    (round_members rules epochs v, wanted_is_in rules epochs is (falls_from_eye view.eye view.focal rules is (record { scores = refl })) (fits_wanted rules is limit) granted v)

whole_planes : (seen : PlanesSeen) (mesh : MeshLists) (epochs : List ℕ) → IsMesh mesh → seen.view.limit ≡ 4294967295 → IsGranted (planes_rules seen mesh) epochs → Whole mesh (planes_rules seen mesh) epochs
unfolding rules_of
whole_planes seen mesh epochs is limit granted v =
    let rules = planes_rules seen mesh in
    (round_members rules epochs v, wanted_is_in rules epochs is (culled_falls seen mesh seen.view.limit is) (fits_wanted rules is limit) granted v)

same_tests : (a b : Bool) → (a ≡ true → b ≡ true) → (b ≡ true → a ≡ true) → a ≡ b
same_tests true b there back = sym (there refl)
same_tests false true there back = back refl
same_tests false false there back = refl

pub culled_cut : (seen : PlanesSeen) (mesh : MeshLists) (epochs culled_epochs : List ℕ) → IsMesh mesh → seen.view.limit ≡ 4294967295 → IsGranted (view_rules seen.view mesh) epochs → IsGranted (planes_rules seen mesh) culled_epochs → (v : ℕ) → has (round_of (planes_rules seen mesh) culled_epochs).set v ≡ (root_alone mesh.root v || (has (round_of (view_rules seen.view mesh) epochs).set v && not (is_culled_node seen.planes (slice_get mesh.index.nodes v))))
unfolding rules_of
culled_cut seen mesh epochs culled_epochs is limit granted culled_granted v =
    let all = whole_view seen.view mesh epochs is limit granted v in
    let some = whole_planes seen mesh culled_epochs is limit culled_granted v in
    same_tests (has (round_of (planes_rules seen mesh) culled_epochs).set v) (root_alone mesh.root v || (has (round_of (view_rules seen.view mesh) epochs).set v && not (is_culled_node seen.planes (slice_get mesh.index.nodes v))))
    (λ there. down all.1 (some.0 there)) (λ there. some.1 (up all.0 (or_cases (root_alone mesh.root v) (has (round_of (view_rules seen.view mesh) epochs).set v && not (is_culled_node seen.planes (slice_get mesh.index.nodes v))) there)))
  where
    in_all : Bool
    in_all = has (round_of (view_rules seen.view mesh) epochs).set v

    front : Bool
    front = not (is_culled_node seen.planes (slice_get mesh.index.nodes v))

    down : (IsRootOrWanted (view_rules seen.view mesh) v → in_all ≡ true) → IsRootOrWanted (planes_rules seen mesh) v → (root_alone mesh.root v || (in_all && front)) ≡ true
    down go (inl root) = or_left (eqb v mesh.root) (in_all && front) (eq-eqb v mesh.root (sym root))
    down go (inr (inner, wanted)) =
        let parts = and_parts (is_wanted (view_rules seen.view mesh) v) front (sym (wanted_in_front seen mesh v) ∙ wanted) in
        or_right (eqb v mesh.root) (in_all && front) (and_from in_all front (go (inr (record { node = inner.node; inner = inner.inner }, parts.0))) parts.1)

    wanted_front : front ≡ true → IsRootOrWanted (view_rules seen.view mesh) v → IsRootOrWanted (planes_rules seen mesh) v
    wanted_front is_front (inl root) = inl root
    wanted_front is_front (inr (inner, wanted)) =
        inr (record { node = inner.node; inner = inner.inner }, wanted_in_front seen mesh v ∙ and_from (is_wanted (view_rules seen.view mesh) v) front wanted is_front)

    up : (in_all ≡ true → IsRootOrWanted (view_rules seen.view mesh) v) → (root_alone mesh.root v ≡ true) ⊎ ((in_all && front) ≡ true) → IsRootOrWanted (planes_rules seen mesh) v
    up go (inl root) = inl (sym (eqb-true v mesh.root root))
    up go (inr both) =
        let parts = and_parts in_all front both in
        wanted_front parts.1 (go parts.0)
