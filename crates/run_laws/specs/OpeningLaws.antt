-- A run opens in a safe state.
use Rattle.std.proofs.Common.{◌≡◌, ℕ, zero, suc, Bool, true, false, not, List, [], ◌∷◌, length, map, Option, Some, is_some, refl, sym, ap, subst, ◌∙◌, arith, inl, inr}
use Rattle.std.specs.Prelude.{slice_get, if◌then◌else◌}
use Rattle.std.specs.List.{AllByRecursion, list_any}
use Rattle.std.proofs.lemmas.Bool.{cases_eq, eq-eqb, ne_eqb}
use Rattle.std.proofs.lemmas.List.{length-map}
use Rattle.std.proofs.lemmas.Option.{same_Some, slice_get_within}
use Rattle.file_model.specs.declared.fields.PatchField.{PatchField}
use Rattle.file_model.specs.Lists.{IndexLists, SeenBody}
use Rattle.file_model.specs.Tries.{is_odd}
use Rattle.mesh_model.specs.Graph.{leads_to, leads_from, is_root, roots}
use Rattle.mesh_model.specs.Meshes.{MeshLists, IsMesh}
use Rattle.mesh_laws.specs.Each.{each_then}
use Rattle.mesh_laws.specs.Ends.{HasEnds, each_has_ends}
use Rattle.mesh_laws.specs.Roots.{only_root_from_roots}
use Rattle.round_laws.specs.Arcs.{passes_at, is_from}
use Rattle.session_laws.specs.StateLaws.{none_left_over}
use Rattle.tier_model.specs.Places.{is_marked}
use Rattle.tier_model.specs.Tiers.{TierState, base_marks}
use Rattle.tier_model.specs.Changes.{fresh}
use Rattle.tier_model.specs.Chains.{opened_top, opened_tiers, opened}
use Rattle.tier_model.specs.Ties.{IsTied}
use Rattle.tier_laws.specs.BodyLaws.{none_there, body_is_there}
use Rattle.tier_laws.specs.TieLaws.{tied-again}
use Rattle.tier_laws.specs.OpeningLaws.{FitsBase, IsTier-fresh, IsTier-opened_top, made-fresh, made-opened_top, file-opened_top, tied-opened}
use Rattle.run_model.specs.Worlds.{World, is_base, IsFileBody, IsWorld, HoldsBase, AreBaseBodies}
use Rattle.run_model.specs.States.{opening}
use Rattle.run_model.specs.Safe.{IsSafe}
use Rattle.run_laws.specs.Sound.{IsTierOf, IsSound, sound_safe}

-- ---- the base patches are those that lead from a root

same_marks : (test other : PatchField → Bool) (fields : List PatchField) → AllByRecursion (λ f. test f ≡ other f) fields → (p : ℕ) → passes_at test fields p ≡ is_marked (map other fields) p
same_marks test other [] all p = refl
same_marks test other (f ∷ fs) all zero = all.0
same_marks test other (f ∷ fs) all (suc p) = same_marks test other fs all.1 p

no_arc_leads : (root : ℕ) (fs : List PatchField) → AllByRecursion (λ f. leads_to root f ≡ false) fs → list_any (leads_to root) fs ≡ false
no_arc_leads root [] all = refl
no_arc_leads root (f ∷ fs) all = rw all.0 (no_arc_leads root fs all.1)

only_from_root : (nodes : ℕ) (fields : List PatchField) (root : ℕ) → roots nodes fields ≡ root ∷ [] → (f : PatchField) → HasEnds nodes f → leads_from root f ≡ is_root fields f.tail
only_from_root nodes fields root one f ends =
    let only = only_root_from_roots nodes fields root one in
    elim (cases_eq root f.tail) [
      | inl same ↦ eq-eqb f.tail root (sym same) ∙ sym (subst (λ (v : ℕ). is_root fields v ≡ true) same (ap not (no_arc_leads root fields only.no_patch)))
      | inr apart ↦ ne_eqb f.tail root (λ same. apart (sym same)) ∙ sym (only.others f.tail ends.tail apart)
    ]

pub base_is_marked : (mesh : MeshLists) → IsMesh mesh → (p : ℕ) → is_from mesh.index.fields mesh.root p ≡ is_marked (base_marks mesh.index.fields) p
base_is_marked mesh accepted p =
    let fields = mesh.index.fields in
    let nodes = length mesh.index.nodes in
    same_marks (leads_from mesh.root) (λ f. is_root fields f.tail) fields
    (each_then (HasEnds nodes) (λ f. leads_from mesh.root f ≡ is_root fields f.tail) fields
    (only_from_root nodes fields mesh.root accepted.graph.one_root) (each_has_ends mesh.index accepted.rules)) p

-- ---- the opening

pub opened_count : (index : IndexLists) (body : ℕ → SeenBody) (budgets : List ℕ) (width : ℕ) → length (opened_tiers index body budgets width) ≡ length budgets
unfolding opened_tiers
opened_count index body [] width = refl
opened_count index body (b ∷ bs) width = ap suc (length-map bs (λ c. fresh index c width))

-- each tier below the top is fresh, with its budget
fresh_at : (index : IndexLists) (budgets : List ℕ) (width k : ℕ) (t : TierState) → slice_get (map (λ b. fresh index b width) budgets) k ≡ Some t → (budget : ℕ) × (slice_get budgets k ≡ Some budget) × (fresh index budget width ≡ t)
fresh_at index [] width k t at = absurd (cc)
fresh_at index (b ∷ bs) width zero t at = (b, refl, same_Some (fresh index b width) t at)
fresh_at index (b ∷ bs) width (suc k) t at = fresh_at index bs width k t at

top_opened : (index : IndexLists) (body : ℕ → SeenBody) (budgets : List ℕ) (width : ℕ) (t : TierState) → slice_get (opened_tiers index body budgets width) 0 ≡ Some t → (budget : ℕ) × (slice_get budgets 0 ≡ Some budget) × (opened_top index body budget width ≡ t)
unfolding opened_tiers
top_opened index body [] width t at = absurd (cc)
top_opened index body (b ∷ bs) width t at = (b, refl, same_Some (opened_top index body b width) t at)

lower_opened : (index : IndexLists) (body : ℕ → SeenBody) (budgets : List ℕ) (width k : ℕ) (t : TierState) → slice_get (opened_tiers index body budgets width) (suc k) ≡ Some t → (budget : ℕ) × (slice_get budgets (suc k) ≡ Some budget) × (fresh index budget width ≡ t)
unfolding opened_tiers
lower_opened index body [] width k t at = absurd (cc)
lower_opened index body (b ∷ bs) width k t at = fresh_at index bs width k t at

odd_mark : (mark : Bool) → is_odd (if mark then 1 else 0) ≡ true → mark ≡ true
odd_mark true odd = refl
odd_mark false odd = absurd (cc)

module _ (w : World) (world : IsWorld w) (holds : HoldsBase w) (body : ℕ → SeenBody) (bodies : AreBaseBodies w body) where
  of_world_fresh : (k budget : ℕ) → slice_get w.budgets k ≡ Some budget → IsTierOf w k (fresh w.mesh.index budget w.width)
  unfolding fresh
  of_world_fresh k budget at =
      record {
        tier = IsTier-fresh w.mesh.index budget w.width world.wide;
        set_up = record { made = made-fresh w.mesh.index budget w.width; budget = at; width = refl };
        bodies = record {
          held = λ p b there. absurd (none_there (length w.mesh.index.fields) p b there);
          came = λ p b there. absurd (none_there (length w.mesh.index.fields) p b there);
        };
      }

  fits_base : (budget : ℕ) → slice_get w.budgets 0 ≡ Some budget → FitsBase w.mesh.index body budget
  fits_base budget at = record {
    fits = holds.fits budget at;
    bodies = λ p marked. (bodies.each p (base_is_marked w.mesh world.mesh p ∙ marked)).of_patch;
  }

  opened_is_marked : (budget p : ℕ) (b : SeenBody) → slice_get w.budgets 0 ≡ Some budget → slice_get (opened_top w.mesh.index body budget w.width).held p ≡ Some (Some b) → is_marked (base_marks w.mesh.index.fields) p ≡ true
  unfolding opened
  opened_is_marked budget p b at there =
      let top = opened_top w.mesh.index body budget w.width in
      let tier = IsTier-opened_top w.mesh.index body budget w.width world.wide (fits_base budget at) in
      let sized = tier.sized.held in
      let inside = slice_get_within top.held p (Some b) there in
      odd_mark (is_marked (base_marks w.mesh.index.fields) p)
      ((tied-opened w.mesh.index body w.budgets budget w.width).held p (omega arith) ∙ ap (λ (o : Option SeenBody). is_some o) (body_is_there top.held p b there))

  of_world_top : (budget : ℕ) → slice_get w.budgets 0 ≡ Some budget → IsTierOf w 0 (opened_top w.mesh.index body budget w.width)
  unfolding opened_top fresh
  of_world_top budget at = record {
    tier = IsTier-opened_top w.mesh.index body budget w.width world.wide (fits_base budget at);
    set_up = record { made = made-opened_top w.mesh.index body budget w.width; budget = at; width = refl };
    bodies = record {
      held = λ p b there.
          subst (IsFileBody w p) (sym ((file-opened_top w.mesh.index body budget w.width).held p b there))
          (bodies.each p (base_is_marked w.mesh world.mesh p ∙ opened_is_marked budget p b at there));
      came = λ p b there. absurd (none_there (length w.mesh.index.fields) p b there);
    };
  }

  opened_each : (k : ℕ) (t : TierState) → slice_get (opened_tiers w.mesh.index body w.budgets w.width) k ≡ Some t → IsTierOf w k t
  opened_each zero t at = let is = top_opened w.mesh.index body w.budgets w.width t at in subst (IsTierOf w 0) is.2 (of_world_top is.0 is.1)
  opened_each (suc k) t at = let is = lower_opened w.mesh.index body w.budgets w.width k t at in subst (IsTierOf w (suc k)) is.2 (of_world_fresh (suc k) is.0 is.1)

  pub opening_sound : IsSound w (opening w body)
  unfolding opening opened fresh
  opening_sound = record {
    many = opened_count w.mesh.index body w.budgets w.width;
    tiers = opened_each;
    tied = record {
      top = λ t at.
          let is = top_opened w.mesh.index body w.budgets w.width t at in
          let epochs = (opened w.mesh.index body w.budgets w.width).epochs in
          subst (λ (s : TierState). IsTied s epochs (is_base w)) is.2
          (tied-again (opened_top w.mesh.index body is.0 w.width) epochs epochs (is_marked (base_marks w.mesh.index.fields)) (is_base w) (λ p. refl) (base_is_marked w.mesh world.mesh)
          (tied-opened w.mesh.index body w.budgets is.0 w.width));
    };
    no_pins = λ k t p at.
        let is = lower_opened w.mesh.index body w.budgets w.width k t at in
        subst (λ (s : TierState). is_marked s.pinned p ≡ false) is.2 (none_left_over (length w.mesh.index.fields) p);
    base_odd = λ p base. rw (sym (base_is_marked w.mesh world.mesh p) ∙ base) refl;
    seats = λ i s at. absurd (cc);
    sets = λ i p. refl;
  }

  pub opening_safe : IsSafe w (opening w body)
  opening_safe = sound_safe w (opening w body) world opening_sound
