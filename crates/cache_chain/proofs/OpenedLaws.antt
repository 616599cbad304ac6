-- A chain that opens is a chain.
use Rattle.std.proofs.Common.{◌≡◌, ℕ, zero, suc, ◌<◌, ◌≤◌, false, List, [], ◌∷◌, ◌++◌, length, map, take, drop, replicate, Option, Some, refl, sym, ap, ap₂, subst, ◌∙◌, arith}
use Rattle.std.specs.Prelude.{slice_get, slice_set, slice_index, slice_index_or, All, IfSome}
use Rattle.std.specs.List.{AllByRecursion}
use Rattle.std.proofs.lemmas.List.{length-map}
use Rattle.std.proofs.lemmas.List.Elements.{recursion_from_All}
use Rattle.std.proofs.lemmas.Option.{same_Some}
use Rattle.file_model.specs.Lists.{IndexLists, SeenBody}
use Rattle.file_model.specs.Rules.{IsIndex}
use Rattle.mesh_model.specs.Accepted.{IsNestedGraph}
use Rattle.mesh_model.specs.Graph.{leads_from, outgoing}
use Rattle.mesh_model.specs.Meshes.{MeshLists, IsMesh}
use Rattle.view_outside.specs.Faults.{Rose}
use Rattle.view_outside.specs.OnlyRead.{OnlyIf}
use Rattle.view_outside.specs.Taken.{RisesBelow}
use Rattle.tier_budget.specs.TierView.{TierSeen}
use Rattle.body_loads.specs.declared.refusals.LoadRefusal.{LoadRefusal}
use Rattle.body_loads.specs.declared.refusals.LoadRefusal.TheVariants as loads
use Rattle.patch_file.specs.BodyRead.{IsBodyOf}
use Rattle.tier_model.specs.Places.{is_marked}
use Rattle.tier_model.specs.Tiers.{TierState, IsWidth, IsBodyFor, sizes_of, base_marks}
use Rattle.tier_model.specs.Changes.{fresh}
use Rattle.tier_model.specs.Chains.{opened_top, opened_tiers}
use Rattle.tier_laws.specs.BodyLaws.{none_there}
use Rattle.tier_laws.specs.OpeningLaws.{IsTier-fresh, made-fresh, IsTier-opened_top, made-opened_top, each-opened}
use Rattle.body_loads.specs.Loads.{AreBodiesAt, sizes_sum, patches_of}
use Rattle.body_loads.specs.PatchLists.{chosen_below}
use Rattle.cache_chain.specs.ChainStates.{states_of, IsFileBody, IsTierOf, AreTiersOf}
use Rattle.cache_chain.specs.Opening.{IsOpened, with_pins}
use Rattle.cache_chain.specs.BaseLaws.{base_leads_from_root}
use Rattle.cache_chain.specs.Refusals.{refused_load, HasReason}
use Rattle.cache_chain.proofs.ListParts.{first_written}
use Rattle.cache_chain.proofs.PinLaws.{OpensTop, opens_top}
use Rattle.cache_chain.proofs.LoadedBodies.{AreOwn, bodies_below, bodies_for, bytes_are, bodies_of_file, both_hold}

-- of the patch, and of the file
abbrev pub IsRight : IndexLists → Option (List ℕ) → ℕ → SeenBody → Type 0
IsRight index bytes p b = IsBodyFor (sizes_of index) p b × IsFileBody index bytes p b

-- the tier that loaded these bodies opens as the top
pub loads_open : (index : IndexLists) (root : ℕ) (bytes : Option (List ℕ)) (budget width : ℕ) (bodies : List SeenBody) → IsIndex index → IsNestedGraph index root → patches_of bodies ≡ outgoing index.fields root → AreOwn index bodies → IfSome bytes (λ bs. AreBodiesAt index bs (outgoing index.fields root) bodies) → sizes_sum index (outgoing index.fields root) ≤ budget → OpensTop index budget width (IsRight index bytes) bodies
loads_open index root bytes budget width bodies rules nested patches own told few =
    let below = bodies_below index bodies (subst (AllByRecursion (λ p. p < length index.fields)) (sym patches) (recursion_from_All (λ p. p < length index.fields) (outgoing index.fields root) (chosen_below (leads_from root) index.fields))) in
    let right = bodies_for index bodies below own in
    let files = bodies_of_file index bytes (outgoing index.fields root) bodies patches own told in
    let bytes_same = bytes_are index bodies below own ∙ ap (sizes_sum index) patches in
    opens_top index budget width (IsRight index bytes) (leads_from root) bodies (base_leads_from_root index root rules nested) patches right
    (both_hold (λ b. IsBodyFor (sizes_of index) b.patch b) (λ b. IsFileBody index bytes b.patch b) bodies right files) (omega arith)

-- ---- its tiers

fresh_tier : (index : IndexLists) (bytes : Option (List ℕ)) (budget width : ℕ) → IsWidth width → IsTierOf index bytes (fresh index budget width)
unfolding fresh
fresh_tier index bytes budget width wide = record {
  tier = IsTier-fresh index budget width wide;
  made = made-fresh index budget width;
  bodies = record { held = λ p b at. absurd (none_there (length index.fields) p b at); came = λ p b at. absurd (none_there (length index.fields) p b at) };
}

top_tier : (index : IndexLists) (bytes : Option (List ℕ)) (budget width : ℕ) (bodies : List SeenBody) → IsWidth width → (top : OpensTop index budget width (IsRight index bytes) bodies) → IsTierOf index bytes (opened_top index top.body budget width)
unfolding opened_top fresh
top_tier index bytes budget width bodies wide top = record {
  tier = IsTier-opened_top index top.body budget width wide (record { fits = top.fits; bodies = λ p marked. (top.right p marked).0 });
  made = made-opened_top index top.body budget width;
  bodies = record { held = λ p b at. (top.each p b at).1; came = λ p b at. absurd (none_there (length index.fields) p b at) };
}

top_pins : (index : IndexLists) (body : ℕ → SeenBody) (budget width : ℕ) (budgets : List ℕ) (s : TierState) → slice_get (opened_tiers index body (budget ∷ budgets) width) 0 ≡ Some s → s.pinned ≡ base_marks index.fields
unfolding opened_tiers opened_top
top_pins index body budget width budgets s at = ap (λ (t : TierState). t.pinned) (sym (same_Some (opened_top index body budget width) s at))

none_marked : (n p : ℕ) → is_marked (replicate n false) p ≡ false
none_marked zero p = refl
none_marked (suc n) zero = refl
none_marked (suc n) (suc p) = none_marked n p

fresh_pins : (index : IndexLists) (width : ℕ) (budgets : List ℕ) (k p : ℕ) (s : TierState) → slice_get (map (λ b. fresh index b width) budgets) k ≡ Some s → is_marked s.pinned p ≡ false
unfolding fresh
fresh_pins index width [] k p s at = absurd (cc)
fresh_pins index width (b ∷ bs) zero p s at = ap (λ (t : TierState). is_marked t.pinned p) (sym (same_Some (fresh index b width) s at)) ∙ none_marked (length index.fields) p
fresh_pins index width (b ∷ bs) (suc k) p s at = fresh_pins index width bs k p s at

lower_pins : (index : IndexLists) (body : ℕ → SeenBody) (budget width : ℕ) (budgets : List ℕ) (k p : ℕ) (s : TierState) → slice_get (opened_tiers index body (budget ∷ budgets) width) (suc k) ≡ Some s → is_marked s.pinned p ≡ false
unfolding opened_tiers
lower_pins index body budget width budgets k p s at = fresh_pins index width budgets k p s at

many_tiers : (index : IndexLists) (body : ℕ → SeenBody) (budget width : ℕ) (budgets : List ℕ) → length (opened_tiers index body (budget ∷ budgets) width) ≡ length (budget ∷ budgets)
unfolding opened_tiers
many_tiers index body budget width budgets = ap suc (length-map budgets (λ b. fresh index b width))

opens_as : (index : IndexLists) (budget : ℕ) (budgets : List ℕ) (width : ℕ) (P : ℕ → SeenBody → Type 0) (bodies : List SeenBody) (tiers : List TierState) → (top : OpensTop index budget width P bodies) → tiers ≡ with_pins (fresh index budget width) bodies ∷ map (λ b. fresh index b width) budgets → tiers ≡ opened_tiers index top.body (budget ∷ budgets) width
unfolding opened_tiers
opens_as index budget budgets width P bodies tiers top are = are ∙ ap (λ (s : TierState). s ∷ map (λ b. fresh index b width) budgets) top.is

-- the first tier pinned the bodies, and each other is as it was made
pub opened_from : (index : IndexLists) (bytes : Option (List ℕ)) (budgets : List ℕ) (width : ℕ) (bodies : List SeenBody) (tiers : List TierState) → 1 ≤ length budgets → OpensTop index (slice_index budgets 0) width (IsRight index bytes) bodies → tiers ≡ slice_set (map (λ b. fresh index b width) budgets) 0 (with_pins (fresh index (slice_index budgets 0) width) bodies) → IsOpened index bytes budgets width tiers
opened_from index bytes [] width bodies tiers some_budget top are = absurd (omega arith)
opened_from index bytes (budget ∷ budgets) width bodies tiers some_budget top are = record {
  body = top.body;
  right = λ p marked. (top.right p marked).1;
  is = opens_as index budget budgets width (IsRight index bytes) bodies tiers top are;
}

pub chain_from : (index : IndexLists) (bytes : Option (List ℕ)) (budgets : List ℕ) (width : ℕ) (bodies : List SeenBody) (tiers : List TierState) → 1 ≤ length budgets → length budgets ≤ 4 → IsWidth width → OpensTop index (slice_index budgets 0) width (IsRight index bytes) bodies → tiers ≡ slice_set (map (λ b. fresh index b width) budgets) 0 (with_pins (fresh index (slice_index budgets 0) width) bodies) → AreTiersOf index bytes tiers
chain_from index bytes [] width bodies tiers some_budget few wide top are = absurd (omega arith)
chain_from index bytes (budget ∷ budgets) width bodies tiers some_budget few wide top are =
    let opened : tiers ≡ opened_tiers index top.body (budget ∷ budgets) width = opens_as index budget budgets width (IsRight index bytes) bodies tiers top are in
    let many = many_tiers index top.body budget width budgets in
    subst (AreTiersOf index bytes) (sym opened) (record {
      some_tier = omega arith;
      few_tiers = omega arith;
      each = each-opened index top.body (IsTierOf index bytes) budget budgets width (top_tier index bytes budget width bodies wide top) (λ b. fresh_tier index bytes b width wide);
      top = λ s at. top_pins index top.body budget width budgets s at;
      others = λ k s p at. lower_pins index top.body budget width budgets k p s at;
    })

-- ---- as the code has it

-- the bodies that were loaded of the base patches of a mesh
pub base_opens : (mesh : MeshLists) (index : IndexLists) (base : List ℕ) (bytes : Option (List ℕ)) (budget width : ℕ) (bodies : List SeenBody) → IsMesh mesh → index ≡ mesh.index → base ≡ outgoing mesh.index.fields mesh.root → patches_of bodies ≡ base → All (λ (b : SeenBody). IsBodyOf index b.patch b) bodies → IfSome bytes (λ bs. AreBodiesAt index bs base bodies) → sizes_sum index base ≤ budget → OpensTop mesh.index budget width (IsRight mesh.index bytes) bodies
base_opens mesh index base bytes budget width bodies facts same based patches own told few =
    loads_open mesh.index mesh.root bytes budget width bodies facts.rules facts.graph (patches ∙ based)
    (subst (λ (i : IndexLists). AreOwn i bodies) same (recursion_from_All (λ (b : SeenBody). IsBodyOf index b.patch b) bodies own))
    (subst (λ (i : IndexLists). IfSome bytes (λ bs. AreBodiesAt i bs (outgoing mesh.index.fields mesh.root) bodies)) same (subst (λ (ps : List ℕ). IfSome bytes (λ bs. AreBodiesAt index bs ps bodies)) based told))
    (subst (λ (n : ℕ). n ≤ budget) (ap₂ sizes_sum same based) few)

first_fresh : (index : IndexLists) (budgets : List ℕ) (width : ℕ) (tiers : List TierSeen) (d : TierSeen) → 1 ≤ length budgets → states_of tiers ≡ map (λ b. fresh index b width) budgets → (slice_index_or tiers 0 d).state ≡ fresh index (slice_index budgets 0) width
first_fresh index [] width tiers d some_budget are = absurd (omega arith)
first_fresh index (budget ∷ budgets) width [] d some_budget are = absurd (cc)
first_fresh index (budget ∷ budgets) width (t ∷ tiers) d some_budget are = cc

-- the first of the fresh tiers
pub fresh_first : (mesh : MeshLists) (index : IndexLists) (budgets : List ℕ) (width : ℕ) (items lent : List TierSeen) (d : TierSeen) → 1 ≤ length budgets → index ≡ mesh.index → states_of items ≡ map (λ b. fresh index b width) budgets → lent ≡ items → (slice_index_or lent 0 d).state ≡ fresh mesh.index (slice_index budgets 0) width
fresh_first mesh index budgets width items lent d some_budget same are lends =
    ap (λ (ts : List TierSeen). (slice_index_or ts 0 d).state) lends ∙ first_fresh index budgets width items d some_budget are ∙ ap (λ (i : IndexLists). fresh i (slice_index budgets 0) width) same

-- it pinned the bodies
pub first_pinned : (mesh : MeshLists) (index : IndexLists) (budgets : List ℕ) (width : ℕ) (bodies : List SeenBody) (items lent : List TierSeen) (t d : TierSeen) → 1 ≤ length budgets → index ≡ mesh.index → states_of items ≡ map (λ b. fresh index b width) budgets → lent ≡ items → t.state ≡ with_pins (slice_index_or lent 0 d).state bodies
    → states_of (take (length items) (slice_set lent 0 t ++ drop (length (slice_set lent 0 t)) items)) ≡ slice_set (map (λ b. fresh mesh.index b width) budgets) 0 (with_pins (fresh mesh.index (slice_index budgets 0) width) bodies)
first_pinned mesh index budgets width bodies items lent t d some_budget same are lends pinned =
    ap (λ (ts : List TierSeen). states_of (take (length items) (slice_set ts 0 t ++ drop (length (slice_set ts 0 t)) items))) lends
    ∙ first_written items t
    ∙ ap₂ (λ (ss : List TierState) (s : TierState). slice_set ss 0 s) (are ∙ ap (λ (i : IndexLists). map (λ b. fresh i b width) budgets) same)
    (pinned ∙ ap (λ (s : TierState). with_pins s bodies) (fresh_first mesh index budgets width items lent d some_budget same are lends))

-- ---- refusals

pub refused_reason : (need faults faults_now bytes bytes_now : ℕ) (refusal : LoadRefusal) → OnlyIf loads.ReadFault (Rose faults faults_now) refusal → OnlyIf loads.ReadFault (RisesBelow bytes bytes_now need) refusal → HasReason need faults faults_now bytes bytes_now (refused_load refusal)
refused_reason need faults faults_now bytes bytes_now (loads.Changed patch fault) rose cut = tt
refused_reason need faults faults_now bytes bytes_now loads.ReadFault rose cut = (rose refl, cut refl)
refused_reason need faults faults_now bytes bytes_now loads.Memory rose cut = tt
