-- The settling of a bench run takes three turns for each patch outside the base, and the idle one.
use Rattle.std.proofs.Common.{◌≡◌, ℕ, zero, suc, ◌+◌, ◌<◌, ◌≤◌, Bool, true, false, not, ◌&&◌, ◌||◌, cond, ltb, List, [], ◌∷◌, length, Option, Some, None, is_some, refl, sym, ap, subst, ◌∙◌, arith, append-nil}
use Rattle.std.proofs.Math.Path.{fun_ext}
use Rattle.std.specs.Prelude.{slice_get, slice_index_or}
use Rattle.std.proofs.lemmas.Bool.{or_left}
use Rattle.std.proofs.lemmas.List.{length-map}
use Rattle.file_model.specs.declared.fields.PatchField.{PatchField}
use Rattle.file_model.specs.Lists.{SeenBody, body_size}
use Rattle.file_model.specs.Tries.{is_odd}
use Rattle.mesh_model.specs.Graph.{leads_from, patches_from}
use Rattle.mesh_model.specs.Meshes.{IsMesh}
use Rattle.mesh_laws.specs.Bases.{base_patches}
use Rattle.script_model.specs.declared.orders.Order.TheVariants as orders
use Rattle.round_laws.specs.Arcs.{passes_at, is_from}
use Rattle.strip_laws.specs.Strip.{strip_nodes, strip_patches, fields_of}
use Rattle.strip_laws.specs.StripCounts.{patch_count, field_count}
use Rattle.strip_laws.specs.StripFrames.{base_patch_count}
use Rattle.tier_model.specs.declared.turns.Coming.{Coming}
use Rattle.tier_model.specs.declared.turns.Turn.{Turn}
use Rattle.tier_model.specs.Places.{is_marked, is_coming}
use Rattle.tier_model.specs.Tiers.{TierState, count, kept_wish, is_held, base_marks}
use Rattle.tier_model.specs.Changes.{fresh}
use Rattle.tier_model.specs.Turns.{Board, begun}
use Rattle.tier_laws.specs.TurnLaws.{begun_places, begun_wishes}
use Rattle.tier_model.specs.Chains.{Chain, told_at, opened_top, opened_tiers, opened}
use Rattle.tier_laws.specs.OpeningLaws.{tied-opened}
use Rattle.tier_model.specs.Settling.{Settles, Settled, Tier}
use Rattle.settling_laws.specs.Stages.{sum_below}
use Rattle.detail_laws.specs.Needs.{GoWell}
use Rattle.detail_laws.specs.NeedLaws.{sum_from_first}
use Rattle.detail_laws.specs.TurnsLeft.{turns_left, HoldsNeeded}
use Rattle.detail_laws.specs.ExactTurns.{IsStraight, straight-begins, exact_turns, BeginsWithBase, turns_beside_base}
use Rattle.detail_laws.specs.Reached.{wanted_is_wished, store_has}
use Rattle.run_model.specs.Worlds.{World}
use Rattle.run_model.specs.States.{State, board_of}
use Rattle.run_laws.specs.OpeningLaws.{base_is_marked}
use Rattle.run_model.specs.Lines.{DidOpen, DidView, SettlesTo, Does}
use Rattle.run_model.specs.RunTexts.{IsOpening, turn_outcomes}
use Rattle.bench_laws.specs.Settlings.{NeverFails, passed_or_used}
use Rattle.bench_laws.specs.SettledFrames.{are_ready, settled, is_posted}
use Rattle.bench_laws.specs.BenchRuns.{bench_budget, bench_view, bench_turns}
use Rattle.bench_laws.specs.StripViews.{strip_mesh, bench_rules, is_of_wanted}
use Rattle.bench_laws.specs.BenchOpening.{bench_world, is_world, safe, kept, bases, ready, show, tiers_are, low}

-- ---- how many patches are of the base

counted_here : (here : Bool) (k : ℕ) (ks : List ℕ) (n : ℕ) → length ks ≡ n → length (cond here (k ∷ ks) ks) ≡ cond here 1 0 + n
counted_here true k ks n many = omega arith
counted_here false k ks n many = omega arith

passing_count : (test : PatchField → Bool) (k : ℕ) (fields : List PatchField) → length (patches_from k test fields) ≡ sum_below (length fields) (λ p. cond (passes_at test fields p) 1 0)
unfolding patches_from sum_below
passing_count test k [] = refl
passing_count test k (f ∷ fs) =
    let rest = passing_count test (k + 1) fs in
    counted_here (test f) k (patches_from (k + 1) test fs) (sum_below (length fs) (λ p. cond (passes_at test fs p) 1 0)) rest
    ∙ sym (sum_from_first (length fs) (λ p. cond (passes_at test (f ∷ fs) p) 1 0))

base_count : (c : ℕ) → 2 ≤ c → (levels : List ℕ) → IsMesh (strip_mesh c levels) → sum_below (length (fields_of (strip_patches c))) (λ p. cond (is_marked (base_marks (fields_of (strip_patches c))) p) 1 0) ≡ c
base_count c some levels mesh =
    let fields = fields_of (strip_patches c) in
    let same : is_from fields 0 ≡ is_marked (base_marks fields) = fun_ext (base_is_marked (strip_mesh c levels) mesh) in
    ap (λ (marked : ℕ → Bool). sum_below (length fields) (λ p. cond (marked p) 1 0)) (sym same)
    ∙ sym (passing_count (leads_from 0) 0 fields)
    ∙ ap (λ (ps : List ℕ). length ps) (sym (base_patches (length (strip_nodes c)) fields 0 mesh.graph.one_root))
    ∙ base_patch_count c (omega arith)

-- ---- one tier

one_tier : (board : Board) (used : ℕ → ℕ → Bool) (a b : Chain) (log : List (ℕ × Turn)) (s : TierState) → Settles board 1 a log b → slice_get a.tiers 0 ≡ Some s → GoWell used log → IsStraight board 0 a (used 0) s → length log ≡ turns_left (told_at a 0) (begun board s) + 1
one_tier board used a b _ s (Tier {log = log} turns Settled) at well straight =
    let none = append-nil log in
    ap (λ (l : List (ℕ × Turn)). length l) none ∙ exact_turns board used 0 a b log s turns at (subst (GoWell used) none well) straight

odd_where : (mark : Bool) → is_odd (cond mark 1 0) ≡ mark
odd_where true = refl
odd_where false = refl

module _ (c : ℕ) (some : 2 ≤ c) (few : c ≤ 16384) (levels : List ℕ) (mesh : IsMesh (strip_mesh c levels)) (first b d : State) (opens : IsOpening (bench_world c levels) first) (begins : Does (bench_world c levels) first (orders.Open 1) (DidOpen 1) b) (sees : Does (bench_world c levels) b (orders.View 1 (bench_view c)) (DidView 1) d) where
  abbrev w : World
  w = bench_world c levels

  abbrev fields : List PatchField
  fields = fields_of (strip_patches c)

  abbrev board : Board
  board = board_of w d

  abbrev top : TierState
  top = opened_top w.mesh.index opens.body (bench_budget c) w.width

  top_at : slice_get d.chain.tiers 0 ≡ Some top
  unfolding opened_tiers
  top_at = ap (λ (tiers : List TierState). slice_get tiers 0) (tiers_are c some few levels mesh first b d opens begins sees)

  top_count : count top ≡ length fields
  unfolding opened_top fresh
  top_count = length-map fields (body_size 1)

  top_base : top.base ≡ base_marks fields
  unfolding opened_top fresh
  top_base = refl

  top_pins : top.pinned ≡ base_marks fields
  unfolding opened_top
  top_pins = refl

  top_comes : top.coming ≡ []
  unfolding opened_top fresh
  top_comes = refl

  top_holds : (p : ℕ) → p < count top → is_held top p ≡ is_marked (base_marks fields) p
  unfolding opened
  top_holds p within =
      sym ((tied-opened w.mesh.index opens.body w.budgets (bench_budget c) w.width).held p within) ∙ odd_where (is_marked (base_marks fields) p)

  abbrev now : TierState
  now = begun board top

  now_count : count now ≡ length fields
  now_count = ap (λ (sizes : List ℕ). length sizes) (begun_places board top).sizes ∙ top_count

  now_holds : (p : ℕ) → p < count now → is_held now p ≡ is_marked (base_marks fields) p
  now_holds p within =
      let places = begun_places board top in
      ap (λ (held : List (Option SeenBody)). is_some (slice_index_or held p None)) places.held ∙ top_holds p (let many = ap (λ (sizes : List ℕ). length sizes) places.sizes in omega arith)

  now_base : now.base ≡ base_marks fields
  now_base = (begun_places board top).base ∙ top_base

  now_pins : now.pinned ≡ base_marks fields
  now_pins = (begun_places board top).pinned ∙ top_pins

  now_comes : now.coming ≡ []
  now_comes = (begun_places board top).coming ∙ top_comes

  one_there : length d.chain.tiers ≡ 1
  one_there = (safe c some few levels mesh first b d opens begins sees).many

  field_at : (p : ℕ) → p < length fields → (f : PatchField) × (slice_get fields p ≡ Some f)
  field_at p within = at fields p within
    where
      at : (fs : List PatchField) (k : ℕ) → k < length fs → (f : PatchField) × (slice_get fs k ≡ Some f)
      at [] k below = absurd (omega arith)
      at (f ∷ fs) zero below = (f, refl)
      at (f ∷ fs) (suc k) below = at fs k (omega arith)

  now_wished : (p : ℕ) → p < count now → is_marked now.base p ≡ false → 0 < kept_wish now p
  now_wished p within free =
      let many = now_count in
      let found = field_at p (omega arith) in
      let of_wanted = is_of_wanted c some few levels p found.0 found.1 (sym (ap (λ (marks : List Bool). is_marked marks p) now_base) ∙ free) in
      let wished = wanted_is_wished (bench_rules c levels) board p (is_posted w (is_world c some few levels mesh) d (safe c some few levels mesh first b d opens begins sees) (kept c some few levels mesh first b d opens begins sees) (bases c some few levels mesh first b d opens begins sees) (ready c some few levels mesh first b d opens begins sees) 1 (bench_view c) (show c some few levels mesh first b d opens begins sees)) of_wanted in
      let same = begun_wishes board top ((kept c some few levels mesh first b d opens begins sees).wishes.wishes 0 top top_at) p (let places = begun_places board top in let alike = ap (λ (sizes : List ℕ). length sizes) places.sizes in omega arith) in
      subst (λ (n : ℕ). 0 < n) (sym same) wished

  begins_with_base : BeginsWithBase (told_at d.chain 0) now
  begins_with_base = record {
    none_comes = now_comes;
    held = λ p within. now_holds p within ∙ sym (ap (λ (marks : List Bool). is_marked marks p) now_base);
    wished = now_wished;
    has = λ p within free. store_has d.chain.tiers 0 p one_there;
  }

  needed : HoldsNeeded (told_at d.chain 0) (passed_or_used d 0) now
  unfolding is_coming
  needed = record {
    held = λ p within held. or_left (is_marked now.pinned p) (not (is_marked now.base p) && (ltb 0 (kept_wish now p) || passed_or_used d 0 p)) (ap (λ (marks : List Bool). is_marked marks p) now_pins ∙ sym (now_holds p within) ∙ held);
    coming = λ p comes. absurd (let none = ap (λ (cs : List Coming). is_coming cs p) now_comes in cc);
  }

  pub so_many_turns : (e : State) (log : List (ℕ × Turn)) → SettlesTo w (length w.budgets) d log e → NeverFails (turn_outcomes w log) → length log ≡ bench_turns c
  so_many_turns e log settles never =
      let world = is_world c some few levels mesh in
      let is_safe = safe c some few levels mesh first b d opens begins sees in
      let is_kept = kept c some few levels mesh first b d opens begins sees in
      let are_kept = bases c some few levels mesh first b d opens begins sees in
      let is_ready = ready c some few levels mesh first b d opens begins sees in
      let used = passed_or_used d in
      let are = are_ready w world d is_safe is_kept are_kept is_ready in
      let after = settled w world d is_safe is_kept are_kept is_ready e log settles never in
      let straight = straight-begins board 0 d.chain (used 0) top (are.each 0 top (omega (arith, one_there)) top_at) (λ p within. low c some few levels mesh first b d opens begins sees p) needed in
      let turns = one_tier board used d.chain e.chain log top after.chain top_at after.well straight in
      let beside = turns_beside_base (told_at d.chain 0) now begins_with_base in
      let base : sum_below (count now) (λ p. cond (is_marked now.base p) 1 0) ≡ c =
      ap (λ (n : ℕ). sum_below n (λ p. cond (is_marked now.base p) 1 0)) now_count
      ∙ ap (λ (marks : List Bool). sum_below (length fields) (λ p. cond (is_marked marks p) 1 0)) now_base
      ∙ base_count c some levels mesh in
      let many = now_count in
      let patches = patch_count c (omega arith) in
      let counted = field_count c in
      omega arith
