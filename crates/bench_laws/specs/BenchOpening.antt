-- Before the settling of a bench run each tier has room, and the view is one that can be shown.
use Rattle.std.proofs.Common.{◌≡◌, ℕ, zero, suc, ◌+◌, ◌<◌, ◌≤◌, Bool, true, false, cond, List, [], ◌∷◌, length, map, Option, Some, None, refl, sym, ap, subst, ◌∙◌, arith}
use Rattle.std.specs.Prelude.{slice_get}
use Rattle.std.proofs.lemmas.Option.{same_Some}
use Rattle.file_model.specs.declared.fields.PatchField.{PatchField}
use Rattle.file_model.specs.Lists.{body_size, bodies_size}
use Rattle.mesh_model.specs.Meshes.{IsMesh}
use Rattle.round_model.specs.Views.{ViewSeen}
use Rattle.script_model.specs.declared.orders.Order.TheVariants as orders
use Rattle.session_model.specs.Sessions.{SessionState, round_ended, opened as session_opened, with_view}
use Rattle.session_model.specs.SessionStates.{unprinted_round}
use Rattle.strip_laws.specs.Strip.{strip_patches, fields_of}
use Rattle.strip_laws.specs.StripCounts.{bodies_size_1}
use Rattle.strip_laws.specs.StripRules.{strip_is_accepted}
use Rattle.token_words.specs.declared.keeping.TheConstants.{LAST_EPOCH}
use Rattle.tier_model.specs.Places.{is_marked, marked_bytes}
use Rattle.tier_model.specs.Tiers.{TierState, count, size, base_marks}
use Rattle.tier_model.specs.Chains.{Chain, opened_tiers, opened}
use Rattle.detail_laws.specs.Needs.{KeepsBase, IsCalm, is_needed, needed_bytes}
use Rattle.detail_laws.specs.NeedLaws.{sum_grows, marked_is_sum}
use Rattle.detail_laws.specs.BaseLaws.{base-opened}
use Rattle.run_model.specs.Worlds.{World, patch_count, IsWorld, HoldsBase}
use Rattle.run_model.specs.States.{State, board_of, posted_by, seated, posting, opening}
use Rattle.run_model.specs.Safe.{IsSafe}
use Rattle.run_laws.specs.SessionReach.{seat_at}
use Rattle.run_laws.specs.RunLaws.{does_keeps_safe, opened_is_safe}
use Rattle.run_model.specs.Kept.{IsKept}
use Rattle.run_laws.specs.KeptLaws.{opening_kept, does_kept}
use Rattle.run_model.specs.Lines.{Did, DidOpen, DidView, Does, DoesOpen, DoesView}
use Rattle.run_model.specs.RunTexts.{IsOpening}
use Rattle.run_laws.specs.PrintedFrames.{IsTold}
use Rattle.bench_laws.specs.Settlings.{passed_or_used, KeepsBases, IsReadyToSettle, IsReadyToShow}
use Rattle.bench_laws.specs.BenchRuns.{bench_file, bench_budget, bench_view}
use Rattle.bench_laws.specs.StripViews.{strip_mesh, fits_all}

-- ---- room

marked_within : (version : ℕ) (fields : List PatchField) (marks : List Bool) → marked_bytes (map (body_size version) fields) marks ≤ bodies_size version fields
unfolding marked_bytes bodies_size
marked_within version [] marks = omega arith
marked_within version (f ∷ fs) [] = omega arith
marked_within version (f ∷ fs) (m ∷ ms) =
    let rest = marked_within version fs ms in
    let one = at_most m (body_size version f) in
    omega arith
  where
    at_most : (b : Bool) (n : ℕ) → cond b n 0 ≤ n
    at_most true n = omega arith
    at_most false n = omega arith

all_marked : (sizes : List ℕ) (p : ℕ) → p < length sizes → is_marked (map (λ (n : ℕ). true) sizes) p ≡ true
all_marked [] p within = absurd (omega arith)
all_marked (n ∷ ns) zero within = refl
all_marked (n ∷ ns) (suc p) within = all_marked ns p (omega arith)

-- what is needed is at most all that there is
needed_within : (version : ℕ) (fields : List PatchField) (t : TierState) (wish : ℕ → ℕ) (used : ℕ → Bool) → t.sizes ≡ map (body_size version) fields → needed_bytes t wish used ≤ bodies_size version fields
needed_within version fields t wish used sizes =
    let all = map (λ (n : ℕ). true) t.sizes in
    let grows = sum_grows (count t) (λ p. cond (is_needed t wish used p) (size t p) 0) (λ p. cond (is_marked all p) (size t p) 0)
    (λ p within. at_most (is_needed t wish used p) (is_marked all p) (size t p) (all_marked t.sizes p within)) in
    let sum = marked_is_sum t.sizes all in
    let within = subst (λ (ns : List ℕ). marked_bytes ns all ≤ bodies_size version fields) (sym sizes) (marked_within version fields all) in
    omega arith
  where
    at_most : (b m : Bool) (n : ℕ) → m ≡ true → cond b n 0 ≤ cond m n 0
    at_most true true n is = omega arith
    at_most false m n is = omega arith
    at_most true false n is = absurd (cc)

-- ---- lines

-- the session opened
pub record IsOpenLine (w : World) (a : State) (i : ℕ) (did : Did) (b : State) : Type 0 where
  pub did_is : did ≡ DidOpen i
  pub is : b ≡ seated a i (Some (session_opened (patch_count w)))

pub open_line : (w : World) (a : State) (i : ℕ) (did : Did) (b : State) → Does w a (orders.Open i) did b → IsOpenLine w a i did b
open_line w a i did b (DoesOpen _ number closed) = record { did_is = refl; is = refl }

-- the open session's view was set and posted
pub record IsViewLine (w : World) (a : State) (i : ℕ) (view : ViewSeen) (did : Did) (b : State) : Type 0 where
  pub s : SessionState
  pub at : a.sessions i ≡ Some s
  pub did_is : did ≡ DidView i
  pub is : b ≡ posting (seated a i (Some (with_view view s))) i (Some (posted_by w view))

pub view_line : (w : World) (a : State) (i : ℕ) (view : ViewSeen) (did : Did) (b : State) → Does w a (orders.View i view) did b → IsViewLine w a i view did b
view_line w a i view did b (DoesView _ s _ at) = record { s = s; at = at; did_is = refl; is = refl }

posted_chain : (w : World) (a : State) (i : ℕ) (seat : Option SessionState) (view : ViewSeen) → (posting (seated a i seat) i (Some (posted_by w view))).chain ≡ a.chain
unfolding posting seated
posted_chain w a i seat view = refl

posted_seats : (w : World) (a : State) (i : ℕ) (seat : Option SessionState) (view : ViewSeen) → (posting (seated a i seat) i (Some (posted_by w view))).sessions ≡ (seated a i seat).sessions
unfolding posting
posted_seats w a i seat view = refl

seated_chain : (a : State) (i : ℕ) (seat : Option SessionState) → (seated a i seat).chain ≡ a.chain
unfolding seated
seated_chain a i seat = refl

seen_view : (view : ViewSeen) (s : SessionState) → (with_view view s).view ≡ Some view
unfolding with_view
seen_view view s = refl

no_round : (view : ViewSeen) (s : SessionState) → unprinted_round (with_view view s) ≡ None
unfolding with_view round_ended
no_round view s = refl

-- ---- the world

abbrev pub bench_world : ℕ → List ℕ → World
bench_world c levels = record { mesh = strip_mesh c levels; bodies = Some (bench_file c).bodies; budgets = bench_budget c ∷ []; width = 1 }

one_budget : (b k n : ℕ) → slice_get (b ∷ []) k ≡ Some n → n ≡ b
one_budget b zero n at = sym (same_Some b n at)
one_budget b (suc k) n at = absurd (cc)

low_epoch : (mark : Bool) → cond {A = ℕ} mark 1 0 + 2 < LAST_EPOCH
low_epoch true = omega arith
low_epoch false = omega arith

module _ (c : ℕ) (some : 2 ≤ c) (few : c ≤ 16384) (levels : List ℕ) (mesh : IsMesh (strip_mesh c levels)) where
  abbrev w : World
  w = bench_world c levels

  pub is_world : IsWorld w
  is_world = record { mesh = mesh; some_tier = omega arith; wide = record { some_come = omega arith; few_come = omega arith } }

  all_fit : bodies_size 1 (fields_of (strip_patches c)) ≤ bench_budget c
  all_fit = let bytes = bodies_size_1 c (omega arith) in omega arith

  pub holds_base : HoldsBase w
  holds_base = record {
    fits = λ budget at.
        let is = one_budget (bench_budget c) 0 budget at in
        let within = marked_within 1 (fields_of (strip_patches c)) (base_marks (fields_of (strip_patches c))) in
        let fit = all_fit in
        omega arith;
  }

  pub is_told : IsTold w (bench_file c).bodies
  is_told = record { told = refl; accepted = strip_is_accepted 1 c (omega arith) }

  -- ---- behind the first two lines

  module _ (first b d : State) (opens : IsOpening w first) (begins : Does w first (orders.Open 1) (DidOpen 1) b) (sees : Does w b (orders.View 1 (bench_view c)) (DidView 1) d) where
    opened_safe : IsSafe w b
    opened_safe = does_keeps_safe w first b (orders.Open 1) (DidOpen 1) is_world (opened_is_safe w first is_world holds_base opens) begins

    pub safe : IsSafe w d
    safe = does_keeps_safe w b d (orders.View 1 (bench_view c)) (DidView 1) is_world opened_safe sees

    pub kept : IsKept w d
    kept =
        does_kept w b d (orders.View 1 (bench_view c)) (DidView 1) is_world opened_safe sees
        (does_kept w first b (orders.Open 1) (DidOpen 1) is_world (opened_is_safe w first is_world holds_base opens) begins
        (subst (IsKept w) (sym opens.is) (opening_kept w opens.body)))

    line : IsViewLine w b 1 (bench_view c) (DidView 1) d
    line = view_line w b 1 (bench_view c) (DidView 1) d sees

    -- nothing moved yet
    pub chain_is : d.chain ≡ opened w.mesh.index opens.body w.budgets w.width
    unfolding opening
    chain_is =
        ap (λ (s : State). s.chain) line.is ∙ posted_chain w b 1 (Some (with_view (bench_view c) line.s)) (bench_view c)
        ∙ ap (λ (s : State). s.chain) (open_line w first 1 (DidOpen 1) b begins).is ∙ seated_chain first 1 (Some (session_opened (patch_count w)))
        ∙ ap (λ (s : State). s.chain) opens.is

    pub tiers_are : d.chain.tiers ≡ opened_tiers w.mesh.index opens.body w.budgets w.width
    unfolding opened
    tiers_are = ap (λ (chain : Chain). chain.tiers) chain_is

    calm : (k : ℕ) (t : TierState) → slice_get d.chain.tiers k ≡ Some t → KeepsBase t × IsCalm (λ p. true) t
    calm k t at =
        base-opened w.mesh.index opens.body (bench_budget c) [] w.width k t
        (sym (ap (λ (tiers : List TierState). slice_get tiers k) tiers_are) ∙ at) (λ p. true)

    pub low : (p : ℕ) → d.chain.epochs p + 2 < LAST_EPOCH
    unfolding opened
    low p =
        let is = ap (λ (chain : Chain). chain.epochs p) chain_is in
        subst (λ (n : ℕ). n + 2 < LAST_EPOCH) (sym is) (low_epoch (is_marked (base_marks w.mesh.index.fields) p))

    pub bases : KeepsBases d
    bases = λ k t at. (calm k t at).0

    pub ready : IsReadyToSettle w d
    ready = record {
      room = λ k t at.
          let set_up = safe.set_up k t at in
          let budget = one_budget (bench_budget c) k t.budget set_up.budget in
          let within = needed_within 1 (fields_of (strip_patches c)) t (board_of w d).wish (passed_or_used d k) set_up.made.sizes in
          let fit = all_fit in
          omega arith;
      none_aside = λ k t at. (calm k t at).1.none_aside;
      low = λ p within. low p;
    }

    pub show : IsReadyToShow w d 1 (bench_view c)
    show = record {
      session = with_view (bench_view c) line.s;
      at =
          ap (λ (s : State). s.sessions 1) line.is
          ∙ ap (λ (sessions : ℕ → Option SessionState). sessions 1) (posted_seats w b 1 (Some (with_view (bench_view c) line.s)) (bench_view c))
          ∙ seat_at b 1 (Some (with_view (bench_view c) line.s));
      viewed = seen_view (bench_view c) line.s;
      fresh = no_round (bench_view c) line.s;
      fits = fits_all c some few levels;
    }
