-- What every bench run comes to.
use Rattle.std.proofs.Common.{◌≡◌, ℕ, zero, suc, ◌+◌, ◌*◌, ◌<◌, ◌≤◌, Bool, true, false, List, [], ◌∷◌, length, Option, refl, sym, ap, subst, ◌∙◌, arith, inl, inr}
use Rattle.std.specs.Prelude.{slice_get}
use Rattle.std.proofs.Math.Path.{fun_ext}
use Rattle.std.specs.List.{range_with_len}
use Rattle.std.proofs.lemmas.Bool.{cases_lt, cond-true, cond-false, lt-ltb, le-ltb, false_from_ne_true}
use Rattle.std.proofs.lemmas.List.FromFn.{length-range_with_len}
use Rattle.grid_vertex.specs.declared.triangles.Triangle.{Triangle}
use Rattle.file_model.specs.Lists.{IndexLists, BodyLists}
use Rattle.mesh_model.specs.Graph.{numbers_from, nodes_where, roots}
use Rattle.mesh_model.specs.Meshes.{MeshLists, IsMesh}
use Rattle.mesh_model.specs.Nets.{HasOpenPairs}
use Rattle.mesh_model.specs.Frames.{frame_patches, frame_triangles}
use Rattle.mesh_laws.specs.Frames.{frame_of_set}
use Rattle.round_laws.specs.Ascending.{first_is}
use Rattle.round_model.specs.Rounds.{has, round_of}
use Rattle.round_model.specs.Views.{rules_of}
use Rattle.script_model.specs.declared.orders.Order.TheVariants as orders
use Rattle.strip_laws.specs.Strip.{strip_nodes, strip_patches, fields_of}
use Rattle.strip_laws.specs.StripGraph.{one_root}
use Rattle.strip_laws.specs.StripNodes.{node_count}
use Rattle.strip_laws.specs.StripFrames.{all_inner, inner_is_cut, inner_patch_count, inner_triangle_count}
use Rattle.strip_laws.specs.StripBorder.{frame_has_open}
use Rattle.text_model.specs.FrameText.{Frame}
use Rattle.tier_model.specs.declared.turns.Turn.{Turn}
use Rattle.run_model.specs.Worlds.{World}
use Rattle.run_model.specs.States.{State}
use Rattle.run_model.specs.Lines.{Did, DidOpen, DidView, DidTurns, DidFrame, frame_of, SettlesTo, Does, DoesSettle, DoesFrame, Runs, NoLine, OneLine}
use Rattle.run_model.specs.RunTexts.{StoreOutcome, GaveBody, store_outcomes, turn_outcomes, IsOpening}
use Rattle.bench_laws.specs.Settlings.{NeverFails, ShowsWanted}
use Rattle.bench_laws.specs.Faultless.{AreFaultless, lines_gave}
use Rattle.bench_laws.specs.SettledFrames.{IsFrameLine, frame_line, shows_wanted}
use Rattle.strip_laws.specs.Kinds.{each_first}
use Rattle.bench_laws.specs.BenchRuns.{bench_file, bench_view, first_orders, bench_orders, bench_dids, IsBenchWorld, IsBenchRun, IsFinestFrame, ComesTo, IsReadyToBench}
use Rattle.bench_laws.specs.StripViews.{strip_mesh, bench_rules, all_are_wanted, no_others}
use Rattle.bench_laws.specs.BenchOpening.{open_line, view_line, bench_world, is_world, is_told, safe, kept, bases, ready, show}
use Rattle.bench_laws.specs.BenchTurns.{so_many_turns}

-- ---- the finest frame

-- of suc m numbers, of which all but the last pass, the first m are listed
but_last : (test : ℕ → Bool) (m first : ℕ) → ((k : ℕ) → first ≤ k → k < first + m → test k ≡ true) → test (first + m) ≡ false → numbers_from first (suc m) test ≡ range_with_len first m
unfolding numbers_from
but_last test zero first passes fails =
    let here : first + 0 ≡ first = omega arith in
    cond-false (test first) (first ∷ []) [] (sym (ap test here) ∙ fails)
but_last test (suc m) first passes fails =
    let last : first + 1 + m ≡ first + suc m = omega arith in
    cond-true (test first) (first ∷ numbers_from (first + 1) (suc m) test) (numbers_from (first + 1) (suc m) test) (passes first (omega arith) (omega arith))
    ∙ ap (λ (ks : List ℕ). first ∷ ks) (but_last test m (first + 1) (λ k from below. passes k (omega arith) (omega arith)) (ap test last ∙ fails))

module _ (c : ℕ) (some : 2 ≤ c) (few : c ≤ 16384) where
  inner_nodes : nodes_where (length (strip_nodes c)) (all_inner c) ≡ range_with_len 0 (2 * c)
  inner_nodes =
      let nodes : length (strip_nodes c) ≡ suc (2 * c) = node_count c (omega arith) ∙ omega arith in
      ap (λ (n : ℕ). nodes_where n (all_inner c)) nodes
      ∙ but_last (all_inner c) (2 * c) 0 (λ k from below. lt-ltb k (2 * c) (omega arith)) (le-ltb (0 + 2 * c) (2 * c) (omega arith))

  -- the cut has every node but the sink
  finest : (set : List Bool) → ((v : ℕ) → v < 2 * c → has set v ≡ true) → ((v : ℕ) → has set v ≡ true → v < 2 * c) → has set ≡ all_inner c
  finest set whole cut = fun_ext (λ v. elim (cases_lt v (2 * c)) [
    | inl below ↦ whole v below ∙ sym (lt-ltb v (2 * c) below)
    | inr above ↦ false_from_ne_true (has set v) (λ is. let below = cut v is in omega arith) ∙ sym (le-ltb v (2 * c) above)
  ])

  open_pairs : HasOpenPairs (frame_of_set (bench_file c) (all_inner c)) (2 * c + 2)
  open_pairs = frame_has_open 1 c (all_inner c) refl some few (inner_is_cut c (omega arith))

  finest_frame : (levels : List ℕ) (frame : Frame) → ShowsWanted (bench_world c levels) (bench_file c).bodies (bench_view c) frame → IsFinestFrame c frame
  unfolding rules_of
  finest_frame levels frame shown =
      let set = (round_of (bench_rules c levels) shown.shows.epochs).set in
      let fields = fields_of (strip_patches c) in
      let same = finest set (λ v below. shown.all_joined v (all_are_wanted c some few levels v below)) (λ v is. no_others c some few levels v (shown.joined v is)) in
      let cut : frame.cut ≡ range_with_len 0 (2 * c) = shown.shows.shows.nodes ∙ ap (λ (in_set : ℕ → Bool). nodes_where (length (strip_nodes c)) in_set) same ∙ inner_nodes in
      let triangles : frame.triangles ≡ frame_of_set (bench_file c) (all_inner c) =
      shown.shows.shows.triangles ∙ ap (λ (in_set : ℕ → Bool). frame_triangles in_set fields (bench_file c).bodies) same in
      record {
        cut = cut;
        counted = record {
          nodes = ap (λ (ns : List ℕ). length ns) cut ∙ length-range_with_len 0 (2 * c);
          patches = ap (λ (ps : List ℕ). length ps) (shown.shows.shows.patches ∙ ap (λ (in_set : ℕ → Bool). frame_patches in_set fields) same) ∙ inner_patch_count c some;
          triangles =
              let is = ap (λ (ts : List Triangle). length ts) triangles in
              let many = inner_triangle_count 1 c some in
              omega arith;
          open_edges = subst (λ (ts : List Triangle). HasOpenPairs ts (2 * c + 2)) (sym triangles) open_pairs;
        };
      }

-- ---- the lines of a run

-- a settling and the frame behind it, after the first two lines
record AreBenchLines (w : World) (c : ℕ) (first : State) (dids : List Did) : Type 0 where
  opened : State
  opens : Does w first (orders.Open 1) (DidOpen 1) opened
  viewed : State
  views : Does w opened (orders.View 1 (bench_view c)) (DidView 1) viewed
  log : List (ℕ × Turn)
  settled : State
  settles : SettlesTo w (length w.budgets) viewed log settled
  frame : Frame
  shows : IsFrameLine w settled 1 frame
  are : dids ≡ bench_dids log frame

settling_line : (w : World) (a b : State) (did : Did) → Does w a orders.Settle did b → (log : List (ℕ × Turn)) × (did ≡ DidTurns log) × SettlesTo w (length w.budgets) a log b
settling_line w a b did (DoesSettle {log = log} settles) = (log, refl, settles)

printing_line : (w : World) (a : State) (i : ℕ) (did : Did) (b : State) → Does w a (orders.Frame i) did b → (frame : Frame) × (did ≡ DidFrame frame) × IsFrameLine w a i frame
printing_line w a i did b (DoesFrame _ s t view tries done at viewed finishes) =
    let line = DoesFrame i s t view tries done at viewed finishes in
    (frame_of a.chain.tiers i t done.round, refl, frame_line w a i (frame_of a.chain.tiers i t done.round) b line)

bench_lines : (w : World) (c : ℕ) (a e : State) (dids : List Did) → Runs w a (bench_orders c) dids e → AreBenchLines w c a dids
bench_lines w c a e _ (OneLine {b = b} {did = first} begins (OneLine {b = d} {did = second} sees (OneLine {b = f} {did = third} settles (OneLine {b = g} {did = fourth} prints NoLine)))) =
    let opened = (open_line w a 1 first b begins).did_is in
    let viewed = (view_line w b 1 (bench_view c) second d sees).did_is in
    let settling = settling_line w d f third settles in
    let printing = printing_line w f 1 fourth g prints in
    record {
      opened = b;
      opens = subst (λ (did : Did). Does w a (orders.Open 1) did b) opened begins;
      viewed = d;
      views = subst (λ (did : Did). Does w b (orders.View 1 (bench_view c)) did d) viewed sees;
      log = settling.0;
      settled = f;
      settles = settling.2;
      frame = printing.0;
      shows = printing.2;
      are = λ t. opened t ∷ (viewed t ∷ (settling.1 t ∷ (printing.1 t ∷ [])));
    }

-- lines that did this are a run
pub bench_run_from : (c : ℕ) (w : World) (a b d e last : State) (log : List (ℕ × Turn)) (frame : Frame) → IsBenchWorld c w → IsOpening w a → Does w a (orders.Open 1) (DidOpen 1) b → Does w b (orders.View 1 (bench_view c)) (DidView 1) d → Does w d orders.Settle (DidTurns log) e → Does w e (orders.Frame 1) (DidFrame frame) last → AreFaultless log
    → IsBenchRun c w (bench_dids log frame)
bench_run_from c w a b d e last log frame world opens begins sees settles prints faultless = record {
  world = world;
  first = a;
  opens = opens;
  last = last;
  runs = OneLine begins (OneLine sees (OneLine settles (OneLine prints NoLine)));
  never = lines_gave w (bench_dids log frame) (tt, (tt, (faultless, (tt, tt))));
}

-- ---- over the strip

never_in_settling : (w : World) (log : List (ℕ × Turn)) (frame : Frame) → NeverFails (store_outcomes w (bench_dids log frame)) → NeverFails (turn_outcomes w log)
unfolding store_outcomes turn_outcomes
never_in_settling w log frame never = each_first (λ (o : StoreOutcome). o ≡ GaveBody) (turn_outcomes w log) [] never

over_strip : (c : ℕ) → 2 ≤ c → c ≤ 16384 → (levels : List ℕ) → IsMesh (strip_mesh c levels) → (first last : State) (dids : List Did) → IsOpening (bench_world c levels) first → Runs (bench_world c levels) first (bench_orders c) dids last → NeverFails (store_outcomes (bench_world c levels) dids) → ComesTo c dids
over_strip c some few levels mesh first last dids opens runs never =
    let w = bench_world c levels in
    let lines = bench_lines w c first last dids runs in
    let well = never_in_settling w lines.log lines.frame (subst (λ (ds : List Did). NeverFails (store_outcomes w ds)) lines.are never) in
    let world = is_world c some few levels mesh in
    let is_safe = safe c some few levels mesh first lines.opened lines.viewed opens lines.opens lines.views in
    let is_kept = kept c some few levels mesh first lines.opened lines.viewed opens lines.opens lines.views in
    let are_kept = bases c some few levels mesh first lines.opened lines.viewed opens lines.opens lines.views in
    let is_ready = ready c some few levels mesh first lines.opened lines.viewed opens lines.opens lines.views in
    let can_show = show c some few levels mesh first lines.opened lines.viewed opens lines.opens lines.views in
    record {
      log = lines.log;
      frame = lines.frame;
      are = lines.are;
      turns = so_many_turns c some few levels mesh first lines.opened lines.viewed opens lines.opens lines.views lines.settled lines.log lines.settles well;
      finest = finest_frame c some few levels lines.frame
          (shows_wanted w world lines.viewed is_safe is_kept are_kept is_ready 1 (bench_view c) can_show (bench_file c).bodies (is_told c some few levels mesh) lines.settled lines.log lines.settles well lines.frame lines.shows);
    }

ready_over_strip : (c : ℕ) → 2 ≤ c → c ≤ 16384 → (levels : List ℕ) → IsMesh (strip_mesh c levels) → (first viewed : State) → IsOpening (bench_world c levels) first → Runs (bench_world c levels) first (first_orders c) (DidOpen 1 ∷ (DidView 1 ∷ [])) viewed → IsReadyToBench c (bench_world c levels) viewed
ready_over_strip c some few levels mesh first viewed opens (OneLine {b = b} begins (OneLine sees NoLine)) = record {
  settle = ready c some few levels mesh first b viewed opens begins sees;
  show = show c some few levels mesh first b viewed opens begins sees;
}

abbrev world_with : IndexLists → ℕ → List ℕ → Option (List BodyLists) → List ℕ → ℕ → World
world_with index root levels bodies budgets width = record { mesh = record { index = index; root = root; levels = levels }; bodies = bodies; budgets = budgets; width = width }

-- the strip has one root
root_is : (c : ℕ) → 2 ≤ c → (mesh : MeshLists) → IsMesh mesh → mesh.index ≡ (bench_file c).index → mesh.root ≡ 0
root_is c some mesh accepted same =
    let here = ap (λ (index : IndexLists). roots (length index.nodes) index.fields) same in
    first_is mesh.root 0 (ap (λ (vs : List ℕ). slice_get vs 0) (sym accepted.graph.one_root ∙ here ∙ one_root (length (strip_nodes c)) c (omega arith) (node_count c (omega arith))))

world_is : (c : ℕ) → 2 ≤ c → (w : World) → IsBenchWorld c w → w ≡ bench_world c w.mesh.levels
world_is c some w is =
    let root = root_is c some w.mesh is.mesh is.index in
    λ t. world_with (is.index t) (root t) w.mesh.levels (is.bodies t) (is.budgets t) (is.width t)

-- a run of the four lines comes to this
pub bench_comes_to : (c : ℕ) → 2 ≤ c → c ≤ 16384 → (w : World) (dids : List Did) → IsBenchRun c w dids → ComesTo c dids
bench_comes_to c some few w dids run =
    let same = world_is c some w run.world in
    let mesh = subst (λ (v : World). IsMesh v.mesh) same run.world.mesh in
    over_strip c some few w.mesh.levels mesh run.first run.last dids
    (subst (λ (v : World). IsOpening v run.first) same run.opens)
    (subst (λ (v : World). Runs v run.first (bench_orders c) dids run.last) same run.runs)
    (subst (λ (v : World). NeverFails (store_outcomes v dids)) same run.never)

-- it is ready to settle behind the first two
pub bench_is_ready : (c : ℕ) → 2 ≤ c → c ≤ 16384 → (w : World) (first viewed : State) → IsBenchWorld c w → IsOpening w first → Runs w first (first_orders c) (DidOpen 1 ∷ (DidView 1 ∷ [])) viewed → IsReadyToBench c w viewed
bench_is_ready c some few w first viewed world opens runs =
    let same = world_is c some w world in
    let mesh = subst (λ (v : World). IsMesh v.mesh) same world.mesh in
    subst (λ (v : World). IsReadyToBench c v viewed) (sym same)
    (ready_over_strip c some few w.mesh.levels mesh first viewed (subst (λ (v : World). IsOpening v first) same opens)
    (subst (λ (v : World). Runs v first (first_orders c) (DidOpen 1 ∷ (DidView 1 ∷ [])) viewed) same runs))
