-- How a bench run begins: a machine that has opened over the strip, and session 1 with a view that wants all.
use Rattle.std.proofs.Common.{◌≡◌, ℕ, ◌+◌, ◌-◌, ◌*◌, ◌^◌, ◌<◌, ◌≤◌, List, [], ◌∷◌, Option, Some, None, Err, refl, sym, ap, subst, ◌∙◌, arith}
use Rattle.std.specs.Prelude.{IfSome, option_map}
use Rattle.std.specs.Option.{option_map_or}
use Rattle.std.proofs.lemmas.Option.{same_Some}
use Rattle.accepted_mesh.specs.MeshView.{MeshSeen, IsMeshOf}
use Rattle.file_model.specs.Lists.{IndexLists, bodies_size}
use Rattle.file_model.specs.Spelling.{file_text}
use Rattle.mesh_model.specs.Graph.{outgoing}
use Rattle.script_model.specs.declared.orders.Order.TheVariants as orders
use Rattle.session_model.specs.Sessions.{SessionState}
use Rattle.strip_laws.specs.StripCounts.{bodies_size_1}
use Rattle.strip_laws.specs.StripRules.{strip_is_file}
use Rattle.tier_model.specs.Tiers.{TierState}
use Rattle.token_words.specs.Changes.{SetAt}
use Rattle.view_outside.specs.Faults.{Rose}
use Rattle.view_outside.specs.Files.{Named, file_bytes}
use Rattle.wish_board.specs.Boards.{BoardSeen, empty_board}
use Rattle.body_loads.specs.Loads.{body_at}
use Rattle.body_loads.specs.LoadLaws.{loads_no_fault}
use Rattle.cache_chain.specs.Opening.{IsOpened}
use Rattle.cache_chain.specs.Refusals.{base_size, NamesBudget, NamesChange, HasReason}
use Rattle.cache_chain.specs.declared.refusals.StartRefusal.{StartRefusal}
use Rattle.cache_chain.specs.declared.refusals.StartRefusal.TheVariants.{Budget, ReadFault, Changed, Memory}
use Rattle.run_model.specs.Worlds.{World}
use Rattle.run_model.specs.States.{State}
use Rattle.run_model.specs.Lines.{Did, DidOpen, DidView, Does}
use Rattle.run_model.specs.RunTexts.{IsOpening}
use Rattle.session_seats.specs.Seats.{SeatsSeen, seat_told, at_seat, IsOpen, HasView}
use Rattle.session_model.specs.Told.{SessionTold, session_told, just_opened, told_view}
use Rattle.view_machine.specs.FrameLines.{place_then}
use Rattle.view_machine.specs.LineEnds.{frames_at}
use Rattle.view_machine.specs.LineTells.{DoesLine}
use Rattle.view_machine.specs.Machines.{MachineSeen, world_of, run_state, KeepsPlace}
use Rattle.view_machine.specs.Openings.{world_for, OpensOver, world_opened}
use Rattle.body_loads.specs.ToldBodies.{said_bodies}
use Rattle.bench_laws.specs.BenchOpening.{open_line, view_line}
use Rattle.bench_laws.specs.BenchRuns.{bench_file, bench_budget, bench_view, IsBenchWorld}
use Rattle.bench_run.specs.BaseBytes.{outgoing_within}
use Rattle.bench_run.specs.SaidBodies.{said_is_file}
use Rattle.bench_run.specs.StripChecks.{strip_files, strip_is_read}

-- the machine has opened over the strip of c columns
pub record OpensBench {S : Type 0} (c : ℕ) (m : MachineSeen S) : Type 0 where
  pub world : IsBenchWorld c (world_of m)
  pub opening : IsOpening (world_of m) (run_state m)
  pub closed : at_seat m.seats.sessions 1 ≡ None
  pub version : m.board.version ≡ 0
  pub told : m.bytes ≡ Some (file_text (bench_file c))

-- session 1 opened and its view was set
pub record HasBegun {S : Type 0} (c : ℕ) (old new : MachineSeen S) : Type 0 where
  pub opened : State
  pub opens : Does (world_of old) (run_state old) (orders.Open 1) (DidOpen 1) opened
  pub views : Does (world_of old) opened (orders.View 1 (bench_view c)) (DidView 1) (run_state new)
  pub view : HasView new.seats.sessions 1
  pub few : frames_at new.seats.sessions 1 < 2 ^ 63
  pub place : KeepsPlace old new

-- ---- the opening

module _ (c : ℕ) (some : 2 ≤ c) (few : c ≤ 16384) (mesh : MeshSeen) (of : IsMeshOf (bench_file c) mesh) (files : List Named) (are : files ≡ strip_files c) where
  -- the tier has room for the base
  base_fits : base_size mesh.lists ≤ bench_budget c
  base_fits =
      let within = outgoing_within mesh.lists.index mesh.lists.root in
      let same : bodies_size (bench_file c).index.version (bench_file c).index.fields ≡ bodies_size mesh.lists.index.version mesh.lists.index.fields = ap (λ (i : IndexLists). bodies_size i.version i.fields) of.index in
      let all = bodies_size_1 c (omega arith) in
      omega (arith, within, same, all)

  -- only want of memory refuses it
  pub start_refusal : (refusal : StartRefusal) (taken taken_now : ℕ) → NamesBudget (base_size mesh.lists) (bench_budget c) refusal
      → IfSome (file_bytes (Some files) 0) (λ bytes. NamesChange mesh.lists.index bytes (outgoing mesh.lists.index.fields mesh.lists.root) refusal) → HasReason (base_size mesh.lists) 0 0 taken taken_now refusal → refusal ≡ Memory
  start_refusal (Budget need given) taken taken_now names told reason = absurd (let fits = base_fits in let less = names.2 in omega (arith, fits, less))
  start_refusal (Changed p fault) taken taken_now names told reason =
      let change = subst (λ (fs : List Named). IfSome (file_bytes (Some fs) 0) (λ bytes. NamesChange mesh.lists.index bytes (outgoing mesh.lists.index.fields mesh.lists.root) (Changed p fault))) are told in
      absurd (loads_no_fault (file_text (bench_file c)) (bench_file c) p fault (strip_is_read c some few)
      (subst (λ (i : IndexLists). body_at i (file_text (bench_file c)) p ≡ Some (Err fault)) (sym of.index) change.breaks))
  start_refusal ReadFault taken taken_now names told reason = absurd (let rose : Rose 0 0 = reason.0 in omega arith)
  start_refusal Memory taken taken_now names told reason = refl

  bench_world_for : IsBenchWorld c (world_for mesh.lists (Some (file_text (bench_file c))) (bench_budget c ∷ []) 1)
  bench_world_for = record {
    mesh = of.facts;
    index = sym of.index;
    bodies =
        ap (λ (i : IndexLists). Some (said_bodies i (file_text (bench_file c)))) (sym of.index)
        ∙ ap Some (said_is_file (file_text (bench_file c)) (bench_file c) (strip_is_read c some few) (strip_is_file 1 c refl some few));
    budgets = refl;
    width = refl;
  }

  told_is : file_bytes (Some files) 0 ≡ Some (file_text (bench_file c))
  told_is = ap (λ (fs : List Named). file_bytes (Some fs) 0) are

  pub opens_bench : {S : Type 0} (m : MachineSeen S) (tiers : List TierState) → OpensOver mesh 0 (file_bytes (Some files) 0) m → m.chain.tiers ≡ tiers → IsOpened mesh.lists.index (file_bytes (Some files) 0) (bench_budget c ∷ []) 1 tiers → OpensBench c m
  unfolding empty_board
  opens_bench m tiers opens same opened =
      let world : world_of m ≡ world_for mesh.lists (Some (file_text (bench_file c))) (bench_budget c ∷ []) 1 =
      world_opened mesh 0 (file_bytes (Some files) 0) m tiers (bench_budget c ∷ []) 1 opens same (omega arith) opened
      ∙ ap (λ (told : Option (List ℕ)). world_for mesh.lists told (bench_budget c ∷ []) 1) told_is in
      record {
        world = subst (IsBenchWorld c) (sym world) bench_world_for;
        opening = opens.opening;
        closed = ap (λ (seats : SeatsSeen). at_seat seats.sessions 1) opens.closed;
        version = ap (λ (board : BoardSeen). board.version) opens.blank;
        told = opens.bytes ∙ told_is;
      }

-- ---- the first two lines

-- the session that is told of
record IsToldSeat (seat : Option SessionState) (told : SessionTold) : Type 0 where
  session : SessionState
  at : seat ≡ Some session
  is : session_told session ≡ told

told_seat : (seat : Option SessionState) (told : SessionTold) → option_map session_told seat ≡ Some told → IsToldSeat seat told
told_seat None told is = absurd (cc)
told_seat (Some s) told is = record { session = s; at = refl; is = same_Some (session_told s) told is }

pub told_open : (sessions : List (Option SessionState)) (i : ℕ) (told : SessionTold) → seat_told sessions i ≡ Some told → IsOpen sessions i
told_open sessions i told is = let seat = told_seat (at_seat sessions i) told is in record { session = seat.session; at = seat.at }

told_viewed : (c : ℕ) (sessions : List (Option SessionState)) (i : ℕ) → seat_told sessions i ≡ Some (told_view just_opened (bench_view c)) → HasView sessions i
told_viewed c sessions i is =
    let seat = told_seat (at_seat sessions i) (told_view just_opened (bench_view c)) is in
    record { session = seat.session; at = seat.at; view = bench_view c; viewed = ap (λ (told : SessionTold). told.view) seat.is }

told_few : (c : ℕ) (sessions : List (Option SessionState)) (i : ℕ) → seat_told sessions i ≡ Some (told_view just_opened (bench_view c)) → frames_at sessions i < 2 ^ 63
told_few c sessions i is =
    let seat = told_seat (at_seat sessions i) (told_view just_opened (bench_view c)) is in
    let none : frames_at sessions i ≡ 0 = ap (λ (s : Option SessionState). option_map_or (λ (s : SessionState). s.frames) s 0) seat.at ∙ ap (λ (told : SessionTold). told.frames) seat.is in
    omega (arith, none)

-- both lines were done
pub has_begun : {S : Type 0} (c : ℕ) (old mid new : MachineSeen S) (first second : List ℕ) → KeepsPlace old mid → KeepsPlace mid new
    → DoesLine (world_of old) (orders.Open 1) (run_state old) (run_state mid) first → DoesLine (world_of mid) (orders.View 1 (bench_view c)) (run_state mid) (run_state new) second
    → SetAt (seat_told mid.seats.sessions) 1 (Some (told_view just_opened (bench_view c))) (seat_told new.seats.sessions) → HasBegun c old new
has_begun c old mid new first second place later opens views told =
    let opened = (open_line (world_of old) (run_state old) 1 opens.did (run_state mid) opens.does).did_is in
    let viewed = (view_line (world_of mid) (run_state mid) 1 (bench_view c) views.did (run_state new) views.does).did_is in
    record {
      opened = run_state mid;
      opens = subst (λ (did : Did). Does (world_of old) (run_state old) (orders.Open 1) did (run_state mid)) opened opens.does;
      views =
          subst (λ (w : World). Does w (run_state mid) (orders.View 1 (bench_view c)) (DidView 1) (run_state new)) place.world
          (subst (λ (did : Did). Does (world_of mid) (run_state mid) (orders.View 1 (bench_view c)) did (run_state new)) viewed views.does);
      view = told_viewed c new.seats.sessions 1 told.here;
      few = told_few c new.seats.sessions 1 told.here;
      place = place_then old mid new place later;
    }
