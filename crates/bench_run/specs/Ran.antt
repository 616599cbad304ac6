-- What the lines of a bench run come to.
use Rattle.std.proofs.Common.{◌≡◌, ℕ, ◌≤◌, List, [], ◌∷◌, ◌++◌, length, map, Option, Some, refl, sym, ap, subst, ◌∙◌, arith}
use Rattle.std.proofs.lemmas.List.{length-map}
use Rattle.script_model.specs.declared.orders.Order.TheVariants as orders
use Rattle.strip_laws.specs.StripRules.{strip_is_file}
use Rattle.text_model.specs.FrameText.{Frame}
use Rattle.tier_model.specs.declared.turns.Turn.{Turn}
use Rattle.tier_model.specs.Counts.{faults_in}
use Rattle.view_outside.specs.Faults.{RoseBy}
use Rattle.cache_chain.specs.SettleRuns.{lines_of, line_of}
use Rattle.cache_chain.specs.declared.parts.TurnLine.{TurnLine}
use Rattle.run_model.specs.Worlds.{World}
use Rattle.run_model.specs.Lines.{DidTurns, DidFrame, Does, DoesSettle, Runs, NoLine, OneLine}
use Rattle.run_model.specs.RunTexts.{lowest_turns}
use Rattle.view_machine.specs.declared.sizes.FrameSize.{FrameSize}
use Rattle.view_machine.specs.FrameSizes.{HasSize, ShowsSize}
use Rattle.view_machine.specs.Machines.{MachineSeen, world_of, run_state, KeepsPlace}
use Rattle.view_machine.specs.LineCounts.{TellsBodies, HasNoChange}
use Rattle.view_machine.specs.TurnClauses.{LogsLine}
use Rattle.bench_laws.specs.BenchRuns.{bench_file, bench_dids, IsBenchWorld, IsBenchRun}
use Rattle.bench_run.specs.Begun.{OpensBench, HasBegun}
use Rattle.bench_run.specs.SaidBodies.{some_corner}
use Rattle.bench_run.specs.Settled.{lines_gave}

-- the tier settled in so many turns, over a store that never failed; where the bodies are told, none was found changed
pub record HasSettled {S : Type 0} (old new : MachineSeen S) (turns : ℕ) : Type 0 where
  pub log : List (ℕ × Turn)
  pub many : length log ≡ turns
  pub settles : Does (world_of old) (run_state old) orders.Settle (DidTurns log) (run_state new)
  pub faults : RoseBy (faults_in (lowest_turns (world_of old) log)) 0 0
  pub unchanged : TellsBodies (world_of old) → HasNoChange log
  pub place : KeepsPlace old new
  pub seats : new.seats ≡ old.seats

-- a bench run settled in so many turns, and its frame has this size
pub record RunsBench (c turns : ℕ) (size : FrameSize) : Type 0 where
  pub w : World
  pub log : List (ℕ × Turn)
  pub frame : Frame
  pub run : IsBenchRun c w (bench_dids log frame)
  pub many : length log ≡ turns
  pub has : HasSize frame size

-- ---- the settling

pub has_settled : {S : Type 0} (old new : MachineSeen S) (before log : List TurnLine) (taken taken_now : ℕ) → before ≡ [] → LogsLine (world_of old) (run_state old) before log (run_state new) 0 0 taken taken_now
    → KeepsPlace old new → new.seats ≡ old.seats → HasSettled old new (length log)
has_settled old new before log taken taken_now none logs place seats =
    let is : log ≡ lines_of logs.turns = logs.log ∙ ap (λ (first : List TurnLine). first ++ lines_of logs.turns) none in
    record {
      log = logs.turns;
      many = sym (ap length is ∙ length-map logs.turns line_of);
      settles = DoesSettle logs.settles;
      faults = logs.counts.faults;
      unchanged = logs.counts.unchanged;
      place = place;
      seats = seats;
    }

-- the strip's bodies are told, and each has a triangle
tells_bodies : (c : ℕ) → 2 ≤ c → c ≤ 16384 → (w : World) → IsBenchWorld c w → TellsBodies w
tells_bodies c some few w world =
    let spelling = strip_is_file 1 c refl some few in
    record {
      bodies = (bench_file c).bodies;
      told = world.bodies;
      some_triangle = some_corner 1 (length (bench_file c).index.nodes) (bench_file c).index.fields (bench_file c).bodies spelling.bodies spelling.index.fields;
    }

-- ---- the run

pub runs_bench : {S : Type 0} (c : ℕ) → 2 ≤ c → c ≤ 16384 → (old mid settled new : MachineSeen S) (turns : ℕ) (size : FrameSize) → OpensBench c old → HasBegun c old mid → HasSettled mid settled turns
    → ShowsSize (world_of settled) 1 (run_state settled) (run_state new) size → RunsBench c turns size
runs_bench c some few old mid settled new turns size opens begun settles shows =
    let same = begun.place.world in
    let again = settles.place.world ∙ same in
    let tells = tells_bodies c some few (world_of mid) (subst (IsBenchWorld c) (sym same) opens.world) in
    record {
      w = world_of old;
      log = settles.log;
      frame = shows.frame;
      run = record {
        world = opens.world;
        first = run_state old;
        opens = opens.opening;
        last = run_state new;
        runs =
            OneLine begun.opens
            (OneLine begun.views
            (OneLine (subst (λ (w : World). Does w (run_state mid) orders.Settle (DidTurns settles.log) (run_state settled)) same settles.settles)
            (OneLine (subst (λ (w : World). Does w (run_state settled) (orders.Frame 1) (DidFrame shows.frame) (run_state new)) again shows.does) NoLine)));
        never =
            lines_gave (world_of old) settles.log shows.frame
            (subst (λ (w : World). RoseBy (faults_in (lowest_turns w settles.log)) 0 0) same settles.faults) (settles.unchanged tells);
      };
      many = settles.many;
      has = shows.has;
    }
