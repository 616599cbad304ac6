-- What ran of a script, as the command tells it.
use Rattle.std.proofs.Common.{◌≡◌, ℕ, ◌≤◌, List, [], ◌∷◌, ◌++◌, length, Option, None, Result, Ok, Err, ◌⊎◌, inl, inr, refl, sym, ap, subst, ◌∙◌, arith}
use Rattle.std.specs.Prelude.{OnOk, IfErr}
use Rattle.std.proofs.lemmas.List.{length-map}
use Rattle.view_outside.specs.Faults.{Rose, RoseBy, Rose-earlier}
use Rattle.view_outside.specs.Streams.{appended}
use Rattle.view_outside.specs.Taken.{taken_after, taken_after-taken_after}
use Rattle.script_model.specs.declared.orders.Line.{Line}
use Rattle.script_model.specs.declared.orders.Order.{Order}
use Rattle.view_outside.specs.Written.{WritesPart}
use Rattle.tier_model.specs.Tiers.{TierState}
use Rattle.tier_model.specs.Chains.{opened}
use Rattle.run_model.specs.Worlds.{World}
use Rattle.run_model.specs.States.{State, opening}
use Rattle.run_laws.specs.OpeningLaws.{opened_count}
use Rattle.run_model.specs.Lines.{Did, Runs}
use Rattle.run_model.specs.LineTexts.{AreTextsOf}
use Rattle.run_model.specs.RunTexts.{IsOpening, orders_of, store_outcomes}
use Rattle.session_seats.specs.Seats.{at_seat, state_of}
use Rattle.view_machine.specs.declared.refusals.RunRefusal.{RunRefusal}
use Rattle.view_machine.specs.declared.refusals.RunRefusal.TheVariants as runs
use Rattle.view_machine.specs.Machines.{MachineSeen, world_of, run_state}
use Rattle.view_machine.specs.LineCounts.{TellsBodies}
use Rattle.view_machine.specs.RunEnds.{HaveNoFailure, HaveNoChange, RanLines, StopsRun}
use Rattle.viewer_program.specs.Promises.{OpensSafely, promises_kept}
use Rattle.viewer_program.specs.PlayRuns.{run_faults, run_bytes, PrintsRun}
use Rattle.viewer_program.specs.PlayEnds.{StoreCounts, RunsWhole, RunsPart, RunEnds}
use Rattle.viewer_program.specs.Refusals.{run_status}
use Rattle.viewer_program.proofs.RunFailures.{nothing_failed}

opened_many : (w : World) (a : State) → IsOpening w a → length a.chain.tiers ≡ length w.budgets
unfolding opening opened
opened_many w a opens = ap (λ (s : State). length s.chain.tiers) opens.is ∙ opened_count w.mesh.index opens.body w.budgets w.width

rose_since : (n first before now : ℕ) → first ≤ before → RoseBy n before now → RoseBy n first now
rose_since n first before now later rose = omega (arith, later, rose)

-- the lines of the first orders, and the others
record Splits (lines : List Line) (orders : List Order) : Type 0 where
  done : List Line
  left : List Line
  parts : lines ≡ done ++ left
  are : orders ≡ orders_of done

split_lines : (lines : List Line) (orders rest : List Order) → orders_of lines ≡ orders ++ rest → Splits lines orders
split_lines lines [] rest is = record { done = []; left = lines; parts = refl; are = refl }
split_lines [] (order ∷ orders) rest is = absurd cc
split_lines (line ∷ lines) (order ∷ orders) rest is =
    let same : order ≡ line.order = cc in
    let others = split_lines lines orders rest (cc) in
    record {
      done = line ∷ others.done;
      left = others.left;
      parts = ap (λ (ls : List Line). line ∷ ls) others.parts;
      are = λ i. same i ∷ others.are i;
    }

no_change_by : (w : World) (dids : List Did) → (TellsBodies w → HaveNoChange dids) → (w.bodies ≡ None) ⊎ TellsBodies w → (w.bodies ≡ None → HaveNoChange dids) → HaveNoChange dids
no_change_by w dids unchanged (inl none) no_change = no_change none
no_change_by w dids unchanged (inr tells) no_change = unchanged tells

no_change_told : (w : World) (dids : List Did) → (TellsBodies w → HaveNoChange dids) → (w.bodies ≡ None) ⊎ TellsBodies w → (w.bodies ≡ None → ⊥) → HaveNoChange dids
no_change_told w dids unchanged tells some = no_change_by w dids unchanged tells (λ none. absurd (some none))

module _ (w : World) (a b : State) (opens : IsOpening w a) (counts : StoreCounts) (faults : ℕ) (later : counts.faults ≤ faults) (tells : (w.bodies ≡ None) ⊎ TellsBodies w) (safely : OpensSafely w a) where
  prints : (lines : List Line) (dids : List Did) (text : List ℕ) → Runs w a (orders_of lines) dids b → AreTextsOf dids text → RoseBy (run_faults w dids) faults counts.faults_now → (TellsBodies w → HaveNoChange dids) → PrintsRun w lines text counts.faults counts.faults_now
  prints lines dids text runs texts rose unchanged = record {
    outcomes = store_outcomes w dids;
    is = record { first = a; opens = opens; dids = dids; last = b; runs = runs; fetched = refl; is = texts };
    told_faults = rose_since (run_faults w dids) counts.faults faults counts.faults_now later rose;
    unchanged = no_change_told w dids unchanged tells;
    promises = promises_kept w a b (orders_of lines) dids safely runs;
  }

  -- all lines
  pub whole_run : (lines : List Line) (dids : List Did) (text : List ℕ) (first taken : ℕ) (before after : Option (List ℕ)) → Runs w a (orders_of lines) dids b → AreTextsOf dids text → after ≡ appended before text → RoseBy (run_faults w dids) faults counts.faults_now
      → (TellsBodies w → HaveNoChange dids) → (HaveNoFailure dids → counts.taken_now ≡ taken_after taken (run_bytes w dids)) → taken ≡ taken_after counts.taken first → RunsWhole w lines first counts before after
  unfolding prints
  whole_run lines dids text first taken before after runs texts written rose unchanged took is = record {
    text = text;
    prints = prints lines dids text runs texts rose unchanged;
    taken = λ no_rise no_change.
        took (nothing_failed w a b (orders_of lines) dids faults counts.faults_now (opened_many w a opens) runs rose (λ r. no_rise (Rose-earlier counts.faults faults counts.faults_now later r)) (no_change_by w dids unchanged tells no_change))
        ∙ ap (λ (t : ℕ). taken_after t (run_bytes w dids)) is ∙ taken_after-taken_after counts.taken first (run_bytes w dids);
    written = written;
  }

  -- the first of them
  pub part_run : (lines : List Line) (orders rest : List Order) (dids : List Did) (text : List ℕ) (is_written : List ℕ → Type 0) → orders_of lines ≡ orders ++ rest → Runs w a orders dids b → AreTextsOf dids text → RoseBy (run_faults w dids) faults counts.faults_now → (TellsBodies w → HaveNoChange dids) → is_written text → RunsPart w lines counts is_written
  part_run lines orders rest dids text is_written are runs texts rose unchanged written =
      let split = split_lines lines orders rest are in
      record {
        done = split.done;
        left = split.left;
        parts = split.parts;
        text = text;
        prints = prints split.done dids text (subst (λ (os : List Order). Runs w a os dids b) split.are runs) texts rose unchanged;
        written = written;
      }

-- what a run that was played says
pub played_ends : {T : Type 0} (w : World) (a b : State) (counts : StoreCounts) (faults taken first sink sink_now : ℕ) (lines : List Line) (ran : Result T RunRefusal) (before after : Option (List ℕ)) → IsOpening w a → (w.bodies ≡ None) ⊎ TellsBodies w → OpensSafely w a → counts.faults ≤ faults → taken ≡ taken_after counts.taken first
    → OnOk ran (RanLines w (orders_of lines) a b faults counts.faults_now taken counts.taken_now before after) → IfErr ran (λ refusal. StopsRun refusal w (orders_of lines) a b faults counts.faults_now sink sink_now before after) → RunEnds w lines first counts (run_status ran) before after
played_ends w a b counts faults taken first sink sink_now lines (Ok x) before after opens tells safely later is all stops =
    whole_run w a b opens counts faults later tells safely lines all.dids all.text first taken before after all.runs all.texts all.written all.faults all.unchanged all.taken is
played_ends w a b counts faults taken first sink sink_now lines (Err runs.WriteFault) before after opens tells safely later is all stops =
    part_run w a b opens counts faults later tells safely lines stops.done stops.rest stops.dids stops.text (WritesPart before after) stops.are stops.runs stops.texts stops.faults stops.unchanged stops.part
played_ends w a b counts faults taken first sink sink_now lines (Err runs.Memory) before after opens tells safely later is all stops =
    inr (part_run w a stops.reached opens counts faults later tells safely lines stops.done (stops.stopped ∷ stops.rest) stops.dids stops.text (λ (text : List ℕ). after ≡ appended before text) stops.are stops.runs stops.texts stops.faults stops.unchanged stops.written)

-- ---- the machine at its opening

module _ {S : Type 0} (m : MachineSeen S) where
  pub no_seats : IsOpening (world_of m) (run_state m) → (i : ℕ) → at_seat m.seats.sessions i ≡ None
  unfolding state_of opening
  no_seats opens i = ap (λ (s : State). s.sessions i) opens.is

  pub first_version : IsOpening (world_of m) (run_state m) → m.board.version ≡ 0
  unfolding state_of opening
  first_version opens = ap (λ (s : State). s.version) opens.is

  pub many_tiers : (budgets : List ℕ) → (world_of m).budgets ≡ budgets → length m.chain.tiers ≡ length budgets
  many_tiers budgets same = sym (length-map m.chain.tiers (λ (t : TierState). t.budget)) ∙ ap length same
