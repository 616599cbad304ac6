-- The turns of a settling over a store that never fails and gives what an accepted file says: each fetch brings a body.
use Rattle.std.proofs.Common.{◌≡◌, ℕ, ◌+◌, Bool, true, false, List, [], ◌∷◌, ◌++◌, if◌then◌else◌, refl, arith}
use Rattle.strip_laws.specs.Kinds.{each_append}
use Rattle.text_model.specs.FrameText.{Frame}
use Rattle.tier_model.specs.declared.turns.Turn.{Turn}
use Rattle.tier_model.specs.declared.turns.Turn.TheVariants.{Reserve, Evict, Kept, Got, Lost, Fault, Changed, Commit, Idle}
use Rattle.tier_model.specs.Counts.{is_fault, faults_in}
use Rattle.view_outside.specs.Faults.{RoseBy}
use Rattle.run_model.specs.Worlds.{World}
use Rattle.run_model.specs.RunTexts.{StoreOutcome, GaveBody, fetch_outcome, is_lowest, turn_outcomes, lowest_turns, store_outcomes}
use Rattle.view_machine.specs.LineCounts.{IsNoChange, HasNoChange}
use Rattle.bench_laws.specs.Settlings.{NeverFails}
use Rattle.bench_laws.specs.BenchRuns.{bench_dids}

fetch_gave : (answer : Turn) → is_fault answer ≡ 0 → IsNoChange answer → NeverFails (fetch_outcome answer)
unfolding is_fault
fetch_gave (Fault p) none told = absurd (cc)
fetch_gave (Changed p fault) none told = absurd told
fetch_gave (Got p) none told = (refl, tt)
fetch_gave (Reserve p) none told = tt
fetch_gave (Evict p) none told = tt
fetch_gave (Kept p uses) none told = tt
fetch_gave (Lost p) none told = tt
fetch_gave (Commit p) none told = tt
fetch_gave Idle none told = tt

turn_gave : (here : Bool) (answer : Turn) (lows : List Turn) (outcomes : List StoreOutcome) → faults_in (if here then answer ∷ lows else lows) ≡ 0 → IsNoChange answer → (faults_in lows ≡ 0 → NeverFails outcomes)
    → NeverFails ((if here then fetch_outcome answer else []) ++ outcomes)
unfolding faults_in
turn_gave true answer lows outcomes none told rest =
    let first : is_fault answer ≡ 0 = omega arith in
    let others : faults_in lows ≡ 0 = omega arith in
    each_append (λ (o : StoreOutcome). o ≡ GaveBody) (fetch_outcome answer) outcomes (fetch_gave answer first told) (rest others)
turn_gave false answer lows outcomes none told rest = rest none

turns_gave : (w : World) (log : List (ℕ × Turn)) → faults_in (lowest_turns w log) ≡ 0 → HasNoChange log → NeverFails (turn_outcomes w log)
unfolding turn_outcomes lowest_turns
turns_gave w [] none told = tt
turns_gave w (turn ∷ turns) none told = turn_gave (is_lowest w turn.0) turn.1 (lowest_turns w turns) (turn_outcomes w turns) none told.0 (λ few. turns_gave w turns few told.1)

no_rise : (n : ℕ) → RoseBy n 0 0 → n ≡ 0
no_rise n rose = omega arith

-- the lines of a bench run over such a store
pub lines_gave : (w : World) (log : List (ℕ × Turn)) (frame : Frame) → RoseBy (faults_in (lowest_turns w log)) 0 0 → HasNoChange log → NeverFails (store_outcomes w (bench_dids log frame))
unfolding store_outcomes turn_outcomes
lines_gave w log frame none told = each_append (λ (o : StoreOutcome). o ≡ GaveBody) (turn_outcomes w log) [] (turns_gave w log (no_rise (faults_in (lowest_turns w log)) none) told) tt
