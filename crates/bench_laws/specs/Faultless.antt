-- A run in whose turns no fetch faulted is one over a store that never failed.
use Rattle.std.proofs.Common.{◌≡◌, ℕ, Bool, true, false, cond, List, [], ◌∷◌, refl}
use Rattle.std.specs.List.{AllByRecursion}
use Rattle.strip_laws.specs.Kinds.{each_append}
use Rattle.tier_model.specs.declared.turns.Turn.{Turn}
use Rattle.tier_model.specs.declared.turns.Turn.TheVariants.{Reserve, Evict, Kept, Got, Lost, Fault, Changed, Commit, Idle}
use Rattle.run_model.specs.Worlds.{World}
use Rattle.run_model.specs.Lines.{Did}
use Rattle.run_model.specs.RunTexts.{StoreOutcome, GaveBody, fetch_outcome, is_lowest, turn_outcome, turn_outcomes, turns_in, outcomes_of, store_outcomes}
use Rattle.bench_laws.specs.Settlings.{NeverFails}

-- the turn's fetch, if it made one, didn't fault
abbrev pub IsFaultless : Turn → Type 0
IsFaultless (Fault p) = ⊥
IsFaultless (Changed p fault) = ⊥
IsFaultless (Reserve p) = Unit {0}
IsFaultless (Evict p) = Unit {0}
IsFaultless (Kept p uses) = Unit {0}
IsFaultless (Got p) = Unit {0}
IsFaultless (Lost p) = Unit {0}
IsFaultless (Commit p) = Unit {0}
IsFaultless Idle = Unit {0}

-- so did none of these turns, each with its tier's number
abbrev pub AreFaultless : List (ℕ × Turn) → Type 0
AreFaultless log = AllByRecursion (λ (turn : ℕ × Turn). IsFaultless turn.1) log

fetch_gave : (answer : Turn) → IsFaultless answer → NeverFails (fetch_outcome answer)
fetch_gave (Fault p) never = absurd never
fetch_gave (Changed p fault) never = absurd never
fetch_gave (Got p) never = (refl, tt)
fetch_gave (Reserve p) never = tt
fetch_gave (Evict p) never = tt
fetch_gave (Kept p uses) never = tt
fetch_gave (Lost p) never = tt
fetch_gave (Commit p) never = tt
fetch_gave Idle never = tt

chosen_gave : (here : Bool) (outcomes : List StoreOutcome) → NeverFails outcomes → NeverFails (cond here outcomes [])
chosen_gave true outcomes never = never
chosen_gave false outcomes never = tt

turns_gave : (w : World) (log : List (ℕ × Turn)) → AreFaultless log → NeverFails (turn_outcomes w log)
unfolding turn_outcomes
turns_gave w [] never = tt
turns_gave w (turn ∷ turns) never =
    each_append (λ (o : StoreOutcome). o ≡ GaveBody) (turn_outcome w turn) (turn_outcomes w turns)
    (chosen_gave (is_lowest w turn.0) (fetch_outcome turn.1) (fetch_gave turn.1 never.0)) (turns_gave w turns never.1)

pub lines_gave : (w : World) (dids : List Did) → AllByRecursion (λ (did : Did). AreFaultless (turns_in did)) dids → NeverFails (store_outcomes w dids)
unfolding store_outcomes
lines_gave w [] never = tt
lines_gave w (did ∷ dids) never = each_append (λ (o : StoreOutcome). o ≡ GaveBody) (outcomes_of w did) (store_outcomes w dids) (turns_gave w (turns_in did) never.0) (lines_gave w dids never.1)
