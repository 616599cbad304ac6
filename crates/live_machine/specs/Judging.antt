-- What is kept of a machine to judge lines.
use Rattle.std.proofs.Common.{◌≡◌, ℕ, length, map, Bool, Option, sym, ap, ap₂, ◌∙◌}
use Rattle.std.proofs.lemmas.List.{length-map}
use Rattle.text_model.specs.declared.faults.ScriptFault.{ScriptFault}
use Rattle.script_model.specs.Histories.{History}
use Rattle.tier_model.specs.Tiers.{TierState}
use Rattle.session_seats.specs.Seats.{state_of}
use Rattle.view_machine.specs.Machines.{MachineSeen, world_of, run_state}
use Rattle.view_machine.specs.LineEnds.{history_of}
use Rattle.view_script.specs.Stages.{history_of as kept_history}
use Rattle.view_script.specs.declared.sessions.Sessions.{Sessions}
use Rattle.live_model.specs.declared.orders.LiveOrder.{LiveOrder}
use Rattle.live_model.specs.Places.{Place, place_of, is_fast}
use Rattle.live_model.specs.LiveOrders.{live_fault}

-- the stages are those of the machine's sessions
pub record HasHistory {S : Type 0} (m : MachineSeen S) (sessions : Sessions) : Type 0 where
  pub same : history_of m ≡ kept_history sessions

abbrev placed : ℕ → History → (ℕ → Bool) → Place
placed tiers history fast = record { tiers = tiers; history = history; fast = fast }

-- the machine's place, by what is kept beside it
abbrev pub kept_place : {S : Type 0} → MachineSeen S → Sessions → Place
kept_place m sessions = record { tiers = length m.chain.tiers; history = kept_history sessions; fast = is_fast (world_of m) (run_state m) }

pub place_is : {S : Type 0} (m : MachineSeen S) (sessions : Sessions) → HasHistory m sessions → place_of (world_of m) (run_state m) ≡ kept_place m sessions
unfolding state_of
place_is m sessions has =
    ap₂ (λ (n : ℕ) (h : History). placed n h (is_fast (world_of m) (run_state m))) (length-map m.chain.tiers (λ (t : TierState). t.budget)) has.same

-- a fault at the place that is kept is one at the machine's
pub fault_at : {S : Type 0} (m : MachineSeen S) (sessions : Sessions) → HasHistory m sessions → (order same : LiveOrder) (fault : Option ScriptFault) → order ≡ same → fault ≡ live_fault (kept_place m sessions) same
    → fault ≡ live_fault (place_of (world_of m) (run_state m)) order
fault_at m sessions has order same fault is found =
    found ∙ ap (λ (p : Place). live_fault p same) (sym (place_is m sessions has)) ∙ ap (live_fault (place_of (world_of m) (run_state m))) (sym is)
