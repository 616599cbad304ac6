-- In a run base patches stay where the opening puts them.
use Rattle.std.proofs.Common.{◌≡◌, ℕ, true, List, [], ◌∷◌, Some, sym, subst}
use Rattle.std.specs.Prelude.{slice_get}
use Rattle.file_model.specs.Lists.{IndexLists, SeenBody}
use Rattle.script_model.specs.declared.orders.Order.{Order}
use Rattle.tier_model.specs.declared.turns.Turn.{Turn}
use Rattle.tier_model.specs.Tiers.{TierState}
use Rattle.tier_model.specs.Chains.{told_at, opened_tiers, opened}
use Rattle.detail_laws.specs.Needs.{KeepsBase}
use Rattle.detail_laws.specs.BaseLaws.{base-opened, base-turned}
use Rattle.run_model.specs.Worlds.{World, IsWorld}
use Rattle.run_model.specs.States.{State, board_of, seated, posting, moved, opening}
use Rattle.run_model.specs.Turning.{TurnsTo}
use Rattle.run_model.specs.Events.{Happens, Steps, Turns, Frees, Opens, Views, TakesOff, Prints, Ends, Reaches, Stays, Then}
use Rattle.run_model.specs.Safe.{IsSafe}
use Rattle.run_laws.specs.Sound.{IsSound, safe_sound}
use Rattle.run_laws.specs.TurnLaws.{each_set_tier, is_turn}
use Rattle.run_laws.specs.SafeLaws.{event_keeps_safe}
use Rattle.run_laws.specs.LineLaws.{does_reaches}
use Rattle.run_model.specs.Kept.{IsKept}
use Rattle.run_laws.specs.KeptLaws.{opening_kept}
use Rattle.run_model.specs.Lines.{Did, Does}
use Rattle.run_model.specs.RunTexts.{IsOpening}
use Rattle.bench_laws.specs.Settlings.{KeepsBases}

-- ---- base patches

moved_base : (w : World) (a b : State) (k : ℕ) (answer : Turn) → IsSound w a → (turn : TurnsTo w k a answer b) → KeepsBases a → KeepsBases (moved a k answer turn.after)
unfolding moved
moved_base w a b k answer sound turn keeps =
    each_set_tier (λ j t. KeepsBase t) a.chain.tiers k turn.after keeps
    (base-turned (board_of w a) (told_at a.chain k) turn.before answer turn.after (sound.tiers k turn.before turn.was).tier (is_turn w a b k answer sound turn) (keeps k turn.before turn.was))

event_base : (w : World) (a b : State) → IsSound w a → Happens w a b → KeepsBases a → KeepsBases b
unfolding seated posting
event_base w a b sound (Steps i s view at viewed) keeps = keeps
event_base w a b sound (Turns k answer turn) keeps = subst KeepsBases (sym turn.is) (moved_base w a b k answer sound turn keeps)
event_base w a b sound (Frees i s at) keeps = keeps
event_base w a b sound (Opens i number closed) keeps = keeps
event_base w a b sound (Views i s view at) keeps = keeps
event_base w a b sound (TakesOff i view at) keeps = keeps
event_base w a b sound (Prints i s at done) keeps = keeps
event_base w a b sound (Ends i s at unused off) keeps = keeps

events_base : (w : World) (a b : State) → IsWorld w → IsSafe w a → Reaches w a b → KeepsBases a → KeepsBases b
events_base w a b world safe Stays keeps = keeps
events_base w a c world safe (Then {b = b} event rest) keeps = events_base w b c world (event_keeps_safe w a b world safe event) rest (event_base w a b (safe_sound w a safe) event keeps)

opened_base : (index : IndexLists) (body : ℕ → SeenBody) (budgets : List ℕ) (width k : ℕ) (t : TierState) → slice_get (opened_tiers index body budgets width) k ≡ Some t → KeepsBase t
unfolding opened_tiers
opened_base index body [] width k t at = absurd (cc)
opened_base index body (budget ∷ budgets) width k t at = (base-opened index body budget budgets width k t at (λ p. true)).0

opening_base : (w : World) (body : ℕ → SeenBody) → KeepsBases (opening w body)
unfolding opening opened
opening_base w body k t at = opened_base w.mesh.index body w.budgets w.width k t at

-- ---- what the lines of a run keep

pub does_keeps_base : (w : World) (a b : State) (order : Order) (did : Did) → IsWorld w → IsSafe w a → Does w a order did b
    → KeepsBases a → KeepsBases b
does_keeps_base w a b order did world safe does keeps = events_base w a b world safe (does_reaches w a b order did does) keeps

-- ---- what the opening keeps

pub opening_keeps_base : (w : World) (first : State) → IsOpening w first → KeepsBases first
opening_keeps_base w first opens = subst KeepsBases (sym opens.is) (opening_base w opens.body)

pub opening_keeps_kept : (w : World) (first : State) → IsOpening w first → IsKept w first
opening_keeps_kept w first opens = subst (IsKept w) (sym opens.is) (opening_kept w opens.body)
