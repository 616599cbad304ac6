-- What a machine gives to an order that a script may have.
use Rattle.std.proofs.Common.{◌≡◌, ℕ, ◌<◌, ◌&&◌, true, false, List, Option, Some, None, refl}
use Rattle.std.proofs.lemmas.Bool.{and_parts, leb-true, leb-false}
use Rattle.std.specs.Prelude.{nat_le}
use Rattle.round_model.specs.Views.{ViewSeen}
use Rattle.script_model.specs.declared.orders.Order.{Order}
use Rattle.script_model.specs.declared.orders.Order.TheVariants as orders
use Rattle.script_model.specs.Allowed.{finds_none, holds}
use Rattle.script_model.specs.Histories.{is_open, is_viewed}
use Rattle.script_model.specs.OrderFaults.{allows}
use Rattle.session_model.specs.Sessions.{SessionState}
use Rattle.token_words.specs.Sessions.{IsSession}
use Rattle.token_words.specs.declared.session_sets.TheConstants.{SESSIONS}
use Rattle.session_seats.specs.Seats.{at_seat, IsOpen, HasView}
use Rattle.view_machine.specs.LineEnds.{viewed_stage, stage_of, stages_in}

-- ---- sessions

closed_seat : (seat : Option SessionState) → is_open (stage_of seat) ≡ false → seat ≡ None
closed_seat None is = refl
closed_seat (Some s) is = absurd (by_view s.view is)
  where
    by_view : (view : Option ViewSeen) → is_open (viewed_stage view) ≡ false → ⊥
    by_view None is = cc
    by_view (Some v) is = cc

open_seat : (sessions : List (Option SessionState)) (i : ℕ) (seat : Option SessionState) → at_seat sessions i ≡ seat → is_open (stage_of seat) ≡ true → IsOpen sessions i
open_seat sessions i None at is = absurd (cc)
open_seat sessions i (Some s) at is = record { session = s; at = at }

viewed_seat : (sessions : List (Option SessionState)) (i : ℕ) (seat : Option SessionState) → at_seat sessions i ≡ seat → is_viewed (stage_of seat) ≡ true → HasView sessions i
viewed_seat sessions i None at is = absurd (cc)
viewed_seat sessions i (Some s) at is = by_view s.view refl is
  where
    by_view : (view : Option ViewSeen) → s.view ≡ view → is_viewed (viewed_stage view) ≡ true → HasView sessions i
    by_view None seen is = absurd (cc)
    by_view (Some v) seen is = record { session = s; at = at; view = v; viewed = seen }

module _ (tiers : ℕ) (sessions : List (Option SessionState)) where
  abbrev MayBe : Order → Type 0
  MayBe order = allows tiers (stages_in sessions) order ≡ true

  pub opens_session : (i : ℕ) → MayBe (orders.Open i) → IsSession i
  opens_session i may =
      let parts = and_parts (nat_le 1 i) (nat_le i SESSIONS) (holds (nat_le 1 i && nat_le i SESSIONS) (finds_none tiers (stages_in sessions) (orders.Open i) may).number) in
      (leb-true 1 i parts.0, leb-true i SESSIONS parts.1)

  pub opens_closed : (i : ℕ) → MayBe (orders.Open i) → at_seat sessions i ≡ None
  opens_closed i may = closed_seat (at_seat sessions i) (finds_none tiers (stages_in sessions) (orders.Open i) may).apart

  pub views_open : (i : ℕ) (view : ViewSeen) → MayBe (orders.View i view) → IsOpen sessions i
  views_open i view may = open_seat sessions i (at_seat sessions i) refl (holds (is_open (stages_in sessions i)) (finds_none tiers (stages_in sessions) (orders.View i view) may).there)

  pub frees_open : (i : ℕ) → MayBe (orders.Free i) → IsOpen sessions i
  frees_open i may = open_seat sessions i (at_seat sessions i) refl (holds (is_open (stages_in sessions i)) (finds_none tiers (stages_in sessions) (orders.Free i) may).there)

  pub closes_open : (i : ℕ) → MayBe (orders.Close i) → IsOpen sessions i
  closes_open i may = open_seat sessions i (at_seat sessions i) refl (holds (is_open (stages_in sessions i)) (finds_none tiers (stages_in sessions) (orders.Close i) may).there)

  pub steps_viewed : (i : ℕ) → MayBe (orders.Step i) → HasView sessions i
  steps_viewed i may = viewed_seat sessions i (at_seat sessions i) refl (holds (is_viewed (stages_in sessions i)) (finds_none tiers (stages_in sessions) (orders.Step i) may).viewed)

  pub frames_viewed : (i : ℕ) → MayBe (orders.Frame i) → HasView sessions i
  frames_viewed i may = viewed_seat sessions i (at_seat sessions i) refl (holds (is_viewed (stages_in sessions i)) (finds_none tiers (stages_in sessions) (orders.Frame i) may).viewed)

  pub turns_tier : (k : ℕ) → MayBe (orders.Turn k) → k < tiers
  turns_tier k may = leb-false tiers k (finds_none tiers (stages_in sessions) (orders.Turn k) may).tier
