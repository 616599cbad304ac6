-- Each order of one session of a served script may come where those before it have led.
use Rattle.std.proofs.Common.{◌≡◌, ℕ, ◌≤◌, eqb, Bool, true, false, cond, List, [], ◌∷◌, refl, sym, subst, arith}
use Rattle.std.specs.List.{filter}
use Rattle.std.proofs.lemmas.Bool.{cond-true, cond-false, eqb-true, eq-eqb}
use Rattle.round_model.specs.Views.{ViewSeen}
use Rattle.script_model.specs.declared.modes.Mode.TheVariants.{Serve}
use Rattle.script_model.specs.declared.orders.Line.{Line}
use Rattle.script_model.specs.declared.orders.Order.{Order}
use Rattle.script_model.specs.declared.orders.Order.TheVariants as orders
use Rattle.script_model.specs.declared.stages.SessionStage.{SessionStage}
use Rattle.script_model.specs.declared.stages.SessionStage.TheVariants.{Closed, Opened, Viewed}
use Rattle.script_model.specs.Orders.{is_of_session}
use Rattle.script_model.specs.Histories.{History, no_sessions, is_open, is_viewed, with_stage, history_after}
use Rattle.script_model.specs.OrderFaults.{allows, is_left_out}
use Rattle.script_model.specs.Allowed.{finds_none, holds}
use Rattle.script_model.specs.Scripts.{are_lines_from}
use Rattle.script_model.specs.ScriptLaws.{StandsFirst, first_stands}
use Rattle.shared_sessions.specs.Stages.{AreOwnLines, MayServe, stage_behind, MayServeAll}

-- ---- one session's stage

stage_here : (history : History) (stage : SessionStage) (i j : ℕ) → j ≡ i → with_stage j stage history i ≡ stage
stage_here history stage i j same = cond-true (eqb i j) stage (history i) (eq-eqb i j (sym same))

eqb_back : (i j : ℕ) → eqb j i ≡ false → eqb i j ≡ false
eqb_back i j other = by_test (eqb i j) refl
  where
    by_test : (same : Bool) → eqb i j ≡ same → same ≡ false
    by_test true is = absurd (let also = eq-eqb j i (sym (eqb-true i j is)) in cc)
    by_test false is = refl

stage_there : (history : History) (stage : SessionStage) (i j : ℕ) → eqb j i ≡ false
    → with_stage j stage history i ≡ history i
stage_there history stage i j other = cond-false (eqb i j) stage (history i) (eqb_back i j other)

-- ---- orders of the session

-- the order may come, and leads on
record LeadsOn (i : ℕ) (history : History) (order : Order) : Type 0 where
  may : MayServe i (history i) order
  behind : stage_behind (history i) order ≡ history_after history order i

closed_opens : (i j : ℕ) (stage : SessionStage) → j ≡ i → is_open stage ≡ false → MayServe i stage (orders.Open j)
closed_opens i j Closed same is = same
closed_opens i j Opened same is = absurd (cc)
closed_opens i j Viewed same is = absurd (cc)

open_views : (i j : ℕ) (stage : SessionStage) (view : ViewSeen) → j ≡ i → is_open stage ≡ true
    → MayServe i stage (orders.View j view)
open_views i j Closed view same is = absurd (cc)
open_views i j Opened view same is = same
open_views i j Viewed view same is = same

viewed_frames : (i j : ℕ) (stage : SessionStage) → j ≡ i → is_viewed stage ≡ true → MayServe i stage (orders.Frame j)
viewed_frames i j Closed same is = absurd (cc)
viewed_frames i j Opened same is = absurd (cc)
viewed_frames i j Viewed same is = same

open_frees : (i j : ℕ) (stage : SessionStage) → j ≡ i → is_open stage ≡ true → MayServe i stage (orders.Free j)
open_frees i j Closed same is = absurd (cc)
open_frees i j Opened same is = same
open_frees i j Viewed same is = same

open_closes : (i j : ℕ) (stage : SessionStage) → j ≡ i → is_open stage ≡ true → MayServe i stage (orders.Close j)
open_closes i j Closed same is = absurd (cc)
open_closes i j Opened same is = same
open_closes i j Viewed same is = same

module _ (tiers : ℕ) (history : History) (i : ℕ) where
  -- the session that is named is this one
  at : (P : SessionStage → Type 0) (j : ℕ) → j ≡ i → P (history j) → P (history i)
  at P j same is = subst (λ (k : ℕ). P (history k)) same is

  own_order : (number : ℕ) (order : Order) → is_of_session i (record { number = number; order = order }) ≡ true
      → allows tiers history order ≡ true → is_left_out Serve order ≡ false → LeadsOn i history order
  unfolding history_after
  own_order number (orders.Open j) own allowed kept =
      let same = eqb-true j i own in
      let none = finds_none tiers history (orders.Open j) allowed in
      record {
        may = closed_opens i j (history i) same (at (λ stage. is_open stage ≡ false) j same none.apart);
        behind =
            sym (stage_here history Opened i j same);
      }
  own_order number (orders.View j view) own allowed kept =
      let same = eqb-true j i own in
      let none = finds_none tiers history (orders.View j view) allowed in
      record {
        may = open_views i j (history i) view same
            (at (λ stage. is_open stage ≡ true) j same (holds (is_open (history j)) none.there));
        behind = sym
            (stage_here history Viewed i j same);
      }
  own_order number (orders.Frame j) own allowed kept =
      let same = eqb-true j i own in
      let none = finds_none tiers history (orders.Frame j) allowed in
      record {
        may = viewed_frames i j (history i) same
            (at (λ stage. is_viewed stage ≡ true) j same (holds (is_viewed (history j)) none.viewed));
        behind = refl;
      }
  own_order number (orders.Free j) own allowed kept =
      let same = eqb-true j i own in
      let none = finds_none tiers history (orders.Free j) allowed in
      record {
        may = open_frees i j (history i) same
            (at (λ stage. is_open stage ≡ true) j same (holds (is_open (history j)) none.there));
        behind = refl;
      }
  own_order number (orders.Close j) own allowed kept =
      let same = eqb-true j i own in
      let none = finds_none tiers history (orders.Close j) allowed in
      record {
        may = open_closes i j (history i) same
            (at (λ stage. is_open stage ≡ true) j same (holds (is_open (history j)) none.there));
        behind = sym
            (stage_here history Closed i j same);
      }
  own_order number (orders.Step j) own allowed kept = absurd (cc)
  own_order number (orders.Turn k) own allowed kept = absurd (cc)
  own_order number orders.Settle own allowed kept = absurd (cc)
  own_order number orders.Status own allowed kept = absurd (cc)

  -- another session's order leaves this one where it is
  other_order : (number : ℕ) (order : Order) → is_of_session i (record { number = number; order = order }) ≡ false
      → history_after history order i ≡ history i
  unfolding history_after
  other_order number (orders.Open j) other = stage_there history Opened i j other
  other_order number (orders.View j view) other = stage_there history Viewed i j other
  other_order number (orders.Close j) other = stage_there history Closed i j other
  other_order number (orders.Frame j) other = refl
  other_order number (orders.Free j) other = refl
  other_order number (orders.Step j) other = refl
  other_order number (orders.Turn k) other = refl
  other_order number orders.Settle other = refl
  other_order number orders.Status other = refl

-- ---- along a script

one_line : (i tiers : ℕ) (history : History) (above low : ℕ) (line : Line) (lines own : List Line) (test : Bool)
    → is_of_session i line ≡ test → low ≤ above → StandsFirst Serve tiers history above line lines
    → ((low : ℕ) → low ≤ line.number → MayServeAll i (history_after history line.order i) low own)
    → MayServeAll i (history i) low (cond test (line ∷ own) own)
one_line i tiers history above low line lines own true is below stands rest =
    let leads = own_order tiers history i line.number line.order is stands.allowed stands.kept_in in (
      omega (arith, stands.ascends),
      leads.may,
      subst (λ (stage : SessionStage). MayServeAll i stage line.number own)
          (sym leads.behind) (rest line.number (omega arith)),
    )
one_line i tiers history above low line lines own false is below stands rest =
    subst (λ (stage : SessionStage). MayServeAll i stage low own)
    (other_order tiers history i line.number line.order is) (rest low (omega (arith, stands.ascends)))

own_from : (i tiers : ℕ) (history : History) (above low : ℕ) (script : List Line) → low ≤ above
    → are_lines_from Serve tiers history above script ≡ true
    → MayServeAll i (history i) low (filter (is_of_session i) script)
own_from i tiers history above low [] below are = tt
own_from i tiers history above low (line ∷ lines) below are =
    let stands = first_stands Serve tiers history above line lines are in
    one_line i tiers history above low line lines (filter (is_of_session i) lines)
    (is_of_session i line) refl below stands
    (λ lowest least. own_from i tiers (history_after history line.order) line.number lowest lines least stands.others)

pub own_lines : (i : ℕ) (lines : List Line) → AreOwnLines i lines → MayServeAll i Closed 0 lines
own_lines i lines are = subst (MayServeAll i Closed 0) (sym are.own)
    (own_from i are.tiers no_sessions 0 0 are.script (omega arith) are.are)
