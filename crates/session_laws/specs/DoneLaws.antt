-- After a step that was done the session has a round that is done.
use Rattle.std.proofs.Common.{◌≡◌, ℕ, false, Option, Some, None, refl, sym, ap, subst, ◌∙◌}
use Rattle.std.specs.Option.{option_or, option_map}
use Rattle.mesh_model.specs.Meshes.{MeshLists}
use Rattle.round_model.specs.declared.asks.Ask.{Ask}
use Rattle.round_model.specs.declared.asks.Ask.TheVariants.{Lock, GiveBack, Done as NothingAsked}
use Rattle.round_model.specs.Views.{ViewSeen}
use Rattle.round_model.specs.Refiners.{Refining, pending_ask}
use Rattle.session_model.specs.declared.steps.Stepped.TheVariants.{Done}
use Rattle.session_model.specs.Sessions.{SessionState, least_old, settled}
use Rattle.session_model.specs.Steps.{begun_round, answer_ask, go_on, unlock_or, withdraw_or, step}
use Rattle.session_model.specs.SessionStates.{IsSessionState}
use Rattle.session_laws.specs.StateLaws.{settled_like, settled_going}
use Rattle.session_model.specs.DoneRounds.{HasDone}

module _ (mesh : MeshLists) (epoch : ℕ) where
  by_ask : (s : SessionState) (r : Refining) → s.printed ≡ false → s.flight ≡ None → (ask : Ask) → pending_ask r ≡ ask → (answer_ask s r epoch ask).did ≡ Done → HasDone (answer_ask s r epoch ask).state
  by_ask s r going none (Lock p) asks done = absurd (cc)
  by_ask s r going none (GiveBack p) asks done = absurd (cc)
  by_ask s r going none NothingAsked asks done = record { round = r; there = refl; done = asks; going = going; no_flight = none }

  by_round : (s : SessionState) → s.printed ≡ false → s.flight ≡ None → (round : Option Refining) (view : ViewSeen) → (go_on s epoch (option_or round (Some (begun_round mesh view)))).did ≡ Done → HasDone (go_on s epoch (option_or round (Some (begun_round mesh view)))).state
  by_round s going none (Some r) view done = by_ask s r going none (pending_ask r) refl done
  by_round s going none None view done = by_ask s (begun_round mesh view) going none (pending_ask (begun_round mesh view)) refl done

  by_old : (s : SessionState) → s.printed ≡ false → s.flight ≡ None → (view : ViewSeen) → s.view ≡ Some view → (old : Option ℕ) → (unlock_or mesh s epoch old).did ≡ Done → HasDone (unlock_or mesh s epoch old).state
  by_old s going none view viewed (Some p) done = absurd (cc)
  by_old s going none view viewed None done =
      let same = ap (λ (v : Option ViewSeen). option_or s.round (option_map (begun_round mesh) v)) viewed in
      let P : Option Refining → Type 0 = λ o. (go_on s epoch o).did ≡ Done → HasDone (go_on s epoch o).state in
      subst P (sym same) (by_round s going none s.round view) done

  by_flight : (s : SessionState) → IsSessionState mesh s → (view : ViewSeen) → s.view ≡ Some view → (flight : Option ℕ) → s.flight ≡ flight → (withdraw_or mesh s epoch flight).did ≡ Done → HasDone (withdraw_or mesh s epoch flight).state
  by_flight s is view viewed (Some p) e done = absurd (cc)
  by_flight s is view viewed None e done =
      let like = settled_like mesh s is in
      by_old (settled s) (settled_going s) (like.flight ∙ e) view (like.view ∙ viewed) (least_old (settled s)) done

  pub step_done : (s : SessionState) → IsSessionState mesh s → (view : ViewSeen) → s.view ≡ Some view → (step mesh s epoch).did ≡ Done → HasDone (step mesh s epoch).state
  unfolding step
  step_done s is view viewed done = by_flight s is view viewed s.flight refl done
