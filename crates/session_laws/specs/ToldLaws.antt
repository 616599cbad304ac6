-- Steps change neither a session's view nor how many frames it printed.
use Rattle.std.proofs.Common.{◌≡◌, ℕ, Bool, List, Option, Some, None, refl, ap, ◌∙◌}
use Rattle.std.proofs.lemmas.Bool.{cond_both}
use Rattle.mesh_model.specs.Meshes.{MeshLists}
use Rattle.round_model.specs.declared.asks.Ask.{Ask}
use Rattle.round_model.specs.declared.asks.Ask.TheVariants.{Lock, GiveBack, Done as NothingAsked}
use Rattle.round_model.specs.Views.{ViewSeen}
use Rattle.round_model.specs.Refiners.{Refining, pending_ask}
use Rattle.session_model.specs.declared.steps.Stepped.TheVariants.{Done}
use Rattle.session_model.specs.Sessions.{SessionState, least_old, opened, round_ended, settled, with_view, printed_once, counted_from}
use Rattle.session_model.specs.Steps.{SessionStep, stepped, round_or_begun, after_try, answer_ask, go_on, unlock_or, withdraw_or, step, free_old, free_or, free_step}
use Rattle.session_model.specs.Finishes.{Steps, NoStep, OneMore, Finishes}
use Rattle.session_model.specs.Freeing.{FreesAll, NoUse, MoreUse}
use Rattle.session_model.specs.Told.{session_told, just_opened, told_view, told_from, one_frame_more}

-- ---- other changes

pub told_opened : (patches : ℕ) → session_told (opened patches) ≡ just_opened
unfolding opened
told_opened patches = refl

pub told_viewed : (s : SessionState) (view : ViewSeen) → session_told (with_view view s) ≡ told_view (session_told s) view
unfolding with_view round_ended
told_viewed s view = refl

pub told_printed : (s : SessionState) → session_told (printed_once s) ≡ one_frame_more (session_told s)
unfolding printed_once
told_printed s = refl

pub told_counted : (s : SessionState) (frames : ℕ) → session_told (counted_from frames s) ≡ told_from (session_told s) frames
unfolding counted_from
told_counted s frames = refl

told_ended : (s : SessionState) → session_told (round_ended s) ≡ session_told s
unfolding round_ended
told_ended s = refl

pub told_settled : (s : SessionState) → session_told (settled s) ≡ session_told s
unfolding settled
told_settled s = cond_both s.printed (round_ended s) s (λ (t : SessionState). session_told t ≡ session_told s) (λ printed. told_ended s) (λ going. refl)

pub settled_flight : (s : SessionState) → (settled s).flight ≡ s.flight
unfolding settled round_ended
settled_flight s = cond_both s.printed (round_ended s) s (λ (t : SessionState). t.flight ≡ s.flight) (λ printed. refl) (λ going. refl)

-- ---- steps

told_ask : (s : SessionState) (r : Refining) (epoch : ℕ) (ask : Ask) → session_told (answer_ask s r epoch ask).state ≡ session_told s
unfolding after_try
told_ask s r epoch (Lock p) = refl
told_ask s r epoch (GiveBack p) = refl
told_ask s r epoch NothingAsked = refl

told_round : (s : SessionState) (epoch : ℕ) (round : Option Refining) → session_told (go_on s epoch round).state ≡ session_told s
told_round s epoch (Some r) = told_ask s r epoch (pending_ask r)
told_round s epoch None = refl

told_old : (mesh : MeshLists) (s : SessionState) (epoch : ℕ) (old : Option ℕ) → session_told (unlock_or mesh s epoch old).state ≡ session_told s
told_old mesh s epoch (Some p) = refl
told_old mesh s epoch None = told_round s epoch (round_or_begun mesh s)

told_flight : (mesh : MeshLists) (s : SessionState) (epoch : ℕ) (flight : Option ℕ) → session_told (withdraw_or mesh s epoch flight).state ≡ session_told s
told_flight mesh s epoch (Some p) = refl
told_flight mesh s epoch None = told_old mesh (settled s) epoch (least_old (settled s)) ∙ told_settled s

pub told_step : (mesh : MeshLists) (s : SessionState) (epoch : ℕ) → session_told (step mesh s epoch).state ≡ session_told s
unfolding step
told_step mesh s epoch = told_flight mesh s epoch s.flight

pub told_stepped : (mesh : MeshLists) (s : SessionState) (x : SessionStep) (epoch : ℕ) → x ≡ step mesh s epoch → session_told x.state ≡ session_told s
told_stepped mesh s x epoch is = ap (λ (y : SessionStep). session_told y.state) is ∙ told_step mesh s epoch

pub told_steps : (mesh : MeshLists) (told : Bool) (epochs : ℕ → ℕ) (s : SessionState) (tries : List (ℕ × ℕ)) (t : SessionState) → Steps mesh told epochs s tries t → session_told t ≡ session_told s
told_steps mesh told epochs s _ _ NoStep = refl
told_steps mesh told epochs s _ _ (OneMore tries t did epoch u steps same going of_epochs) = told_stepped mesh t (stepped did u) epoch same ∙ told_steps mesh told epochs s tries t steps

pub told_finishes : (mesh : MeshLists) (told : Bool) (epochs : ℕ → ℕ) (s : SessionState) (tries : List (ℕ × ℕ)) (t : SessionState) → Finishes mesh told epochs s tries t → session_told t ≡ session_told s
told_finishes mesh told epochs s tries t finishes = told_stepped mesh finishes.last (stepped Done t) finishes.epoch finishes.done ∙ told_steps mesh told epochs s tries finishes.last finishes.steps

-- ---- steps towards no use

told_free_old : (s : SessionState) (old : Option ℕ) → session_told (free_old s old).state ≡ session_told s
told_free_old s (Some p) = refl
told_free_old s None = refl

told_free_flight : (s : SessionState) (flight : Option ℕ) → session_told (free_or s flight).state ≡ session_told s
told_free_flight s (Some p) = refl
told_free_flight s None = told_free_old s (least_old s)

pub told_freed : (s : SessionState) → session_told (free_step s).state ≡ session_told s
unfolding free_step
told_freed s = told_free_flight (round_ended s) s.flight ∙ told_ended s

pub told_frees : (s t : SessionState) (unlocks : ℕ) → FreesAll s unlocks t → session_told t ≡ session_told s
told_frees s _ _ (NoUse none) = told_freed s
told_frees s t _ (MoreUse {n = n} did is rest) = told_frees (free_step s).state t n rest ∙ told_freed s
