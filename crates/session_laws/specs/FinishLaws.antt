-- A session that finishes has a round that is done, with the tries that were made.
use Rattle.std.proofs.Common.{◌≡◌, ℕ, Bool, cond, List, [], ◌++◌, Option, Some, None, refl, sym, ap, subst, ◌∙◌, append_assoc, append-nil}
use Rattle.std.specs.Option.{option_map_or}
use Rattle.std.proofs.lemmas.List.{map-append}
use Rattle.file_model.specs.declared.fields.Try.{Try}
use Rattle.mesh_model.specs.Meshes.{MeshLists, IsMesh}
use Rattle.round_model.specs.Views.{ViewSeen}
use Rattle.round_model.specs.Refiners.{Refining}
use Rattle.session_model.specs.declared.steps.Stepped.{Stepped}
use Rattle.session_model.specs.declared.steps.Stepped.TheVariants.{Unlocked, Tried, Withdrew, GaveBack, Done}
use Rattle.session_model.specs.Sessions.{SessionState}
use Rattle.session_model.specs.Steps.{SessionStep, stepped, step, try_pairs}
use Rattle.session_model.specs.SessionStates.{IsSessionState, unprinted_round, tries_of}
use Rattle.session_model.specs.Does.{tries_in, IsStep}
use Rattle.session_laws.specs.StepLaws.{step_is}
use Rattle.session_model.specs.DoneRounds.{HasDone}
use Rattle.session_laws.specs.DoneLaws.{step_done}
use Rattle.session_model.specs.Finishes.{Steps, NoStep, OneMore, Finishes, pairs_of, IsAfterSteps, HasFinished}

tries_are : (did : Stepped) → pairs_of (tries_in did) ≡ try_pairs did
tries_are (Tried p epoch) = refl
tries_are (Unlocked p) = refl
tries_are (Withdrew p) = refl
tries_are (GaveBack p) = refl
tries_are Done = refl

one_step : (mesh : MeshLists) → IsMesh mesh → (s t u : SessionState) (tries : List (ℕ × ℕ)) (did : Stepped) (epoch : ℕ) → IsAfterSteps mesh s tries t → stepped did u ≡ step mesh t epoch → IsAfterSteps mesh s (tries ++ try_pairs did) u
one_step mesh accepted s t u tries did epoch before same =
    let one : IsStep mesh t (stepped did u) = subst (IsStep mesh t) (sym same) (step_is mesh accepted t before.is epoch) in
    record {
      is = one.keeps;
      view = one.view ∙ before.view;
      tries_are =
          ap pairs_of one.tries
          ∙ map-append (λ (x : Try). (x.patch, x.epoch)) (tries_of t) (tries_in did)
          ∙ ap (λ (xs : List (ℕ × ℕ)). xs ++ pairs_of (tries_in did)) before.tries_are
          ∙ ap (λ (xs : List (ℕ × ℕ)). (pairs_of (tries_of s) ++ tries) ++ xs) (tries_are did)
          ∙ append_assoc (pairs_of (tries_of s)) tries (try_pairs did);
    }

pub after_steps : (mesh : MeshLists) → IsMesh mesh → (told : Bool) (epochs : ℕ → ℕ) (s : SessionState) → IsSessionState mesh s → (tries : List (ℕ × ℕ)) (t : SessionState) → Steps mesh told epochs s tries t → IsAfterSteps mesh s tries t
after_steps mesh accepted told epochs s is _ _ NoStep = record { is = is; view = refl; tries_are = sym (append-nil (pairs_of (tries_of s))) }
after_steps mesh accepted told epochs s is _ _ (OneMore tries t did epoch u steps same going of_epochs) = one_step mesh accepted s t u tries did epoch (after_steps mesh accepted told epochs s is tries t steps) same

pub finished : (mesh : MeshLists) → IsMesh mesh → (told : Bool) (epochs : ℕ → ℕ) (s : SessionState) → IsSessionState mesh s → (view : ViewSeen) → s.view ≡ Some view → (tries : List (ℕ × ℕ)) (t : SessionState) → Finishes mesh told epochs s tries t → HasFinished mesh s tries t
finished mesh accepted told epochs s is view viewed tries t finishes =
    let before = after_steps mesh accepted told epochs s is tries finishes.last finishes.steps in
    let after = one_step mesh accepted s finishes.last t tries Done finishes.epoch before finishes.done in
    let P : SessionStep → Type 0 = λ r. r.did ≡ Done → HasDone r.state in
    let has : HasDone t = subst P (sym finishes.done) (step_done mesh finishes.epoch finishes.last before.is view (before.view ∙ viewed)) refl in
    record {
      is = after.is;
      done = has;
      tries_are = sym (round_tries t has) ∙ after.tries_are ∙ ap (λ (xs : List (ℕ × ℕ)). pairs_of (tries_of s) ++ xs) (append-nil tries);
    }
  where
    round_tries : (u : SessionState) (has : HasDone u) → pairs_of (tries_of u) ≡ pairs_of has.round.tries
    round_tries u has =
        ap (λ (printed : Bool). pairs_of (option_map_or (λ (r : Refining). r.tries) (cond printed None u.round) [])) has.going
        ∙ ap (λ (o : Option Refining). pairs_of (option_map_or (λ (r : Refining). r.tries) o [])) has.there

-- where no round went on before, these are the tries that were made
pub finished_tries : (mesh : MeshLists) → IsMesh mesh → (told : Bool) (epochs : ℕ → ℕ) (s : SessionState) → IsSessionState mesh s → unprinted_round s ≡ None → (view : ViewSeen) → s.view ≡ Some view → (tries : List (ℕ × ℕ)) (t : SessionState) → Finishes mesh told epochs s tries t → (has : HasDone t) × (pairs_of has.round.tries ≡ tries)
finished_tries mesh accepted told epochs s is none view viewed tries t finishes =
    let after = finished mesh accepted told epochs s is view viewed tries t finishes in
    (after.done, after.tries_are ∙ ap (λ (o : Option Refining). pairs_of (option_map_or (λ (r : Refining). r.tries) o []) ++ tries) none)
