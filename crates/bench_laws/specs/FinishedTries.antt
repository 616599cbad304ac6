-- The tries that a session's steps made are answered by the epochs that the steps were told.
use Rattle.std.proofs.Common.{◌≡◌, ℕ, true, List, [], ◌∷◌, Some, None, refl, sym, subst, ◌∙◌}
use Rattle.std.specs.List.{AllByRecursion}
use Rattle.std.proofs.lemmas.Option.{same_Some}
use Rattle.file_model.specs.declared.fields.Try.{Try}
use Rattle.mesh_model.specs.Meshes.{MeshLists, IsMesh}
use Rattle.round_model.specs.Refiners.{Refining}
use Rattle.round_model.specs.Views.{ViewSeen}
use Rattle.strip_laws.specs.Kinds.{each_append}
use Rattle.session_model.specs.declared.steps.Stepped.{Stepped}
use Rattle.session_model.specs.declared.steps.Stepped.TheVariants.{Unlocked, Tried, Withdrew, GaveBack, Done}
use Rattle.session_model.specs.Sessions.{SessionState}
use Rattle.session_model.specs.Steps.{try_pairs, IsOfEpochs}
use Rattle.session_model.specs.SessionStates.{IsSessionState, unprinted_round}
use Rattle.session_model.specs.DoneRounds.{HasDone}
use Rattle.session_model.specs.Finishes.{Steps, NoStep, OneMore, Finishes, pairs_of}
use Rattle.session_laws.specs.FinishLaws.{finished_tries}
use Rattle.detail_laws.specs.Wanted.{AreAnsweredBy}

-- each patch with its epoch
abbrev AreOf : (ℕ → ℕ) → List (ℕ × ℕ) → Type 0
AreOf epochs pairs = AllByRecursion (λ (pair : ℕ × ℕ). pair.1 ≡ epochs pair.0) pairs

pairs_answered : (epochs : ℕ → ℕ) (tries : List Try) → AreOf epochs (pairs_of tries) → AreAnsweredBy epochs tries
pairs_answered epochs [] all = tt
pairs_answered epochs (t ∷ ts) all = (all.0, pairs_answered epochs ts all.1)

one_of : (epochs : ℕ → ℕ) (did : Stepped) → IsOfEpochs epochs did → AreOf epochs (try_pairs did)
one_of epochs (Tried p epoch) is = (is, tt)
one_of epochs (Unlocked p) is = tt
one_of epochs (Withdrew p) is = tt
one_of epochs (GaveBack p) is = tt
one_of epochs Done is = tt

steps_of : (mesh : MeshLists) (epochs : ℕ → ℕ) (s : SessionState) (tries : List (ℕ × ℕ)) (t : SessionState) → Steps mesh true epochs s tries t → AreOf epochs tries
steps_of mesh epochs s _ _ NoStep = tt
steps_of mesh epochs s _ _ (OneMore tries t did epoch u steps same going of_epochs) =
    each_append (λ (pair : ℕ × ℕ). pair.1 ≡ epochs pair.0) tries (try_pairs did) (steps_of mesh epochs s tries t steps) (one_of epochs did (of_epochs refl))

pub finished_answered : (mesh : MeshLists) → IsMesh mesh → (epochs : ℕ → ℕ) (s : SessionState) → IsSessionState mesh s → unprinted_round s ≡ None → (view : ViewSeen) → s.view ≡ Some view → (tries : List (ℕ × ℕ)) (t : SessionState) → Finishes mesh true epochs s tries t → (done : HasDone t) → AreAnsweredBy epochs done.round.tries
finished_answered mesh accepted epochs s is none view viewed tries t finishes done =
    let found = finished_tries mesh accepted true epochs s is none view viewed tries t finishes in
    let same : found.0.round ≡ done.round = same_Some found.0.round done.round (sym found.0.there ∙ done.there) in
    subst (λ (r : Refining). AreAnsweredBy epochs r.tries) same
    (pairs_answered epochs found.0.round.tries (subst (AreOf epochs) (sym found.1) (steps_of mesh epochs s tries finishes.last finishes.steps)))
