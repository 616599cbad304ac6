-- A session finishes, whatever answers its tries are given.
use Rattle.std.proofs.Common.{◌≡◌, ℕ, zero, suc, ◌<◌, ◌⊎◌, Bool, true, false, List, [], ◌∷◌, ◌++◌, Some, None, refl, sym, ap, subst, ◌∙◌, append_assoc, append-nil, arith, inl, inr}
use Rattle.file_model.specs.declared.fields.Try.{Try}
use Rattle.mesh_model.specs.Meshes.{MeshLists, IsMesh}
use Rattle.round_model.specs.Rounds.{epochs_of}
use Rattle.round_model.specs.Views.{ViewSeen, view_rules}
use Rattle.session_model.specs.declared.steps.Stepped.{Stepped}
use Rattle.session_model.specs.declared.steps.Stepped.TheVariants.{Unlocked, Tried, Withdrew, GaveBack, Done}
use Rattle.session_model.specs.Sessions.{SessionState}
use Rattle.session_model.specs.Steps.{stepped, step, step_by, epoch_for, try_pairs, IsOfEpochs}
use Rattle.session_model.specs.SessionStates.{IsSessionState, unprinted_round}
use Rattle.session_model.specs.Does.{steps_left, IsStep}
use Rattle.session_laws.specs.StepLaws.{step_is}
use Rattle.session_laws.specs.NextStates.{step_by_is_of_epochs}
use Rattle.session_model.specs.DoneRounds.{AreWhole}
use Rattle.session_model.specs.Finishes.{Steps, NoStep, OneMore, Finishes, pairs_of, answers_in, AreGiven, FirstOf, GoPast, FinishesBy, FinishesAs}
use Rattle.session_laws.specs.FinishLaws.{finished, finished_tries}
use Rattle.session_model.specs.Told.{SessionTold}
use Rattle.session_laws.specs.ToldLaws.{told_finishes}
use Rattle.session_laws.specs.WholeLaws.{done_is_whole, whole_is_one}

-- one step, and then the others
pub steps_ahead : (mesh : MeshLists) (told : Bool) (epochs : ℕ → ℕ) (s t : SessionState) (did : Stepped) (epoch : ℕ)
    → stepped did t ≡ step mesh s epoch → (did ≡ Done → ⊥) → (told ≡ true → IsOfEpochs epochs did)
    → (tries : List (ℕ × ℕ)) (u : SessionState) → Steps mesh told epochs t tries u
    → Steps mesh told epochs s (try_pairs did ++ tries) u
steps_ahead mesh told epochs s t did epoch same going of_epochs _ _ NoStep =
    subst (λ (tries : List (ℕ × ℕ)). Steps mesh told epochs s tries t) (sym (append-nil (try_pairs did)))
    (OneMore [] s did epoch t NoStep same going of_epochs)
steps_ahead mesh told epochs s t did epoch same going of_epochs _ _ (OneMore tries u next by v steps is goes are) =
    subst (λ (pairs : List (ℕ × ℕ)). Steps mesh told epochs s pairs v)
    (append_assoc (try_pairs did) tries (try_pairs next))
    (OneMore (try_pairs did ++ tries) u next by v
    (steps_ahead mesh told epochs s t did epoch same going of_epochs tries u steps) is goes are)

-- ---- the answers, as they are used

-- the epoch that answers the next try
abbrev next_answer : List ℕ → ℕ
next_answer [] = 0
next_answer (e ∷ given) = e

abbrev later_answers : List ℕ → List ℕ
later_answers [] = []
later_answers (e ∷ given) = given

given_then : (given : List ℕ) (e : ℕ) (epochs : List ℕ) → e ≡ next_answer given
    → AreGiven (later_answers given) epochs → AreGiven given (e ∷ epochs)
given_then [] e epochs is later = GoPast (e ∷ epochs) refl
given_then (d ∷ given) e epochs is (FirstOf rest same) =
    FirstOf rest (ap (λ (es : List ℕ). e ∷ es) same ∙ ap (λ (x : ℕ). x ∷ given) is)
given_then (d ∷ given) e epochs is (GoPast more same) =
    GoPast more (ap (λ (x : ℕ). x ∷ (given ++ more)) (sym is) ∙ ap (λ (es : List ℕ). e ∷ es) same)

module _ (mesh : MeshLists) (epochs : ℕ → ℕ) where
  untold : (did : Stepped) → false ≡ true → IsOfEpochs epochs did
  untold did told = absurd (cc)

  -- a step that isn't done comes first
  ahead : (s t : SessionState) (did : Stepped) (epoch : ℕ) → stepped did t ≡ step mesh s epoch → (did ≡ Done → ⊥)
      → (given later : List ℕ) (rest : FinishesBy mesh epochs later t)
      → AreGiven given (answers_in (try_pairs did ++ rest.tries)) → FinishesBy mesh epochs given s
  ahead s t did epoch same going given later rest answers = record {
    tries = try_pairs did ++ rest.tries;
    last = rest.last;
    finishes = record {
      last = rest.finishes.last;
      steps =
          steps_ahead mesh false epochs s t did epoch same going (untold did)
          rest.tries rest.finishes.last rest.finishes.steps;
      epoch = rest.finishes.epoch;
      done = rest.finishes.done;
    };
    answers = answers;
  }

  by_step : (s t : SessionState) (given : List ℕ) (did : Stepped) (epoch : ℕ) → stepped did t ≡ step mesh s epoch
      → IsOfEpochs (λ p. next_answer given) did → (did ≡ Done) ⊎ (steps_left t < steps_left s)
      → (steps_left t < steps_left s → (later : List ℕ) → FinishesBy mesh epochs later t)
      → FinishesBy mesh epochs given s
  by_step s t given Done epoch same answered lowers next = record {
    tries = [];
    last = t;
    finishes = record { last = s; steps = NoStep; epoch = epoch; done = same };
    answers = FirstOf given refl;
  }
  by_step s t given (Tried p e) epoch same answered (inl done) next = absurd (cc)
  by_step s t given (Tried p e) epoch same answered (inr less) next =
      let rest = next less (later_answers given) in
      ahead s t (Tried p e) epoch same (λ done. absurd (cc)) given (later_answers given) rest
      (given_then given e (answers_in rest.tries) answered rest.answers)
  by_step s t given (Unlocked p) epoch same answered (inl done) next = absurd (cc)
  by_step s t given (Unlocked p) epoch same answered (inr less) next =
      let rest = next less given in
      ahead s t (Unlocked p) epoch same (λ done. absurd (cc)) given given rest rest.answers
  by_step s t given (Withdrew p) epoch same answered (inl done) next = absurd (cc)
  by_step s t given (Withdrew p) epoch same answered (inr less) next =
      let rest = next less given in
      ahead s t (Withdrew p) epoch same (λ done. absurd (cc)) given given rest rest.answers
  by_step s t given (GaveBack p) epoch same answered (inl done) next = absurd (cc)
  by_step s t given (GaveBack p) epoch same answered (inr less) next =
      let rest = next less given in
      ahead s t (GaveBack p) epoch same (λ done. absurd (cc)) given given rest rest.answers

  module _ (accepted : IsMesh mesh) where
    -- the next step, in which the next answer is given
    answered_step : (s : SessionState) → IsSessionState mesh s → (given : List ℕ)
        → IsStep mesh s (step_by mesh (λ p. next_answer given) s)
    unfolding step_by
    answered_step s is given = step_is mesh accepted s is (epoch_for (λ p. next_answer given) (step mesh s 0).did)

    is_by : (s : SessionState) (given : List ℕ)
        → step_by mesh (λ p. next_answer given) s ≡ step mesh s (epoch_for (λ p. next_answer given) (step mesh s 0).did)
    unfolding step_by
    is_by s given = refl

    finish_in : (most : ℕ) (s : SessionState) → steps_left s < most → IsSessionState mesh s → (given : List ℕ)
        → FinishesBy mesh epochs given s
    finish_in zero s few is given = absurd (omega arith)
    finish_in (suc most) s few is given =
        let x = step_by mesh (λ p. next_answer given) s in
        let one = answered_step s is given in
        by_step s x.state given x.did (epoch_for (λ p. next_answer given) (step mesh s 0).did) (is_by s given)
        (step_by_is_of_epochs mesh (λ p. next_answer given) s) one.lowers
        (λ less later. finish_in most x.state (omega arith) one.keeps later)

    pub finish_by : (given : List ℕ) (s : SessionState) → IsSessionState mesh s → FinishesBy mesh epochs given s
    finish_by given s is = finish_in (suc (steps_left s)) s (omega arith) is given

answers_are : (tries : List Try) → answers_in (pairs_of tries) ≡ epochs_of tries
answers_are [] = refl
answers_are (t ∷ tries) = ap (λ (epochs : List ℕ). t.epoch ∷ epochs) (answers_are tries)

-- the tries of a whole round are made by a session that no round goes on for
pub whole_finishes : (mesh : MeshLists) → IsMesh mesh → (epochs : ℕ → ℕ) (s : SessionState) → IsSessionState mesh s
    → unprinted_round s ≡ None → (view : ViewSeen) → s.view ≡ Some view → (tries : List Try)
    → AreWhole (view_rules view mesh) tries → FinishesAs mesh epochs s tries
whole_finishes mesh accepted epochs s is none view viewed tries whole =
    let by = finish_by mesh epochs accepted (epochs_of tries) s is in
    let after = finished mesh accepted false epochs s is view viewed by.tries by.last by.finishes in
    let made = finished_tries mesh accepted false epochs s is none view viewed by.tries by.last by.finishes in
    let answers : AreGiven (epochs_of tries) (epochs_of made.0.round.tries) =
    subst (λ (es : List ℕ). AreGiven (epochs_of tries) es)
    (ap answers_in (sym made.1) ∙ answers_are made.0.round.tries) by.answers in
    let done = done_is_whole mesh by.last after.is view (view_kept by.tries by.last by.finishes) made.0 in
    let same = whole_is_one (view_rules view mesh) tries made.0.round.tries whole done answers in
    record {
      last = by.last;
      finishes = subst (λ (pairs : List (ℕ × ℕ)). Finishes mesh false epochs s pairs by.last)
          (sym made.1 ∙ ap pairs_of same) by.finishes;
    }
  where
    view_kept : (made : List (ℕ × ℕ)) (t : SessionState) → Finishes mesh false epochs s made t → t.view ≡ Some view
    view_kept made t finishes =
        ap (λ (told : SessionTold). told.view) (told_finishes mesh false epochs s made t finishes) ∙ viewed
