-- A session finishes this round, and no other.
use Rattle.std.proofs.Common.{◌≡◌, ℕ, zero, suc, ◌<◌, Bool, true, false, cond, List, [], ◌++◌, Some, None, refl, sym, ap, subst, ◌∙◌, inl, inr, arith}
use Rattle.std.proofs.lemmas.Option.{same_Some}
use Rattle.mesh_model.specs.Meshes.{MeshLists, IsMesh}
use Rattle.round_model.specs.Refiners.{Refining}
use Rattle.round_model.specs.Views.{ViewSeen}
use Rattle.session_model.specs.declared.steps.Stepped.{Stepped}
use Rattle.session_model.specs.declared.steps.Stepped.TheVariants.{Unlocked, Tried, Withdrew, GaveBack, Done}
use Rattle.session_model.specs.Sessions.{SessionState}
use Rattle.session_model.specs.Steps.{stepped, step, step_by, epoch_for, try_pairs}
use Rattle.session_model.specs.SessionStates.{IsSessionState, unprinted_round}
use Rattle.session_model.specs.Does.{steps_left}
use Rattle.session_model.specs.Finishes.{NoStep, Finishes, pairs_of}
use Rattle.session_laws.specs.StepLaws.{step_is}
use Rattle.session_laws.specs.NextStates.{step_by_is_of_epochs}
use Rattle.session_laws.specs.FinishLaws.{finished_tries}
use Rattle.session_laws.specs.GivenAnswers.{steps_ahead}
use Rattle.run_laws.specs.OneSession.{finishes_one}
use Rattle.audit_last_rounds.specs.LastRounds.{RoundMade, is_done, step_then, made_within, round_made}

done_is : (did : Stepped) → is_done did ≡ true → did ≡ Done
done_is (Tried p epoch) is = absurd (cc)
done_is (Unlocked p) is = absurd (cc)
done_is (Withdrew p) is = absurd (cc)
done_is (GaveBack p) is = absurd (cc)
done_is Done is = refl

going_is : (did : Stepped) → is_done did ≡ false → did ≡ Done → ⊥
going_is did going done = let is = ap is_done done in absurd (cc)

-- what finishes with what was made
abbrev FinishesSo : MeshLists → (ℕ → ℕ) → SessionState → RoundMade → Type 0
FinishesSo mesh epochs s made = Finishes mesh true epochs s made.tries made.last

module _ (mesh : MeshLists) (accepted : IsMesh mesh) (epochs : ℕ → ℕ) where
  abbrev answer : SessionState → ℕ
  answer s = epoch_for epochs (step mesh s 0).did

  last_step : (s : SessionState) → (step_by mesh epochs s).did ≡ Done
      → FinishesSo mesh epochs s (record { tries = []; last = (step_by mesh epochs s).state })
  unfolding step_by
  last_step s done = record {
    last = s;
    steps = NoStep;
    epoch = answer s;
    done = ap (λ (did : Stepped). stepped did (step_by mesh epochs s).state) (sym done);
  }

  more_steps : (s : SessionState) → ((step_by mesh epochs s).did ≡ Done → ⊥) → (rest : RoundMade)
      → FinishesSo mesh epochs (step_by mesh epochs s).state rest
      → FinishesSo mesh epochs s
      (record { tries = try_pairs (step_by mesh epochs s).did ++ rest.tries; last = rest.last })
  unfolding step_by
  more_steps s going rest finishes =
      let x = step_by mesh epochs s in
      record {
        last = finishes.last;
        steps = steps_ahead mesh true epochs s x.state x.did (answer s) refl going
            (λ told. step_by_is_of_epochs mesh epochs s) rest.tries finishes.last finishes.steps;
        epoch = finishes.epoch;
        done = finishes.done;
      }

  lowers_by : (s : SessionState) → IsSessionState mesh s → ((step_by mesh epochs s).did ≡ Done → ⊥)
      → steps_left (step_by mesh epochs s).state < steps_left s
  unfolding step_by
  lowers_by s is going = elim
      (step_is mesh accepted s is (answer s)).lowers [ inl done ↦ absurd (going done) | inr less ↦ less ]

  keeps_by : (s : SessionState) → IsSessionState mesh s → IsSessionState mesh (step_by mesh epochs s).state
  unfolding step_by
  keeps_by s is = (step_is mesh accepted s is (answer s)).keeps

  -- what a step makes, and what follows it
  abbrev If : SessionState → RoundMade → Bool → RoundMade
  If s rest done = cond done (record { tries = []; last = (step_by mesh epochs s).state })
      (record { tries = try_pairs (step_by mesh epochs s).did ++ rest.tries; last = rest.last })

  by_done : (s : SessionState) (rest : RoundMade) (done : Bool) → is_done (step_by mesh epochs s).did ≡ done
      → (((step_by mesh epochs s).did ≡ Done → ⊥) → FinishesSo mesh epochs (step_by mesh epochs s).state rest)
      → FinishesSo mesh epochs s (step_then (step_by mesh epochs s) rest)
  by_done s rest true done on = subst (λ (b : Bool). FinishesSo mesh epochs s (If s rest b)) (sym done)
      (last_step s (done_is (step_by mesh epochs s).did done))
  by_done s rest false done on =
      let going = going_is (step_by mesh epochs s).did done in
      subst (λ (b : Bool). FinishesSo mesh epochs s (If s rest b)) (sym done) (more_steps s going rest (on going))

  finishes_within : (most : ℕ) (s : SessionState) → IsSessionState mesh s → steps_left s < most
      → FinishesSo mesh epochs s (made_within mesh epochs most s)
  finishes_within zero s is few = absurd (omega arith)
  finishes_within (suc most) s is few =
      by_done s (made_within mesh epochs most (step_by mesh epochs s).state) (is_done (step_by mesh epochs s).did) refl
      (λ going. finishes_within most (step_by mesh epochs s).state (keeps_by s is)
      (let less = lowers_by s is going in omega arith))

  -- the session finishes so
  pub finishes_so : (s : SessionState) → IsSessionState mesh s → FinishesSo mesh epochs s (round_made mesh epochs s)
  finishes_so s is = finishes_within (suc (steps_left s)) s is (omega arith)

-- what is finished by epochs is one
pub record IsMade (mesh : MeshLists) (epochs : ℕ → ℕ) (s : SessionState) (tries : List (ℕ × ℕ))
    (t : SessionState) : Type 0 where
  pub tries_are : tries ≡ (round_made mesh epochs s).tries
  pub last_is : t ≡ (round_made mesh epochs s).last

pub finishes_is : (mesh : MeshLists) → IsMesh mesh → (epochs : ℕ → ℕ) (s : SessionState) → IsSessionState mesh s
    → unprinted_round s ≡ None → (view : ViewSeen) → s.view ≡ Some view → (tries : List (ℕ × ℕ)) (t : SessionState)
    → Finishes mesh true epochs s tries t → IsMade mesh epochs s tries t
finishes_is mesh accepted epochs s is none view viewed tries t finishes =
    let made = round_made mesh epochs s in
    let so = finishes_so mesh accepted epochs s is in
    let same = finishes_one mesh epochs s tries made.tries t made.last finishes so in
    let first = finished_tries mesh accepted true epochs s is none view viewed tries t finishes in
    let second = finished_tries mesh accepted true epochs s is none view viewed made.tries made.last so in
    let rounds : first.0.round ≡ second.0.round = same_Some first.0.round second.0.round
    (sym first.0.there ∙ ap (λ (u : SessionState). u.round) same ∙ second.0.there) in
    record {
      tries_are = sym first.1 ∙ ap (λ (r : Refining). pairs_of r.tries) rounds ∙ second.1;
      last_is = same;
    }
