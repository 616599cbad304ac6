-- Steps that are under way until a round is done.
use Rattle.std.proofs.Common.{◌≡◌, ℕ, Bool, true, List, [], ◌++◌, Some, Result, Ok, Err, refl, sym, ap, ◌∙◌, append_assoc, append-nil}
use Rattle.mesh_model.specs.Meshes.{MeshLists}
use Rattle.round_model.specs.Views.{ViewSeen}
use Rattle.token_words.specs.Changes.{Stays, ChangesOnly}
use Rattle.session_model.specs.declared.steps.Stepped.{Stepped}
use Rattle.session_model.specs.declared.steps.Stepped.TheVariants.{Unlocked, Tried, Withdrew, GaveBack, Done}
use Rattle.session_model.specs.Sessions.{settled}
use Rattle.session_model.specs.Steps.{stepped, step, try_pairs, IsOfEpochs}
use Rattle.session_model.specs.Finishes.{Steps, NoStep, OneMore, Finishes}
use Rattle.session_laws.specs.FinishLaws.{after_steps, finished}
use Rattle.session_locks.specs.Sessions.{SessionSeen, IsSession}
use Rattle.session_locks.specs.Taken.{TakesStep, Stops, TakesSteps}

abbrev pub ok_of : {T E : Type 0} → T → Result T E
ok_of x = Ok x

abbrev pub err_of : {T E : Type 0} → E → Result T E
err_of e = Err e

-- steps were made, none of them done
pub record AreUnderWay (told : Bool) (epochs : ℕ → ℕ) (tells_tries : Bool) (before after : List (ℕ × ℕ)) (old now : SessionSeen) : Type 0 where
  pub session : IsSession old
  pub tries : List (ℕ × ℕ)
  pub grown : tells_tries ≡ true → after ≡ before ++ tries
  pub mesh : now.mesh ≡ old.mesh
  pub number : now.number ≡ old.number
  pub steps : Steps old.mesh told epochs old.state tries now.state

pub under_way_first : (told : Bool) (epochs : ℕ → ℕ) (tells_tries : Bool) (before : List (ℕ × ℕ)) (old : SessionSeen) → IsSession old → AreUnderWay told epochs tells_tries before before old old
under_way_first told epochs tells_tries before old session = record {
  session = session;
  tries = [];
  grown = λ tells. sym (append-nil before);
  mesh = refl;
  number = refl;
  steps = NoStep;
}

-- of epochs that stay
of_same_epochs : (epochs now : ℕ → ℕ) (did : Stepped) → Stays epochs now → IsOfEpochs now did → IsOfEpochs epochs did
of_same_epochs epochs now (Tried p epoch) same is = is ∙ same p
of_same_epochs epochs now (Unlocked p) same is = tt
of_same_epochs epochs now (Withdrew p) same is = tt
of_same_epochs epochs now (GaveBack p) same is = tt
of_same_epochs epochs now Done same is = tt

module _ (told : Bool) (epochs now_epochs : ℕ → ℕ) (tells_tries : Bool) (before after then : List (ℕ × ℕ)) (old mid new : SessionSeen) (way : AreUnderWay told epochs tells_tries before after old mid) where
  pub way_view : (view : ViewSeen) → old.state.view ≡ Some view → mid.state.view ≡ Some view
  way_view view viewed = (after_steps old.mesh way.session.accepted told epochs old.state way.session.is way.tries mid.state way.steps).view ∙ viewed

  grown_by : (did : Stepped) → (tells_tries ≡ true → then ≡ after ++ try_pairs did) → tells_tries ≡ true → then ≡ before ++ (way.tries ++ try_pairs did)
  grown_by did grows tells = grows tells ∙ ap (λ (xs : List (ℕ × ℕ)). xs ++ try_pairs did) (way.grown tells) ∙ append_assoc before way.tries (try_pairs did)

  step_same : (did : Stepped) → (takes : TakesStep mid did new) → stepped did new.state ≡ step old.mesh mid.state takes.epoch
  step_same did takes = takes.is ∙ ap (λ (m : MeshLists). step m mid.state takes.epoch) way.mesh

  pub under_way_more : (did : Stepped) → TakesStep mid did new → (did ≡ Done → ⊥) → (told ≡ true → Stays epochs now_epochs) → (told ≡ true → IsOfEpochs now_epochs did) → (tells_tries ≡ true → then ≡ after ++ try_pairs did) → AreUnderWay told epochs tells_tries before then old new
  under_way_more did takes going same of_epochs grows = record {
    session = way.session;
    tries = way.tries ++ try_pairs did;
    grown = grown_by did grows;
    mesh = takes.mesh ∙ way.mesh;
    number = takes.number ∙ way.number;
    steps = OneMore way.tries mid.state did takes.epoch new.state way.steps (step_same did takes) going (λ t. of_same_epochs epochs now_epochs did (same t) (of_epochs t));
  }

  pub under_way_done : (T E : Type 0) (result : T) → (view : ViewSeen) → old.state.view ≡ Some view → TakesStep mid Done new → (tells_tries ≡ true → then ≡ after ++ []) → TakesSteps told epochs tells_tries before then old (ok_of {T = T} {E = E} result) new
  under_way_done T E result view viewed takes grows =
      let finishes : Finishes old.mesh told epochs old.state way.tries new.state = record { last = mid.state; steps = way.steps; epoch = takes.epoch; done = step_same Done takes } in
      record {
        tries = way.tries;
        grown = λ tells. grows tells ∙ append-nil after ∙ way.grown tells;
        ends = record {
          mesh = takes.mesh ∙ way.mesh;
          number = takes.number ∙ way.number;
          finishes = finishes;
          finished = finished old.mesh way.session.accepted told epochs old.state way.session.is view viewed way.tries new.state finishes;
        };
      }

  pub under_way_stops : (T E : Type 0) (error : E) → Stops mid new → (tells_tries ≡ true → then ≡ after ++ []) → TakesSteps told epochs tells_tries before then old (err_of {T = T} {E = E} error) new
  under_way_stops T E error stops grows = record {
    tries = way.tries;
    grown = λ tells. grows tells ∙ append-nil after ∙ way.grown tells;
    ends = record {
      last = mid.state;
      steps = way.steps;
      stops = record {
        is = stops.is ∙ ap (λ (m : MeshLists). record { mesh = m; number = mid.number; state = settled mid.state }) way.mesh ∙ ap (λ (n : ℕ). record { mesh = old.mesh; number = n; state = settled mid.state }) way.number;
        no_round = stops.no_round;
        no_old = stops.no_old;
        no_flight = stops.no_flight;
      };
    };
  }

pub changes_then : (n m : ℕ) (a b c : ℕ → ℕ → Bool) → m ≡ n → ChangesOnly n a b → ChangesOnly m b c → ChangesOnly n a c
changes_then n m a b c same first second s apart p = second s (λ equal. apart (equal ∙ same)) p ∙ first s apart p
