-- A step is made of its parts.
use Rattle.std.proofs.Common.{◌≡◌, ℕ, ◌<◌, ◌⊎◌, true, false, Option, Some, None, Result, Ok, Err, refl, sym, ap, subst, ◌∙◌}
use Rattle.std.specs.Option.{option_map_or, option_or, option_map, is_none}
use Rattle.std.specs.Prelude.{IfErr}
use Rattle.round_model.specs.declared.asks.Ask.{Ask}
use Rattle.round_model.specs.declared.asks.Ask.TheVariants.{Lock, GiveBack, Done as NothingAsked}
use Rattle.round_model.specs.Views.{ViewSeen}
use Rattle.round_model.specs.Refiners.{Refining, pending_ask, after_release}
use Rattle.session_model.specs.declared.steps.Stepped.{Stepped}
use Rattle.session_model.specs.declared.steps.Stepped.TheVariants.{Unlocked, Tried, Withdrew, GaveBack, Done}
use Rattle.session_model.specs.Sessions.{SessionState, is_left_over, uses, least_old, round_ended, settled, without_flight, without_old}
use Rattle.session_model.specs.Steps.{SessionStep, stepped, begun_round, round_or_begun, with_round, after_try, answer_ask, go_on, unlock_or, withdraw_or, step, FreeStep, freed, free_old, free_or, free_step}
use Rattle.session_laws.specs.StateLaws.{ended_like, settled_is, settled_like, settled_going}
use Rattle.session_laws.specs.FreeLaws.{free_step_is}
use Rattle.session_model.specs.Freeing.{DoesFree, Frees}
use Rattle.session_model.specs.Does.{steps_left}
use Rattle.session_laws.specs.StepLaws.{step_is, same_ask}
use Rattle.session_laws.specs.RoundSteps.{none_old_in}
use Rattle.session_locks.specs.Sessions.{SessionSeen, with_state, IsSession}
use Rattle.session_locks.specs.Taken.{asked_of, Starts, GoesOn, TakesStep, Stops, TakesFreeStep}

round_is : (r t : Refining) → Some r ≡ Some t → r ≡ t
round_is r t e = cc

taken : (old new : SessionSeen) (did : Stepped) (epoch : ℕ) → IsSession old → new.mesh ≡ old.mesh → new.number ≡ old.number → stepped did new.state ≡ step old.mesh old.state epoch → TakesStep old did new
taken old new did epoch session mesh number is =
    let one = step_is old.mesh session.accepted old.state session.is epoch in
    let P : SessionStep → Type 0 = λ r. (r.did ≡ Done) ⊎ (steps_left r.state < steps_left old.state) in
    record {
      mesh = mesh;
      number = number;
      view = ap (λ (r : SessionStep). r.state.view) is ∙ one.view;
      epoch = epoch;
      is = is;
      lowers = subst P (sym is) one.lowers;
    }

-- a refused try is withdrawn
pub withdraw_taken : (old new : SessionSeen) (p : ℕ) → IsSession old → old.state.flight ≡ Some p → new ≡ with_state old (without_flight old.state) → TakesStep old (Withdrew p) new
unfolding step
withdraw_taken old new p session there is =
    taken old new (Withdrew p) 0 session (ap (λ (s : SessionSeen). s.mesh) is) (ap (λ (s : SessionSeen). s.number) is)
    (ap (λ (s : SessionSeen). stepped (Withdrew p) s.state) is ∙ ap (withdraw_or old.mesh old.state 0) (sym there))

-- an old lock is given back
pub unlock_taken : (old mid new : SessionSeen) (p : ℕ) → IsSession old → old.state.flight ≡ None → mid ≡ with_state old (settled old.state) → least_old mid.state ≡ Some p → new ≡ with_state mid (without_old mid.state p) → TakesStep old (Unlocked p) new
unfolding step
unlock_taken old mid new p session none settles there is =
    let state : new.state ≡ without_old (settled old.state) p = ap (λ (s : SessionSeen). s.state) is ∙ ap (λ (s : SessionSeen). without_old s.state p) settles in
    let least : least_old (settled old.state) ≡ Some p = ap (λ (s : SessionSeen). least_old s.state) (sym settles) ∙ there in
    taken old new (Unlocked p) 0 session (ap (λ (s : SessionSeen). s.mesh) is ∙ ap (λ (s : SessionSeen). s.mesh) settles) (ap (λ (s : SessionSeen). s.number) is ∙ ap (λ (s : SessionSeen). s.number) settles)
    (ap (stepped (Unlocked p)) state ∙ ap (unlock_or old.mesh (settled old.state) 0) (sym least) ∙ ap (withdraw_or old.mesh old.state 0) (sym none))

-- the round goes on
pub round_taken : (old mid started new : SessionSeen) (did : Stepped) → IsSession old → old.state.flight ≡ None → mid ≡ with_state old (settled old.state) → least_old mid.state ≡ None → Starts mid started → GoesOn started did new → TakesStep old did new
unfolding step
round_taken old mid started new did session none settles least starts goes =
    let r = starts.round in
    let t = settled old.state in
    let there : started.state.round ≡ Some r = ap (λ (s : SessionSeen). s.state.round) starts.is in
    let same : goes.round ≡ r = round_is goes.round r (sym goes.there ∙ there) in
    let begun : started.state ≡ with_round t r = ap (λ (s : SessionSeen). s.state) starts.is ∙ ap (λ (s : SessionSeen). with_round s.state r) settles in
    let or_begun : Some r ≡ round_or_begun old.mesh t = sym starts.or_begun ∙ ap (λ (s : SessionSeen). round_or_begun s.mesh s.state) settles in
    let least_is : None ≡ least_old t = sym least ∙ ap (λ (s : SessionSeen). least_old s.state) settles in
    taken old new did goes.epoch session (goes.mesh ∙ ap (λ (s : SessionSeen). s.mesh) starts.is ∙ ap (λ (s : SessionSeen). s.mesh) settles) (goes.number ∙ ap (λ (s : SessionSeen). s.number) starts.is ∙ ap (λ (s : SessionSeen). s.number) settles)
    (goes.is
    ∙ ap (λ (u : Refining). answer_ask started.state u goes.epoch (pending_ask u)) same
    ∙ ap (λ (s : SessionState). answer_ask s r goes.epoch (pending_ask r)) begun
    ∙ same_ask t r goes.epoch (pending_ask r)
    ∙ ap (go_on t goes.epoch) or_begun
    ∙ ap (unlock_or old.mesh t goes.epoch) least_is
    ∙ ap (withdraw_or old.mesh old.state goes.epoch) (sym none))

-- ---- between the parts

module _ (old mid : SessionSeen) (session : IsSession old) (settles : mid ≡ with_state old (settled old.state)) where
  pub settled_flight : mid.state.flight ≡ old.state.flight
  settled_flight = ap (λ (s : SessionSeen). s.state.flight) settles ∙ (settled_like old.mesh old.state session.is).flight

  pub settled_view : mid.state.view ≡ old.state.view
  settled_view = ap (λ (s : SessionSeen). s.state.view) settles ∙ (settled_like old.mesh old.state session.is).view

  pub settled_printed : mid.state.printed ≡ false
  settled_printed = ap (λ (s : SessionSeen). s.state.printed) settles ∙ settled_going old.state

  -- there was no memory for a round
  pub stopped : (new : SessionSeen) → old.state.flight ≡ None → least_old mid.state ≡ None → new ≡ mid → mid.state.round ≡ None → Stops old new
  stopped new none least same no_round = record {
    is = same ∙ settles;
    no_round = ap (λ (s : SessionSeen). s.state.round) same ∙ no_round;
    no_old = λ p. ap (λ (s : SessionSeen). is_left_over s.state p) same ∙ none_old_in mid.state least p;
    no_flight = ap (λ (s : SessionSeen). s.state.flight) same ∙ settled_flight ∙ none;
  }

  pub session_settled : (new : SessionSeen) → new ≡ mid → IsSession new
  session_settled new same = subst IsSession (sym (same ∙ settles)) (record { accepted = session.accepted; is = settled_is old.mesh old.state session.is })

pub left_over_gone : (mid : SessionSeen) → least_old mid.state ≡ None → (p : ℕ) → is_left_over mid.state p ≡ false
left_over_gone mid least = none_old_in mid.state least

pub started_flight : (mid started : SessionSeen) → Starts mid started → started.state.flight ≡ mid.state.flight
started_flight mid started starts = ap (λ (s : SessionSeen). s.state.flight) starts.is

pub started_printed : (mid started : SessionSeen) → Starts mid started → started.state.printed ≡ mid.state.printed
started_printed mid started starts = ap (λ (s : SessionSeen). s.state.printed) starts.is

pub on_any : {T E : Type 0} (P : Type 0) (result : Result T E) → P → IfErr result (λ e. P)
on_any P (Ok x) is = tt
on_any P (Err e) is = is

-- ---- a round that begins, or stands

pub starts_begun : (old new : SessionSeen) (view : ViewSeen) → is_none old.state.round ≡ true → old.state.view ≡ Some view → new ≡ with_state old (with_round old.state (begun_round old.mesh view)) → Starts old new
starts_begun old new view none viewed is = record { round = begun_round old.mesh view; or_begun = of_round old.state.round none; is = is }
  where
    of_round : (o : Option Refining) → is_none o ≡ true → option_or o (option_map (begun_round old.mesh) old.state.view) ≡ Some (begun_round old.mesh view)
    of_round None e = ap (option_map (begun_round old.mesh)) viewed
    of_round (Some r) e = absurd (cc)

pub starts_still : (old : SessionSeen) → is_none old.state.round ≡ false → Starts old old
starts_still old some = of_round old.state.round refl some
  where
    of_round : (o : Option Refining) → old.state.round ≡ o → is_none o ≡ false → Starts old old
    of_round None e some = absurd (cc)
    of_round (Some r) e some = record {
      round = r;
      or_begun = ap (λ (o : Option Refining). option_or o (option_map (begun_round old.mesh) old.state.view)) e;
      is = ap (λ (o : Option Refining). with_state old (record old.state { round = o })) e;
    }

-- ---- what is asked for is done

asks_is : (old : SessionSeen) (r : Refining) (ask : Ask) → old.state.round ≡ Some r → asked_of old.state ≡ ask → ask ≡ pending_ask r
asks_is old r ask there asks = sym asks ∙ ap (λ (o : Option Refining). option_map_or pending_ask o NothingAsked) there

pub goes_try : (old new : SessionSeen) (r : Refining) (p epoch : ℕ) → old.state.round ≡ Some r → asked_of old.state ≡ Lock p → new ≡ with_state old (after_try old.state r p epoch) → GoesOn old (Tried p epoch) new
goes_try old new r p epoch there asks is = record {
  mesh = ap (λ (s : SessionSeen). s.mesh) is;
  number = ap (λ (s : SessionSeen). s.number) is;
  round = r;
  there = there;
  epoch = epoch;
  is = ap (λ (s : SessionSeen). stepped (Tried p epoch) s.state) is ∙ ap (answer_ask old.state r epoch) (asks_is old r (Lock p) there asks);
}

pub goes_back : (old new : SessionSeen) (r : Refining) (p : ℕ) → old.state.round ≡ Some r → asked_of old.state ≡ GiveBack p → new ≡ with_state old (with_round old.state (after_release r)) → GoesOn old (GaveBack p) new
goes_back old new r p there asks is = record {
  mesh = ap (λ (s : SessionSeen). s.mesh) is;
  number = ap (λ (s : SessionSeen). s.number) is;
  round = r;
  there = there;
  epoch = 0;
  is = ap (λ (s : SessionSeen). stepped (GaveBack p) s.state) is ∙ ap (answer_ask old.state r 0) (asks_is old r (GiveBack p) there asks);
}

-- ---- a step towards no use

pub ended_printed : (old mid : SessionSeen) → mid ≡ with_state old (round_ended old.state) → mid.state.printed ≡ false
unfolding round_ended
ended_printed old mid ends = ap (λ (s : SessionSeen). s.state.printed) ends

module _ (old mid new : SessionSeen) (session : IsSession old) (ends : mid ≡ with_state old (round_ended old.state)) where
  ended_state : mid.state ≡ round_ended old.state
  ended_state = ap (λ (s : SessionSeen). s.state) ends

  pub ended_flight : mid.state.flight ≡ old.state.flight
  ended_flight = ap (λ (s : SessionState). s.flight) ended_state ∙ (ended_like old.mesh old.state session.is).flight

  freed_by : (did : Option Stepped) (t : SessionState) → new ≡ with_state mid t → freed did t ≡ free_step old.state → TakesFreeStep old did new
  freed_by did t is same =
      let frees = free_step_is old.mesh session.accepted old.state session.is in
      let result : freed did new.state ≡ free_step old.state = ap (λ (s : SessionSeen). freed did s.state) is ∙ same in
      let P : FreeStep → Type 0 = λ r. Frees old.state r.did r.state in
      let Q : FreeStep → Type 0 = λ r. r.did ≡ None → (p : ℕ) → uses old.state p ≡ false in
      record {
        mesh = ap (λ (s : SessionSeen). s.mesh) is ∙ ap (λ (s : SessionSeen). s.mesh) ends;
        number = ap (λ (s : SessionSeen). s.number) is ∙ ap (λ (s : SessionSeen). s.number) ends;
        is = result;
        frees = subst P (sym result) frees.frees;
        free = subst Q (sym result) (λ none. none_free (free_step old.state).did (free_step old.state).state frees.does none);
      }
    where
      none_free : (o : Option Stepped) (t : SessionState) → DoesFree old.state o t → o ≡ None → (p : ℕ) → uses old.state p ≡ false
      none_free None t does e = does.free
      none_free (Some did) t does e = absurd (cc)

  pub free_withdraws : (p : ℕ) → mid.state.flight ≡ Some p → new ≡ with_state mid (without_flight mid.state) → TakesFreeStep old (Some (Withdrew p)) new
  unfolding free_step
  free_withdraws p there is =
      freed_by (Some (Withdrew p)) (without_flight mid.state) is
      (ap (λ (s : SessionState). freed (Some (Withdrew p)) (without_flight s)) ended_state ∙ ap (free_or (round_ended old.state)) (sym there ∙ ended_flight))

  pub free_unlocks : (p : ℕ) → mid.state.flight ≡ None → least_old mid.state ≡ Some p → new ≡ with_state mid (without_old mid.state p) → TakesFreeStep old (Some (Unlocked p)) new
  unfolding free_step
  free_unlocks p none least is =
      freed_by (Some (Unlocked p)) (without_old mid.state p) is
      (ap (λ (s : SessionState). freed (Some (Unlocked p)) (without_old s p)) ended_state ∙ ap (free_old (round_ended old.state)) (sym least ∙ ap least_old ended_state) ∙ ap (free_or (round_ended old.state)) (sym none ∙ ended_flight))

  pub free_is_free : mid.state.flight ≡ None → least_old mid.state ≡ None → new ≡ mid → TakesFreeStep old None new
  unfolding free_step
  free_is_free none least is =
      freed_by None mid.state is
      (ap (λ (s : SessionState). freed None s) ended_state ∙ ap (free_old (round_ended old.state)) (sym least ∙ ap least_old ended_state) ∙ ap (free_or (round_ended old.state)) (sym none ∙ ended_flight))
