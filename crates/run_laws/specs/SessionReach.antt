-- The steps of a line are events.
use Rattle.std.proofs.Common.{◌≡◌, ℕ, Bool, true, false, eqb, cond, List, Option, Some, refl, sym, ap, ap₂, subst, ◌∙◌}
use Rattle.std.proofs.Math.Path.{fun_ext}
use Rattle.mesh_model.specs.Meshes.{MeshLists}
use Rattle.round_model.specs.Views.{ViewSeen}
use Rattle.session_model.specs.declared.steps.Stepped.{Stepped}
use Rattle.session_model.specs.declared.steps.Stepped.TheVariants.{Done}
use Rattle.session_model.specs.Sessions.{SessionState}
use Rattle.session_model.specs.Steps.{SessionStep, stepped, step, IsOfEpochs, step_by, free_step}
use Rattle.session_laws.specs.NextStates.{is_step_by}
use Rattle.session_model.specs.Finishes.{Steps, NoStep, OneMore, Finishes}
use Rattle.tier_model.specs.Chains.{Chain}
use Rattle.tier_model.specs.Ranks.{Posted}
use Rattle.run_model.specs.Worlds.{World}
use Rattle.run_model.specs.States.{State, put, seat_uses, seated, posting}
use Rattle.run_model.specs.Events.{Happens, Frees, Reaches, Stays, Then}
use Rattle.run_model.specs.Events.{Steps as SessionSteps}
use Rattle.run_laws.specs.SeatLaws.{put_here}
use Rattle.session_model.specs.Freeing.{FreesAll, NoUse, MoreUse}
use Rattle.session_model.specs.Told.{SessionTold}
use Rattle.session_laws.specs.ToldLaws.{told_step, told_steps, told_finishes}

-- ---- events one after another

pub reaches_both : (w : World) (a b c : State) → Reaches w a b → Reaches w b c → Reaches w a c
reaches_both w a b c Stays more = more
reaches_both w a b c (Then {b = next} event rest) more = Then event (reaches_both w next b c rest more)

pub reaches_one : (w : World) (a b : State) → Happens w a b → Reaches w a b
reaches_one w a b event = Then event Stays

pub reaches_then : (w : World) (a b c : State) → Reaches w a b → Happens w b c → Reaches w a c
reaches_then w a b c reaches event = reaches_both w a b c reaches (reaches_one w b c event)

-- ---- a session that changed twice changed once

put_twice : {A : Type 0} (f : ℕ → A) (i : ℕ) (x y : A) (j : ℕ) → put (put f i x) i y j ≡ put f i y j
put_twice f i x y j = chosen (eqb j i)
  where
    chosen : (here : Bool) → cond here y (cond here x (f j)) ≡ cond here y (f j)
    chosen true = refl
    chosen false = refl

pub seat_twice : (a : State) (i : ℕ) (x y : Option SessionState) → seated (seated a i x) i y ≡ seated a i y
unfolding seated
seat_twice a i x y =
    ap₂ (λ (users : ℕ → ℕ → Bool) (sessions : ℕ → Option SessionState). record a { users = users; sessions = sessions })
    (fun_ext (put_twice a.users i (seat_uses x) (seat_uses y))) (fun_ext (put_twice a.sessions i x y))

pub seat_then_post : (a : State) (i : ℕ) (x : Option SessionState) (view : Option Posted) → posting (seated a i x) i view ≡ seated (posting a i view) i x
unfolding seated posting
seat_then_post a i x view = refl

pub seat_at : (a : State) (i : ℕ) (x : Option SessionState) → (seated a i x).sessions i ≡ x
unfolding seated
seat_at a i x = put_here a.sessions i x

pub seat_chain : (a : State) (i : ℕ) (x : Option SessionState) → (seated a i x).chain ≡ a.chain
unfolding seated
seat_chain a i x = refl

pub seat_posted : (a : State) (i : ℕ) (x : Option SessionState) → (seated a i x).posted ≡ a.posted
unfolding seated
seat_posted a i x = refl

-- the state is reached, and differs from the first in this session alone, which is in this state
pub record GoesTo (w : World) (a : State) (i : ℕ) (s : SessionState) (b : State) : Type 0 where
  pub reaches : Reaches w a b
  pub chain : b.chain ≡ a.chain
  pub at : b.sessions i ≡ Some s
  pub again : (seat : Option SessionState) → seated b i seat ≡ seated a i seat

pub goes_nowhere : (w : World) (a : State) (i : ℕ) (s : SessionState) → a.sessions i ≡ Some s → GoesTo w a i s a
goes_nowhere w a i s at = record { reaches = Stays; chain = refl; at = at; again = λ seat. refl }

goes_on : (w : World) (a b : State) (i : ℕ) (s t : SessionState) → GoesTo w a i s b → Happens w b (seated b i (Some t)) → GoesTo w a i t (seated b i (Some t))
goes_on w a b i s t goes event = record {
  reaches = reaches_then w a b (seated b i (Some t)) goes.reaches event;
  chain = seat_chain b i (Some t) ∙ goes.chain;
  at = seat_at b i (Some t);
  again = λ seat. seat_twice b i (Some t) seat ∙ goes.again seat;
}

-- ---- a session keeps its view

pub step_view : (mesh : MeshLists) (s : SessionState) (epoch : ℕ) → (step mesh s epoch).state.view ≡ s.view
step_view mesh s epoch = ap (λ (told : SessionTold). told.view) (told_step mesh s epoch)

pub steps_view : (mesh : MeshLists) (epochs : ℕ → ℕ) (s : SessionState) (tries : List (ℕ × ℕ)) (t : SessionState) → Steps mesh true epochs s tries t → t.view ≡ s.view
steps_view mesh epochs s tries t steps = ap (λ (told : SessionTold). told.view) (told_steps mesh true epochs s tries t steps)

pub finishes_view : (mesh : MeshLists) (epochs : ℕ → ℕ) (s : SessionState) (tries : List (ℕ × ℕ)) (t : SessionState) → Finishes mesh true epochs s tries t → t.view ≡ s.view
finishes_view mesh epochs s tries t finishes = ap (λ (told : SessionTold). told.view) (told_finishes mesh true epochs s tries t finishes)

-- ---- steps of a frame

-- the step that was made is the one that its patch's epoch answers
pub made_by : (mesh : MeshLists) (epochs : ℕ → ℕ) (s t : SessionState) (did : Stepped) (epoch : ℕ) → stepped did t ≡ step mesh s epoch → IsOfEpochs epochs did → stepped did t ≡ step_by mesh epochs s
made_by mesh epochs s t did epoch same of_epochs = same ∙ is_step_by mesh epochs epoch s (subst (λ (x : SessionStep). IsOfEpochs epochs x.did) same of_epochs)

one_step_goes : (w : World) (a b : State) (i : ℕ) (s t : SessionState) (did : Stepped) (view : ViewSeen) → GoesTo w a i s b → s.view ≡ Some view → stepped did t ≡ step_by w.mesh a.chain.epochs s → GoesTo w a i t (seated b i (Some t))
one_step_goes w a b i s t did view goes viewed is =
    goes_on w a b i s t goes
    (subst (λ (u : SessionState). Happens w b (seated b i (Some u)))
    (ap (λ (c : Chain). (step_by w.mesh c.epochs s).state) goes.chain ∙ sym (ap (λ (x : SessionStep). x.state) is))
    (SessionSteps i s view goes.at viewed))

pub steps_go : (w : World) (a : State) (i : ℕ) (s : SessionState) (view : ViewSeen) → a.sessions i ≡ Some s → s.view ≡ Some view → (tries : List (ℕ × ℕ)) (t : SessionState) → Steps w.mesh true a.chain.epochs s tries t → (b : State) × GoesTo w a i t b
steps_go w a i s view at viewed _ _ NoStep = (a, goes_nowhere w a i s at)
steps_go w a i s view at viewed _ _ (OneMore tries t did epoch u steps same going of_epochs) =
    let before = steps_go w a i s view at viewed tries t steps in
    (seated before.0 i (Some u), one_step_goes w a before.0 i t u did view before.1 (steps_view w.mesh a.chain.epochs s tries t steps ∙ viewed) (made_by w.mesh a.chain.epochs t u did epoch same (of_epochs refl)))

pub finishes_go : (w : World) (a : State) (i : ℕ) (s : SessionState) (view : ViewSeen) → a.sessions i ≡ Some s → s.view ≡ Some view → (tries : List (ℕ × ℕ)) (t : SessionState) → Finishes w.mesh true a.chain.epochs s tries t → (b : State) × GoesTo w a i t b
finishes_go w a i s view at viewed tries t finishes =
    let before = steps_go w a i s view at viewed tries finishes.last finishes.steps in
    (seated before.0 i (Some t), one_step_goes w a before.0 i finishes.last t Done view before.1 (steps_view w.mesh a.chain.epochs s tries finishes.last finishes.steps ∙ viewed) (made_by w.mesh a.chain.epochs finishes.last t Done finishes.epoch finishes.done tt))

-- ---- steps towards no use

one_free : (w : World) (a b : State) (i : ℕ) (s : SessionState) → GoesTo w a i s b → GoesTo w a i (free_step s).state (seated b i (Some (free_step s).state))
one_free w a b i s goes = goes_on w a b i s (free_step s).state goes (Frees i s goes.at)

pub frees_reach : (w : World) (a b : State) (i : ℕ) (s t : SessionState) (unlocks : ℕ) → GoesTo w a i s b → FreesAll s unlocks t → Reaches w a (seated a i (Some t))
frees_reach w a b i s _ _ goes (NoUse none) = let last = one_free w a b i s goes in subst (Reaches w a) (goes.again (Some (free_step s).state)) last.reaches
frees_reach w a b i s t _ goes (MoreUse {n = n} did is rest) = frees_reach w a (seated b i (Some (free_step s).state)) i (free_step s).state t n (one_free w a b i s goes) rest
