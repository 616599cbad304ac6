-- What is done at a session's seat, as events of the run and as what its line orders.
use Rattle.std.proofs.Common.{◌≡◌, ℕ, ◌-◌, true, false, List, length, Option, Some, None, refl, sym, ap, subst, ◌∙◌}
use Rattle.std.specs.Prelude.{slice_set}
use Rattle.std.proofs.lemmas.Bool.{cond_both}
use Rattle.std.proofs.lemmas.List.{length-set}
use Rattle.std.proofs.lemmas.Option.{same_Some}
use Rattle.mesh_model.specs.Meshes.{MeshLists}
use Rattle.round_model.specs.Views.{ViewSeen}
use Rattle.script_model.specs.declared.orders.Order.{Order}
use Rattle.script_model.specs.declared.orders.Order.TheVariants as orders
use Rattle.session_model.specs.declared.steps.Stepped.{Stepped}
use Rattle.session_model.specs.declared.steps.Stepped.TheVariants.{Done}
use Rattle.session_model.specs.Sessions.{SessionState, is_left_over, locks, uses, least_old, opened, round_ended, settled, with_view, printed_once}
use Rattle.session_model.specs.Steps.{SessionStep, stepped, step, step_by, IsOfEpochs, FreeStep, free_old, free_or, free_step}
use Rattle.session_laws.specs.RoundSteps.{some_old_in}
use Rattle.session_laws.specs.StateLaws.{printed_locks}
use Rattle.session_model.specs.Finishes.{Steps, NoStep, OneMore, Finishes}
use Rattle.tier_model.specs.Chains.{Chain}
use Rattle.tier_model.specs.Tiers.{TierState}
use Rattle.tier_model.specs.Ranks.{Posted}
use Rattle.token_words.specs.Sessions.{IsSession}
use Rattle.token_words.specs.PlainTokens.{epoch_in}
use Rattle.token_words.specs.declared.entries.Entry.{Entry}
use Rattle.token_words.specs.declared.session_sets.TheConstants.{SESSIONS}
use Rattle.run_model.specs.Worlds.{World, patch_count}
use Rattle.run_model.specs.States.{State, seat_uses, seated}
use Rattle.run_model.specs.Events.{Happens, Frees, Reaches, Stays, Then}
use Rattle.run_model.specs.Events.{Steps as SessionSteps}
use Rattle.session_model.specs.Freeing.{FreesAll}
use Rattle.run_model.specs.Lines.{Did, DidOpen, DidStep, DidFrame, DidFree, frame_of, Does, DoesOpen, DoesStep, DoesFrame, DoesFree}
use Rattle.run_laws.specs.SessionReach.{reaches_both, reaches_then, seat_twice, seat_at, seat_chain, GoesTo, steps_go, steps_view, made_by, goes_nowhere, frees_reach}
use Rattle.session_seats.specs.Seats.{SeatsSeen, at_seat, with_seat, state_of, AreSeated}
use Rattle.session_seats.specs.SeatChanges.{KeepsWords, ChangesSeat}
use Rattle.session_seats.specs.Orders.{DoesOrder, ReachesSeats, FinishesRound, FreesUses}
use Rattle.session_seats.specs.SeatLaws.{seat_changed, seat_again}

-- ---- steps are events

module _ (w : World) (a : State) (i : ℕ) (s : SessionState) (view : ViewSeen) (at : a.sessions i ≡ Some s) (viewed : s.view ≡ Some view) where
  one_more : (tries : List (ℕ × ℕ)) (t u : SessionState) (did : Stepped) (epoch : ℕ) → Steps w.mesh true a.chain.epochs s tries t → stepped did u ≡ step w.mesh t epoch → IsOfEpochs a.chain.epochs did → Reaches w a (seated a i (Some u))
  one_more tries t u did epoch steps same of_epochs =
      let before = steps_go w a i s view at viewed tries t steps in
      let b = before.0 in
      let goes = before.1 in
      let made = made_by w.mesh a.chain.epochs t u did epoch same of_epochs in
      let event : Happens w b (seated b i (Some (step_by w.mesh b.chain.epochs t).state)) = SessionSteps i t view goes.at (steps_view w.mesh a.chain.epochs s tries t steps ∙ viewed) in
      let is : (step_by w.mesh b.chain.epochs t).state ≡ u = ap (λ (epochs : ℕ → ℕ). (step_by w.mesh epochs t).state) (ap (λ (c : Chain). c.epochs) goes.chain) ∙ sym (ap (λ (x : SessionStep). x.state) made) in
      let here : Reaches w a (seated b i (Some u)) = reaches_then w a b (seated b i (Some u)) goes.reaches (subst (λ (x : SessionState). Happens w b (seated b i (Some x))) is event) in
      subst (Reaches w a) (goes.again (Some u)) here

  pub steps_reach : seated a i (Some s) ≡ a → (tries : List (ℕ × ℕ)) (t : SessionState) → Steps w.mesh true a.chain.epochs s tries t → Reaches w a (seated a i (Some t))
  steps_reach same _ _ NoStep = subst (Reaches w a) (sym same) Stays
  steps_reach same _ _ (OneMore tries t did epoch u steps is going of_epochs) = one_more tries t u did epoch steps is (of_epochs refl)

  pub finishes_reach : (tries : List (ℕ × ℕ)) (t : SessionState) → Finishes w.mesh true a.chain.epochs s tries t → Reaches w a (seated a i (Some t))
  finishes_reach tries t finishes = one_more tries finishes.last t Done finishes.epoch finishes.steps finishes.done tt

-- ---- a round that ends where there is nothing to free

frees_nothing : (s : SessionState) (old : Option ℕ) → least_old s ≡ old → ((p : ℕ) → is_left_over s p ≡ false) → (free_old s old).state ≡ s
frees_nothing s None is no_old = refl
frees_nothing s (Some p) is no_old = absurd (let left = some_old_in s p is in let gone = no_old p in cc)

ends_free : (s : SessionState) → s.flight ≡ None → ((p : ℕ) → is_left_over (round_ended s) p ≡ false) → (free_step s).state ≡ round_ended s
unfolding free_step
ends_free s none no_old = ap (λ (flight : Option ℕ). (free_or (round_ended s) flight).state) none ∙ frees_nothing (round_ended s) (least_old (round_ended s)) refl no_old

-- a printed round ends in an event, if no use is left
pub settled_reach : (w : World) (a : State) (i : ℕ) (s : SessionState) → a.sessions i ≡ Some s → seated a i (Some s) ≡ a → s.flight ≡ None → ((p : ℕ) → is_left_over (settled s) p ≡ false) → Reaches w a (seated a i (Some (settled s)))
unfolding settled
settled_reach w a i s at same none =
    let P : SessionState → Type 0 = λ t. ((p : ℕ) → is_left_over t p ≡ false) → Reaches w a (seated a i (Some t)) in
    cond_both s.printed (round_ended s) s P
    (λ printed no_old. subst (λ (t : SessionState). Reaches w a (seated a i (Some t))) (ends_free s none no_old) (Then (Frees i s at) Stays))
    (λ going no_old. subst (Reaches w a) (sym same) Stays)

-- ---- sessions that change, but not in what they use

pub printed_uses : (s : SessionState) (p : ℕ) → uses (printed_once s) p ≡ uses s p
unfolding printed_once
printed_uses s p = refl

pub keeps_words : (i : ℕ) (words : List Entry) → KeepsWords i words words
keeps_words i words = record { many = refl; epochs = λ p. refl; pins = λ p. refl; use_sets = λ s apart p. refl; lock_sets = λ s apart p. refl }

-- the words stay, where a session uses and has locked what it did
pub same_uses : {mesh : MeshLists} (words : List Entry) (sessions : List (Option SessionState)) → AreSeated mesh words sessions → (i : ℕ) (s t : SessionState) → at_seat sessions i ≡ Some s → ((p : ℕ) → uses t p ≡ uses s p) → ((p : ℕ) → locks t p ≡ locks s p) → (now : List (Option SessionState)) → now ≡ slice_set sessions (i - 1) (Some t) → ChangesSeat i (Some t) words sessions words now
same_uses words sessions are i s t at same_use same_lock now is = record {
  seats = is;
  keeps = keeps_words i words;
  uses = λ p. are.uses_are i p ∙ ap (λ (o : Option SessionState). seat_uses o p) at ∙ sym (same_use p);
  locked = λ u there p. are.locks_are i s at p ∙ sym (same_lock p) ∙ ap (λ (x : SessionState). locks x p) (same_Some t u there);
}

-- ---- what is done at a seat

module _ (mesh : MeshLists) (words : List Entry) (sessions : List (Option SessionState)) (are : AreSeated mesh words sessions) (many : length sessions ≡ SESSIONS) (i : ℕ) (number : IsSession i) where
  abbrev old : SeatsSeen
  old = record { mesh = mesh; sessions = sessions }

  abbrev start : List TierState → List (Option Posted) → ℕ → State
  start tiers posted version = state_of tiers words sessions posted version

  stands : (o : Option SessionState) → at_seat sessions i ≡ o → (tiers : List TierState) (posted : List (Option Posted)) (version : ℕ) → (start tiers posted version).sessions i ≡ o
  unfolding state_of
  stands o at tiers posted version = at

  epochs_are : (tiers : List TierState) (posted : List (Option Posted)) (version : ℕ) → (start tiers posted version).chain.epochs ≡ epoch_in words
  unfolding state_of
  epochs_are tiers posted version = refl

  module _ (words_now : List Entry) (now : SeatsSeen) where
    pub opens : at_seat sessions i ≡ None → ChangesSeat i (Some (opened (length mesh.index.fields))) words sessions words_now now.sessions → DoesOrder (orders.Open i) (DidOpen i) words old words_now now
    opens closed changes = record {
      does = λ w same tiers posted version.
          let a = start tiers posted version in
          let is = ap (λ (m : MeshLists). seated a i (Some (opened (length m.index.fields)))) same ∙ sym (seat_changed words sessions many i number (Some (opened (length mesh.index.fields))) words_now now.sessions changes tiers posted version) in
          subst (Does w a (orders.Open i) (DidOpen i)) is (DoesOpen i number (stands None closed tiers posted version));
    }

    module _ (s : SessionState) (at : at_seat sessions i ≡ Some s) where
      pub steps : (view : ViewSeen) → s.view ≡ Some view → (did : Stepped) (t : SessionState) (epoch : ℕ) → stepped did t ≡ step mesh s epoch → IsOfEpochs (epoch_in words) did → ChangesSeat i (Some t) words sessions words_now now.sessions → DoesOrder (orders.Step i) (DidStep i did) words old words_now now
      steps view viewed did t epoch is of_epochs changes = record {
        does = λ w same tiers posted version.
            let a = start tiers posted version in
            let made = made_by mesh (epoch_in words) s t did epoch is of_epochs in
            let here : step_by w.mesh a.chain.epochs s ≡ stepped did t = ap (λ (m : MeshLists). step_by m a.chain.epochs s) same ∙ ap (λ (epochs : ℕ → ℕ). step_by mesh epochs s) (epochs_are tiers posted version) ∙ sym made in
            let P : SessionStep → Type 0 = λ x. Does w a (orders.Step i) (DidStep i x.did) (seated a i (Some x.state)) in
            subst (Does w a (orders.Step i) (DidStep i did)) (sym (seat_changed words sessions many i number (Some t) words_now now.sessions changes tiers posted version))
            (subst P here (DoesStep i s view (stands (Some s) at tiers posted version) viewed));
      }

      pub frees : (unlocks : ℕ) (t : SessionState) → FreesAll s unlocks t → ChangesSeat i (Some t) words sessions words_now now.sessions → DoesOrder (orders.Free i) (DidFree i unlocks) words old words_now now
      frees unlocks t all changes = record {
        does = λ w same tiers posted version.
            let a = start tiers posted version in
            subst (Does w a (orders.Free i) (DidFree i unlocks)) (sym (seat_changed words sessions many i number (Some t) words_now now.sessions changes tiers posted version))
            (DoesFree i unlocks s t (stands (Some s) at tiers posted version) all);
      }

      again : (tiers : List TierState) (posted : List (Option Posted)) (version : ℕ) → seated (start tiers posted version) i (Some s) ≡ start tiers posted version
      again tiers posted version = seat_again mesh words sessions i s are at tiers posted version

      -- steps were made, and then a printed round ended
      pub stops : (view : ViewSeen) → s.view ≡ Some view → (tries : List (ℕ × ℕ)) (last : SessionState) → Steps mesh true (epoch_in words) s tries last → last.flight ≡ None → ((p : ℕ) → is_left_over (settled last) p ≡ false) → ChangesSeat i (Some (settled last)) words sessions words_now now.sessions → ReachesSeats words old words_now now
      stops view viewed tries last made none no_old changes = record {
        reaches = λ w same tiers posted version.
            let a = start tiers posted version in
            let b = seated a i (Some last) in
            let P : MeshLists → Type 0 = λ m. Steps m true a.chain.epochs s tries last in
            let Q : (ℕ → ℕ) → Type 0 = λ epochs. Steps mesh true epochs s tries last in
            let first : Reaches w a b = steps_reach w a i s view (stands (Some s) at tiers posted version) viewed (again tiers posted version) tries last (subst P (sym same) (subst Q (sym (epochs_are tiers posted version)) made)) in
            let then : Reaches w b (seated b i (Some (settled last))) = settled_reach w b i last (seat_at a i (Some last)) (seat_twice a i (Some last) (Some last)) none no_old in
            subst (Reaches w a) (seat_twice a i (Some last) (Some (settled last)) ∙ sym (seat_changed words sessions many i number (Some (settled last)) words_now now.sessions changes tiers posted version))
            (reaches_both w a b (seated b i (Some (settled last))) first then);
      }

-- ---- a round that is finished, and its frame

module _ (i : ℕ) (words : List Entry) (old : SeatsSeen) (words_now : List Entry) (now : SeatsSeen) (round : FinishesRound i words old words_now now) where
  at_start : (tiers : List TierState) (posted : List (Option Posted)) (version : ℕ) → (state_of tiers words old.sessions posted version).sessions i ≡ Some round.session
  unfolding state_of
  at_start tiers posted version = round.was

  made_there : (w : World) → w.mesh ≡ old.mesh → (tiers : List TierState) (posted : List (Option Posted)) (version : ℕ) → Finishes w.mesh true (state_of tiers words old.sessions posted version).chain.epochs round.session round.tries round.last
  unfolding state_of
  made_there w same tiers posted version = let P : MeshLists → Type 0 = λ m. Finishes m true (epoch_in words) round.session round.tries round.last in subst P (sym same) round.finishes

  tiers_are : (tiers : List TierState) (posted : List (Option Posted)) (version : ℕ) → (state_of tiers words old.sessions posted version).chain.tiers ≡ tiers
  unfolding state_of
  tiers_are tiers posted version = refl

  -- its steps are events
  pub finished_reaches : ReachesSeats words old words_now now
  finished_reaches = record {
    reaches = λ w same tiers posted version.
        let a = state_of tiers words old.sessions posted version in
        subst (Reaches w a) (sym (seat_changed words old.sessions round.seats i round.number (Some round.last) words_now now.sessions round.changes tiers posted version))
        (finishes_reach w a i round.session round.view (at_start tiers posted version) round.viewed round.tries round.last (made_there w same tiers posted version));
  }

  seats_now : length now.sessions ≡ SESSIONS
  seats_now = ap length round.changes.seats ∙ length-set old.sessions (i - 1) (Some round.last) ∙ round.seats

  -- once it is printed, the line of a frame was done
  pub frame_printed : (then : SeatsSeen) → AreSeated old.mesh words_now now.sessions → then ≡ with_seat now i (Some (printed_once round.last)) → (w : World) → w.mesh ≡ old.mesh → (tiers : List TierState) (posted : List (Option Posted)) (version : ℕ)
      → Does w (state_of tiers words old.sessions posted version) (orders.Frame i) (DidFrame (frame_of tiers i round.last round.done.round)) (state_of tiers words_now then.sessions posted version)
  frame_printed then are printed w same tiers posted version =
      let a = state_of tiers words old.sessions posted version in
      let changes = same_uses words_now now.sessions are i round.last (printed_once round.last) round.is (printed_uses round.last) (printed_locks round.last) then.sessions (ap (λ (seats : SeatsSeen). seats.sessions) printed) in
      let is = sym (seat_twice a i (Some round.last) (Some (printed_once round.last)))
      ∙ ap (λ (b : State). seated b i (Some (printed_once round.last))) (sym (seat_changed words old.sessions round.seats i round.number (Some round.last) words_now now.sessions round.changes tiers posted version))
      ∙ sym (seat_changed words_now now.sessions seats_now i round.number (Some (printed_once round.last)) words_now then.sessions changes tiers posted version) in
      subst (Does w a (orders.Frame i) (DidFrame (frame_of tiers i round.last round.done.round))) is
      (let P : List TierState → Type 0 = λ ts. Does w a (orders.Frame i) (DidFrame (frame_of ts i round.last round.done.round)) (seated a i (Some (printed_once round.last))) in
      subst P (tiers_are tiers posted version)
      (DoesFrame i round.session round.last round.view round.tries round.done (at_start tiers posted version) round.viewed (made_there w same tiers posted version)))

-- a session gave back all that it used
pub frees_all : (i : ℕ) (words : List Entry) (old : SeatsSeen) (unlocks : ℕ) (words_now : List Entry) (now : SeatsSeen) → AreSeated old.mesh words old.sessions → FreesUses i words old unlocks words_now now → DoesOrder (orders.Free i) (DidFree i unlocks) words old words_now now
frees_all i words old unlocks words_now now are freed = frees old.mesh words old.sessions are freed.seats i freed.number words_now now freed.session freed.was unlocks freed.last freed.frees freed.changes
