-- Each event keeps the wishes that tiers have taken, and each line what is posted.
use Rattle.std.proofs.Common.{◌≡◌, ℕ, zero, suc, ◌+◌, ◌≤◌, Bool, true, false, eqb, cond, List, [], ◌∷◌, length, map, replicate, Option, Some, None, is_some, refl, sym, ap, subst, ◌∙◌, arith}
use Rattle.std.specs.Prelude.{slice_get, slice_index}
use Rattle.std.specs.List.{range_with_len}
use Rattle.std.specs.Option.{option_map, option_map_or}
use Rattle.file_model.specs.declared.fields.PatchField.{PatchField}
use Rattle.file_model.specs.Lists.{IndexLists, SeenBody}
use Rattle.round_model.specs.Views.{ViewSeen}
use Rattle.token_words.specs.declared.session_sets.TheConstants.{SESSIONS}
use Rattle.script_model.specs.declared.orders.Order.{Order}
use Rattle.session_model.specs.Sessions.{SessionState, least_old, round_ended, opened, with_view, printed_once}
use Rattle.session_model.specs.Steps.{epoch_for, step, step_by, free_old, free_or, free_step}
use Rattle.tier_model.specs.declared.turns.Turn.{Turn}
use Rattle.tier_model.specs.declared.turns.Turn.TheVariants.{Idle}
use Rattle.tier_model.specs.Tiers.{TierState, kept_wish}
use Rattle.tier_model.specs.Ranks.{Posted, node_wish, wish_of}
use Rattle.tier_model.specs.Changes.{fresh}
use Rattle.tier_model.specs.Chains.{told_at, opened_top, opened_tiers, opened as opened_chain}
use Rattle.tier_laws.specs.TurnLaws.{version-turned, wishes-turned}
use Rattle.tier_model.specs.Keeping.{KeepsWishes}
use Rattle.tier_laws.specs.OpeningLaws.{each-opened}
use Rattle.run_model.specs.Worlds.{World, IsWorld}
use Rattle.run_model.specs.States.{State, put, posted_views, board_of, posted_by, seated, posting, moved, opening}
use Rattle.run_model.specs.Turning.{TurnsTo}
use Rattle.run_model.specs.Events.{Happens, Steps, Turns, Frees, Opens, Views, TakesOff, Prints, Ends, Reaches, Stays, Then}
use Rattle.run_model.specs.Safe.{IsSafe}
use Rattle.run_laws.specs.Sound.{IsSound, safe_sound}
use Rattle.run_laws.specs.SeatLaws.{each_put}
use Rattle.run_laws.specs.TurnLaws.{each_set_tier, is_turn}
use Rattle.run_laws.specs.SafeLaws.{event_keeps_safe}
use Rattle.session_model.specs.Freeing.{FreesAll, NoUse, MoreUse}
use Rattle.run_model.specs.Lines.{Did, IdlesTo, LastTurn, MoreTurns, SettlesTo, AllSettled, TierSettles, Does, DoesOpen, DoesView, DoesStep, DoesFrame, DoesFree, DoesClose, DoesTurn, DoesSettle, DoesStatus}
use Rattle.run_laws.specs.SessionReach.{step_view, finishes_view}
use Rattle.run_laws.specs.LineLaws.{does_reaches}
use Rattle.run_model.specs.Kept.{TakeWishes, seat_view, ArePosted, IsKept}

-- ---- the wishes that tiers have taken

seated_takes : (w : World) (a : State) (i : ℕ) (seat : Option SessionState) → TakeWishes w a → TakeWishes w (seated a i seat)
unfolding seated board_of
seated_takes w a i seat take = record { versions = take.versions; wishes = λ k t at. record { wishes = (take.wishes k t at).wishes } }

-- a later version than all that were taken
posting_takes : (w : World) (a : State) (i : ℕ) (view : Option Posted) → TakeWishes w a → TakeWishes w (posting a i view)
unfolding posting board_of
posting_takes w a i view take = record {
  versions = λ k t at. let before = take.versions k t at in omega arith;
  wishes = λ k t at. record { wishes = λ same p within. absurd (let before = take.versions k t at in omega arith) };
}

moved_takes : (w : World) (a b : State) (k : ℕ) (answer : Turn) → IsSound w a → (turn : TurnsTo w k a answer b) → TakeWishes w a → TakeWishes w (moved a k answer turn.after)
unfolding moved board_of
moved_takes w a b k answer sound turn take =
    let turns = is_turn w a b k answer sound turn in
    let same : turn.after.version ≡ a.version = version-turned (board_of w a) (told_at a.chain k) turn.before answer turn.after turns in
    record {
      versions = each_set_tier (λ j t. t.version ≤ a.version) a.chain.tiers k turn.after take.versions (omega arith);
      wishes = each_set_tier (λ j t. KeepsWishes (board_of w a) t) a.chain.tiers k turn.after take.wishes
          (wishes-turned (board_of w a) (told_at a.chain k) turn.before answer turn.after (take.wishes k turn.before turn.was) turns);
    }

pub event_takes : (w : World) (a b : State) → IsSafe w a → Happens w a b → TakeWishes w a → TakeWishes w b
event_takes w a b safe (Steps i s view at viewed) take = seated_takes w a i (Some (step_by w.mesh a.chain.epochs s).state) take
event_takes w a b safe (Turns k answer turn) take = subst (TakeWishes w) (sym turn.is) (moved_takes w a b k answer (safe_sound w a safe) turn take)
event_takes w a b safe (Frees i s at) take = seated_takes w a i (Some (free_step s).state) take
event_takes w a b safe (Opens i number closed) take = seated_takes w a i (Some (opened (length w.mesh.index.fields))) take
event_takes w a b safe (Views i s view at) take = posting_takes w (seated a i (Some (with_view view s))) i (Some (posted_by w view)) (seated_takes w a i (Some (with_view view s)) take)
event_takes w a b safe (TakesOff i view at) take = posting_takes w a i None take
event_takes w a b safe (Prints i s at done) take = seated_takes w a i (Some (printed_once s)) take
event_takes w a b safe (Ends i s at unused off) take = seated_takes w a i None take

pub events_take : (w : World) (a b : State) → IsWorld w → IsSafe w a → Reaches w a b → TakeWishes w a → TakeWishes w b
events_take w a b world safe Stays take = take
events_take w a c world safe (Then {b = b} event rest) take = events_take w b c world (event_keeps_safe w a b world safe event) rest (event_takes w a b safe event take)

-- ---- at the opening nothing is wished

no_views : (n first v : ℕ) → node_wish (map (λ (i : ℕ). None) (range_with_len first n)) v ≡ 0
unfolding node_wish
no_views zero first v = refl
no_views (suc n) first v = no_views n (first + 1) v

no_wish : (field : Option PatchField) → option_map_or (λ (f : PatchField). node_wish (posted_views (λ (i : ℕ). None)) f.tail) field 0 ≡ 0
no_wish None = refl
no_wish (Some f) = no_views SESSIONS 1 f.tail

nothing_at : (n p : ℕ) → slice_index (replicate n 0) p ≡ 0
nothing_at zero p = refl
nothing_at (suc n) zero = refl
nothing_at (suc n) (suc p) = nothing_at n p

-- no wish is kept at first
record IsFresh (t : TierState) : Type 0 where
  version : t.version ≡ 0
  wishes : (p : ℕ) → kept_wish t p ≡ 0

fresh_tier : (index : IndexLists) (budget width : ℕ) → IsFresh (fresh index budget width)
unfolding fresh
fresh_tier index budget width = record { version = refl; wishes = nothing_at (length index.fields) }

fresh_top : (index : IndexLists) (body : ℕ → SeenBody) (budget width : ℕ) → IsFresh (opened_top index body budget width)
unfolding opened_top fresh
fresh_top index body budget width = record { version = refl; wishes = nothing_at (length index.fields) }

fresh_each : (index : IndexLists) (body : ℕ → SeenBody) (budgets : List ℕ) (width k : ℕ) (t : TierState) → slice_get (opened_tiers index body budgets width) k ≡ Some t → IsFresh t
unfolding opened_tiers
fresh_each index body [] width k t at = absurd (cc)
fresh_each index body (b ∷ bs) width k t at = each-opened index body IsFresh b bs width (fresh_top index body b width) (λ c. fresh_tier index c width) k t at

pub opening_takes : (w : World) (body : ℕ → SeenBody) → TakeWishes w (opening w body)
unfolding opening opened_chain board_of wish_of
opening_takes w body = record {
  versions = λ k t at. let is = (fresh_each w.mesh.index body w.budgets w.width k t at).version in omega arith;
  wishes = λ k t at. record { wishes = λ same p within. (fresh_each w.mesh.index body w.budgets w.width k t at).wishes p ∙ sym (no_wish (slice_get w.mesh.index.fields p)) };
}

pub opening_posted : (w : World) (body : ℕ → SeenBody) → ArePosted w (opening w body)
unfolding opening
opening_posted w body = record { each = λ i. refl }

-- ---- what is posted

abbrev IsPost : World → Option SessionState → Option Posted → Type 0
IsPost w seat posted = posted ≡ option_map (posted_by w) (seat_view seat)

both_put : (w : World) (sessions : ℕ → Option SessionState) (posted : ℕ → Option Posted) (i : ℕ) (seat : Option SessionState) (post : Option Posted) → IsPost w seat post → (j : ℕ) → IsPost w (sessions j) (posted j) → IsPost w (put sessions i seat j) (put posted i post j)
both_put w sessions posted i seat post here j other = chosen (eqb j i)
  where
    chosen : (is_here : Bool) → IsPost w (cond is_here seat (sessions j)) (cond is_here post (posted j))
    chosen true = here
    chosen false = other

seated_posted : (w : World) (a : State) (i : ℕ) (seat : Option SessionState) → ArePosted w a → IsPost w seat (a.posted i) → ArePosted w (seated a i seat)
unfolding seated
seated_posted w a i seat posted here = record { each = each_put (λ j o. IsPost w o (a.posted j)) a.sessions i seat (λ j ne. posted.each j) here }

-- a session that keeps its view
same_view : (w : World) (a : State) (i : ℕ) (s t : SessionState) → ArePosted w a → a.sessions i ≡ Some s → t.view ≡ s.view → ArePosted w (seated a i (Some t))
same_view w a i s t posted at same =
    seated_posted w a i (Some t) posted
    (posted.each i ∙ ap (λ (o : Option SessionState). option_map (posted_by w) (seat_view o)) at ∙ ap (λ (v : Option ViewSeen). option_map (posted_by w) v) (sym same))

viewed_posted : (w : World) (a : State) (i : ℕ) (s : SessionState) (view : ViewSeen) → ArePosted w a → ArePosted w (posting (seated a i (Some (with_view view s))) i (Some (posted_by w view)))
unfolding seated posting with_view
viewed_posted w a i s view posted = record { each = λ j. both_put w a.sessions a.posted i (Some (with_view view s)) (Some (posted_by w view)) refl j (posted.each j) }

closed_posted : (w : World) (a : State) (i : ℕ) (post : Option Posted) → a.posted i ≡ post → ArePosted w a → ArePosted w (seated (cond (is_some post) (posting a i None) a) i None)
unfolding seated posting
closed_posted w a i None off posted = seated_posted w a i None posted off
closed_posted w a i (Some view) there posted = record { each = λ j. both_put w a.sessions a.posted i None None refl j (posted.each j) }

moved_posted : (w : World) (a b : State) (k : ℕ) (answer : Turn) → TurnsTo w k a answer b → ArePosted w a → ArePosted w b
unfolding moved
moved_posted w a b k answer turn posted = subst (ArePosted w) (sym turn.is) (record { each = posted.each })

idled_posted : (w : World) (k : ℕ) (a b : State) (log : List (ℕ × Turn)) → IdlesTo w k a log b → ArePosted w a → ArePosted w b
idled_posted w k a b _ (LastTurn turn) posted = moved_posted w a b k Idle turn posted
idled_posted w k a c _ (MoreTurns {b = b} {log = log} answer on turn rest) posted = idled_posted w k b c log rest (moved_posted w a b k answer turn posted)

settled_posted : (w : World) (n : ℕ) (a b : State) (log : List (ℕ × Turn)) → SettlesTo w n a log b → ArePosted w a → ArePosted w b
settled_posted w zero a b _ AllSettled posted = posted
settled_posted w (suc n) a c _ (TierSettles {b = b} {log = log} {rest = rest} first later) posted = settled_posted w n b c rest later (idled_posted w n a b log first posted)

-- ---- sessions keep their views

by_view : (w : World) (s : SessionState) (epochs : ℕ → ℕ) → (step_by w.mesh epochs s).state.view ≡ s.view
unfolding step_by
by_view w s epochs = step_view w.mesh s (epoch_for epochs (step w.mesh s 0).did)

printed_view : (s : SessionState) → (printed_once s).view ≡ s.view
unfolding printed_once
printed_view s = refl

opened_view : (patches : ℕ) → (opened patches).view ≡ None
unfolding opened
opened_view patches = refl

free_old_view : (s : SessionState) (old : Option ℕ) → (free_old (round_ended s) old).state.view ≡ s.view
unfolding round_ended
free_old_view s (Some p) = refl
free_old_view s None = refl

free_flight_view : (s : SessionState) (flight : Option ℕ) → (free_or (round_ended s) flight).state.view ≡ s.view
unfolding round_ended
free_flight_view s (Some p) = refl
free_flight_view s None = free_old_view s (least_old (round_ended s))

free_view : (s : SessionState) → (free_step s).state.view ≡ s.view
unfolding free_step
free_view s = free_flight_view s s.flight

frees_view : (s t : SessionState) (unlocks : ℕ) → FreesAll s unlocks t → t.view ≡ s.view
frees_view s _ _ (NoUse none) = free_view s
frees_view s t _ (MoreUse {n = n} did is rest) = frees_view (free_step s).state t n rest ∙ free_view s

pub does_posted : (w : World) (a b : State) (order : Order) (did : Did) → Does w a order did b → ArePosted w a → ArePosted w b
does_posted w a b order did (DoesOpen i number closed) posted =
    seated_posted w a i (Some (opened (length w.mesh.index.fields))) posted
    (posted.each i ∙ ap (λ (o : Option SessionState). option_map (posted_by w) (seat_view o)) closed ∙ ap (λ (v : Option ViewSeen). option_map (posted_by w) v) (sym (opened_view (length w.mesh.index.fields))))
does_posted w a b order did (DoesView i s view at) posted = viewed_posted w a i s view posted
does_posted w a b order did (DoesStep i s view at viewed) posted = same_view w a i s (step_by w.mesh a.chain.epochs s).state posted at (by_view w s a.chain.epochs)
does_posted w a b order did (DoesFrame i s t view tries done at viewed finishes) posted = same_view w a i s (printed_once t) posted at (printed_view t ∙ finishes_view w.mesh a.chain.epochs s tries t finishes)
does_posted w a b order did (DoesFree i unlocks s t at frees) posted = same_view w a i s t posted at (frees_view s t unlocks frees)
does_posted w a b order did (DoesClose i unlocks s t at frees) posted = closed_posted w a i (a.posted i) refl posted
does_posted w a b order did (DoesTurn k answer turn) posted = moved_posted w a b k answer turn posted
does_posted w a b order did (DoesSettle {log = log} settles) posted = settled_posted w (length w.budgets) a b log settles posted
does_posted w a b order did DoesStatus posted = posted

pub opening_kept : (w : World) (body : ℕ → SeenBody) → IsKept w (opening w body)
opening_kept w body = record { wishes = opening_takes w body; posted = opening_posted w body }

pub does_take : (w : World) (a b : State) (order : Order) (did : Did) → IsWorld w → IsSafe w a → Does w a order did b → TakeWishes w a → TakeWishes w b
does_take w a b order did world safe does take = events_take w a b world safe (does_reaches w a b order did does) take

pub does_kept : (w : World) (a b : State) (order : Order) (did : Did) → IsWorld w → IsSafe w a → Does w a order did b → IsKept w a → IsKept w b
does_kept w a b order did world safe does kept = record { wishes = does_take w a b order did world safe does kept.wishes; posted = does_posted w a b order did does kept.posted }
