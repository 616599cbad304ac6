-- What a line does is a list of events.
use Rattle.std.proofs.Common.{◌≡◌, ℕ, zero, suc, false, cond, List, length, Option, Some, None, is_some, refl, ap, subst, ◌∙◌}
use Rattle.script_model.specs.declared.orders.Order.{Order}
use Rattle.session_model.specs.Sessions.{SessionState, uses, printed_once}
use Rattle.tier_model.specs.declared.turns.Turn.{Turn}
use Rattle.tier_model.specs.declared.turns.Turn.TheVariants.{Idle}
use Rattle.tier_model.specs.Ranks.{Posted}
use Rattle.run_model.specs.Worlds.{World}
use Rattle.run_model.specs.States.{State, seated, posting}
use Rattle.run_model.specs.Events.{Happens, Steps, Turns, Opens, Views, TakesOff, Prints, Ends, Reaches, Stays, Then}
use Rattle.run_laws.specs.SeatLaws.{put_here}
use Rattle.run_model.specs.Lines.{Did, IdlesTo, LastTurn, MoreTurns, SettlesTo, AllSettled, TierSettles, Does, DoesOpen, DoesView, DoesStep, DoesFrame, DoesFree, DoesClose, DoesTurn, DoesSettle, DoesStatus, Runs, NoLine, OneLine}
use Rattle.session_laws.specs.FreeLaws.{freed_has_no_use}
use Rattle.run_laws.specs.SessionReach.{reaches_both, reaches_one, reaches_then, seat_twice, seat_then_post, seat_at, seat_posted, goes_nowhere, finishes_go, frees_reach}

pub idles_reach : (w : World) (k : ℕ) (a b : State) (log : List (ℕ × Turn)) → IdlesTo w k a log b → Reaches w a b
idles_reach w k a b _ (LastTurn turn) = reaches_one w a b (Turns k Idle turn)
idles_reach w k a c _ (MoreTurns {b = b} {log = log} answer on turn rest) = Then (Turns k answer turn) (idles_reach w k b c log rest)

pub settles_reach : (w : World) (n : ℕ) (a b : State) (log : List (ℕ × Turn)) → SettlesTo w n a log b → Reaches w a b
settles_reach w zero a b _ AllSettled = Stays
settles_reach w (suc n) a c _ (TierSettles {b = b} {log = log} {rest = rest} first later) = reaches_both w a b c (idles_reach w n a b log first) (settles_reach w n b c rest later)

-- ---- a session is closed

posted_here : (a : State) (i : ℕ) (view : Option Posted) → (posting a i view).posted i ≡ view
unfolding posting
posted_here a i view = put_here a.posted i view

closes : (w : World) (a : State) (i : ℕ) (t : SessionState) (posted : Option Posted) → a.posted i ≡ posted → ((p : ℕ) → uses t p ≡ false) → Reaches w (seated a i (Some t)) (seated (cond (is_some posted) (posting a i None) a) i None)
closes w a i t None off unused =
    reaches_one w (seated a i (Some t)) (seated a i None)
    (subst (Happens w (seated a i (Some t))) (seat_twice a i (Some t) None)
    (Ends i t (seat_at a i (Some t)) unused (ap (λ (posted : ℕ → Option Posted). posted i) (seat_posted a i (Some t)) ∙ off)))
closes w a i t (Some view) there unused =
    let still = ap (λ (posted : ℕ → Option Posted). posted i) (seat_posted a i (Some t)) ∙ there in
    let off : Happens w (seated a i (Some t)) (seated (posting a i None) i (Some t)) = subst (Happens w (seated a i (Some t))) (seat_then_post a i (Some t) None) (TakesOff i view still) in
    let end : Happens w (seated (posting a i None) i (Some t)) (seated (posting a i None) i None) =
    subst (Happens w (seated (posting a i None) i (Some t))) (seat_twice (posting a i None) i (Some t) None)
    (Ends i t (seat_at (posting a i None) i (Some t)) unused (ap (λ (posted : ℕ → Option Posted). posted i) (seat_posted (posting a i None) i (Some t)) ∙ posted_here a i None)) in
    Then off (Then end Stays)

pub does_reaches : (w : World) (a b : State) (order : Order) (did : Did) → Does w a order did b → Reaches w a b
does_reaches w a b order did (DoesOpen i number closed) = reaches_one w a b (Opens i number closed)
does_reaches w a b order did (DoesView i s view at) = reaches_one w a b (Views i s view at)
does_reaches w a b order did (DoesStep i s view at viewed) = reaches_one w a b (Steps i s view at viewed)
does_reaches w a b order did (DoesFrame i s t view tries done at viewed finishes) =
    let goes = finishes_go w a i s view at viewed tries t finishes in
    subst (Reaches w a) (goes.1.again (Some (printed_once t)))
    (reaches_then w a goes.0 (seated goes.0 i (Some (printed_once t))) goes.1.reaches (Prints i t goes.1.at done))
does_reaches w a b order did (DoesFree i unlocks s t at frees) = frees_reach w a a i s t unlocks (goes_nowhere w a i s at) frees
does_reaches w a b order did (DoesClose i unlocks s t at frees) =
    reaches_both w a (seated a i (Some t)) b (frees_reach w a a i s t unlocks (goes_nowhere w a i s at) frees)
    (closes w a i t (a.posted i) refl (freed_has_no_use s t unlocks frees))
does_reaches w a b order did (DoesTurn k answer turn) = reaches_one w a b (Turns k answer turn)
does_reaches w a b order did (DoesSettle {log = log} settles) = settles_reach w (length w.budgets) a b log settles
does_reaches w a b order did DoesStatus = Stays

pub runs_reach : (w : World) (a b : State) (orders : List Order) (dids : List Did) → Runs w a orders dids b → Reaches w a b
runs_reach w a b _ _ NoLine = Stays
runs_reach w a c _ _ (OneLine {b = b} {order = order} {orders = orders} {did = did} {dids = dids} does rest) = reaches_both w a b c (does_reaches w a b order did does) (runs_reach w b c orders dids rest)
