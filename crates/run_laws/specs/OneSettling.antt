-- Settling is one where what the store gave is one.
use Rattle.std.proofs.Common.{◌≡◌, ℕ, zero, suc, Bool, true, false, cond, List, [], ◌∷◌, ◌++◌, length, Some, None, is_some, refl, sym, ap, ap₂, subst, ◌∙◌, append_assoc}
use Rattle.std.proofs.lemmas.List.{length-set}
use Rattle.file_model.specs.Lists.{BodyLists}
use Rattle.script_model.specs.declared.orders.Order.{Order}
use Rattle.tier_model.specs.declared.turns.Turn.{Turn}
use Rattle.tier_model.specs.declared.turns.Turn.TheVariants.{Idle}
use Rattle.run_model.specs.Worlds.{World}
use Rattle.run_model.specs.States.{State, seated, posting, moved}
use Rattle.run_model.specs.Turning.{TurnsTo}
use Rattle.run_model.specs.Lines.{Did, IdlesTo, LastTurn, MoreTurns, SettlesTo, AllSettled, TierSettles, Does, DoesOpen, DoesView, DoesStep, DoesFrame, DoesFree, DoesClose, DoesTurn, DoesSettle, DoesStatus}
use Rattle.run_model.specs.RunTexts.{StoreOutcome, turn_outcome, turn_outcomes}
use Rattle.run_laws.specs.BlankRuns.{blank_state}
use Rattle.run_laws.specs.OneTurn.{turn_one_like}

-- ---- what came of fetches, in parts

pub cancel : (xs ys zs : List StoreOutcome) → xs ++ ys ≡ xs ++ zs → ys ≡ zs
cancel [] ys zs same = same
cancel (x ∷ xs) ys zs same = cancel xs ys zs (let e : x ∷ (xs ++ ys) ≡ x ∷ (xs ++ zs) = same in cc)

pub cancel_turn : (w : World) (k : ℕ) (x y : Turn) (ys zs : List StoreOutcome) → x ≡ y → turn_outcome w (k, x) ++ ys ≡ turn_outcome w (k, y) ++ zs → ys ≡ zs
cancel_turn w k x y ys zs answer same = cancel (turn_outcome w (k, y)) ys zs (subst (λ (t : Turn). turn_outcome w (k, t) ++ ys ≡ turn_outcome w (k, y) ++ zs) answer same)

pub first_outcome : (w : World) (turn : ℕ × Turn) (turns : List (ℕ × Turn)) (rest : List StoreOutcome) → turn_outcomes w (turn ∷ turns) ++ rest ≡ turn_outcome w turn ++ (turn_outcomes w turns ++ rest)
unfolding turn_outcomes
first_outcome w turn turns rest = append_assoc (turn_outcome w turn) (turn_outcomes w turns) rest

pub outcomes_both : (w : World) (xs ys : List (ℕ × Turn)) → turn_outcomes w (xs ++ ys) ≡ turn_outcomes w xs ++ turn_outcomes w ys
unfolding turn_outcomes
outcomes_both w [] ys = refl
outcomes_both w (x ∷ xs) ys = ap (λ (os : List StoreOutcome). turn_outcome w x ++ os) (outcomes_both w xs ys) ∙ sym (append_assoc (turn_outcome w x) (turn_outcomes w xs) (turn_outcomes w ys))

pub outcomes_split : (w : World) (xs ys : List (ℕ × Turn)) (rest : List StoreOutcome) → turn_outcomes w (xs ++ ys) ++ rest ≡ turn_outcomes w xs ++ (turn_outcomes w ys ++ rest)
outcomes_split w xs ys rest = ap (λ (os : List StoreOutcome). os ++ rest) (outcomes_both w xs ys) ∙ append_assoc (turn_outcomes w xs) (turn_outcomes w ys) rest

-- ---- how many tiers there are

pub turn_many : (w : World) (k : ℕ) (a b : State) (x : Turn) → TurnsTo w k a x b → length b.chain.tiers ≡ length a.chain.tiers
unfolding moved
turn_many w k a b x turn = ap (λ (s : State). length s.chain.tiers) turn.is ∙ length-set a.chain.tiers k turn.after

idles_many : (w : World) (k : ℕ) (a b : State) (log : List (ℕ × Turn)) → IdlesTo w k a log b → length b.chain.tiers ≡ length a.chain.tiers
idles_many w k a b _ (LastTurn turn) = turn_many w k a b Idle turn
idles_many w k a c _ (MoreTurns {b = b} {log = log} answer on turn rest) = idles_many w k b c log rest ∙ turn_many w k a b answer turn

settles_many : (w : World) (n : ℕ) (a b : State) (log : List (ℕ × Turn)) → SettlesTo w n a log b → length b.chain.tiers ≡ length a.chain.tiers
settles_many w zero a b _ AllSettled = refl
settles_many w (suc n) a c _ (TierSettles {b = b} {log = log} {rest = rest} first later) = settles_many w n b c rest later ∙ idles_many w n a b log first

closed_many : (a : State) (i : ℕ) (off : Bool) → length (seated (cond off (posting a i None) a) i None).chain.tiers ≡ length a.chain.tiers
unfolding seated posting
closed_many a i true = refl
closed_many a i false = refl

pub does_many : (w : World) (a b : State) (order : Order) (did : Did) → Does w a order did b → length b.chain.tiers ≡ length a.chain.tiers
unfolding seated posting
does_many w a b order did (DoesOpen i number closed) = refl
does_many w a b order did (DoesView i s view at) = refl
does_many w a b order did (DoesStep i s view at viewed) = refl
does_many w a b order did (DoesFrame i s t view tries done at viewed finishes) = refl
does_many w a b order did (DoesFree i unlocks s t at frees) = refl
does_many w a b order did (DoesClose i unlocks s t at frees) = closed_many a i (is_some (a.posted i))
does_many w a b order did (DoesTurn k answer turn) = turn_many w k a b answer turn
does_many w a b order did (DoesSettle {log = log} settles) = settles_many w (length w.budgets) a b log settles
does_many w a b order did DoesStatus = refl

-- ---- settling

-- two lists of turns are one, and lead to one state but for bytes of bodies
pub record IsOneLog (log other : List (ℕ × Turn)) (b c : State) (rest more : List StoreOutcome) : Type 0 where
  pub turns : log ≡ other
  pub state : blank_state b ≡ blank_state c
  pub rest_is : rest ≡ more

abbrev of_tier : ℕ → Turn → List (ℕ × Turn) → List (ℕ × Turn)
of_tier k x log = (k, x) ∷ log

module _ (w : World) (bodies : List BodyLists) (told : w.bodies ≡ Some bodies) where
  idles_like : (k : ℕ) (a d b c : State) (log other : List (ℕ × Turn)) (rest more : List StoreOutcome) → length a.chain.tiers ≡ length w.budgets → blank_state a ≡ blank_state d → IdlesTo w k a log b → IdlesTo w k d other c
      → turn_outcomes w log ++ rest ≡ turn_outcomes w other ++ more → IsOneLog log other b c rest more
  unfolding turn_outcomes
  idles_like k a d b c _ _ rest more many like (LastTurn turn) (LastTurn also) same =
      let parts = sym (first_outcome w (k, Idle) [] rest) ∙ same ∙ first_outcome w (k, Idle) [] more in
      let one = turn_one_like w bodies told a d b c k Idle Idle rest more many like turn also parts in
      record { turns = refl; state = one.state; rest_is = cancel_turn w k Idle Idle rest more refl parts }
  idles_like k a d b c _ _ rest more many like (LastTurn turn) (MoreTurns {b = e} {log = others} answer on also later) same =
      let parts = sym (first_outcome w (k, Idle) [] rest) ∙ same ∙ first_outcome w (k, answer) others more in
      absurd (on (sym (turn_one_like w bodies told a d b e k Idle answer rest (turn_outcomes w others ++ more) many like turn also parts).answer))
  idles_like k a d c b _ _ rest more many like (MoreTurns {b = e} {log = log} answer on turn later) (LastTurn also) same =
      let parts = sym (first_outcome w (k, answer) log rest) ∙ same ∙ first_outcome w (k, Idle) [] more in
      absurd (on (turn_one_like w bodies told a d e b k answer Idle (turn_outcomes w log ++ rest) more many like turn also parts).answer)
  idles_like k a d b c _ _ rest more many like (MoreTurns {b = e} {log = log} x on turn later) (MoreTurns {b = f} {log = others} y off also further) same =
      let parts = sym (first_outcome w (k, x) log rest) ∙ same ∙ first_outcome w (k, y) others more in
      let one = turn_one_like w bodies told a d e f k x y (turn_outcomes w log ++ rest) (turn_outcomes w others ++ more) many like turn also parts in
      let left = cancel_turn w k x y (turn_outcomes w log ++ rest) (turn_outcomes w others ++ more) one.answer parts in
      let end = idles_like k e f b c log others rest more (turn_many w k a e x turn ∙ many) one.state later further left in
      record { turns = ap₂ (of_tier k) one.answer end.turns; state = end.state; rest_is = end.rest_is }

  pub settles_like : (n : ℕ) (a d b c : State) (log other : List (ℕ × Turn)) (rest more : List StoreOutcome) → length a.chain.tiers ≡ length w.budgets → blank_state a ≡ blank_state d → SettlesTo w n a log b → SettlesTo w n d other c
      → turn_outcomes w log ++ rest ≡ turn_outcomes w other ++ more → IsOneLog log other b c rest more
  unfolding turn_outcomes
  settles_like zero a d b c _ _ rest more many like AllSettled AllSettled same = record { turns = refl; state = like; rest_is = same }
  settles_like (suc n) a d b c _ _ rest more many like (TierSettles {b = e} {log = log} {rest = behind} first later) (TierSettles {b = f} {log = other} {rest = beyond} also further) same =
      let parts = sym (outcomes_split w log behind rest) ∙ same ∙ outcomes_split w other beyond more in
      let one = idles_like n a d e f log other (turn_outcomes w behind ++ rest) (turn_outcomes w beyond ++ more) many like first also parts in
      let end = settles_like n e f b c behind beyond rest more (idles_many w n a e log first ∙ many) one.state later further one.rest_is in
      record { turns = ap₂ (λ (xs ys : List (ℕ × Turn)). xs ++ ys) one.turns end.turns; state = end.state; rest_is = end.rest_is }
