-- Where no count of faults rose, no fetch of a run failed: only the lowest tier asks the store.
use Rattle.std.proofs.Common.{◌≡◌, ℕ, zero, suc, ◌+◌, ◌<◌, ◌≤◌, Bool, true, false, List, [], ◌∷◌, ◌++◌, length, Option, Some, None, is_some, refl, sym, ap, subst, ◌∙◌, eq-eqb, arith}
use Rattle.std.specs.Prelude.{slice_get, slice_set, sum_by, MatchOption, if◌then◌else◌}
use Rattle.std.specs.Option.{option_map_or}
use Rattle.std.specs.List.{AllByRecursion}
use Rattle.std.proofs.lemmas.List.Sums.{sum_by-cons}
use Rattle.std.proofs.lemmas.Option.{slice_get_within}
use Rattle.view_outside.specs.Faults.{Rose, RoseBy}
use Rattle.script_model.specs.declared.orders.Order.{Order}
use Rattle.script_model.specs.declared.orders.Order.TheVariants as orders
use Rattle.strip_laws.specs.Kinds.{each_append}
use Rattle.tier_model.specs.declared.turns.Turn.{Turn}
use Rattle.tier_model.specs.declared.turns.Turn.TheVariants.{Reserve, Evict, Kept, Got, Lost, Fault, Changed, Commit, Idle}
use Rattle.tier_model.specs.Tiers.{TierState, is_held}
use Rattle.tier_model.specs.Choices.{Told}
use Rattle.tier_model.specs.Turns.{Fetched, Came, Failed, Broken, Outcome, paired, begun, turn_of}
use Rattle.tier_laws.specs.Follows.{Follows, Reserves, Gets, Loses, Fails, Breaks, Commits, Evicts, Keeps, Rests, follows}
use Rattle.tier_model.specs.Chains.{has_below, told_at}
use Rattle.tier_model.specs.Counts.{is_fault, faults_in}
use Rattle.run_model.specs.Worlds.{World}
use Rattle.run_model.specs.States.{State, board_of, seated, posting, moved}
use Rattle.run_model.specs.Turning.{TurnsTo, IfFetched, GivesBelow, GivesHeld, GivesStored, found_by, turn_at}
use Rattle.run_model.specs.Lines.{Did, DidTurns, Does, DoesOpen, DoesView, DoesStep, DoesFrame, DoesFree, DoesClose, DoesTurn, DoesSettle, DoesStatus, Runs, NoLine, OneLine, IdlesTo, LastTurn, MoreTurns, SettlesTo, AllSettled, TierSettles}
use Rattle.run_laws.specs.OneSettling.{does_many}
use Rattle.run_model.specs.RunTexts.{is_lowest, lowest_turns, turns_in, faults_of}
use Rattle.view_machine.specs.LineCounts.{IsNoFailure, HasNoFailure, IsNoChange, HasNoChange}
use Rattle.view_machine.specs.RunEnds.{HaveNoFailure, HaveNoChange}
use Rattle.viewer_program.specs.PlayRuns.{run_faults}

-- ---- a turn that failed is one of the lowest tier

-- what a turn that failed was told and found
abbrev FailsBy : Told → Outcome → Turn → Type 0
FailsBy told o (Fault p) = (told.has p ≡ true) × (o.fetched ≡ Failed)
FailsBy told o (Reserve p) = Unit {0}
FailsBy told o (Evict p) = Unit {0}
FailsBy told o (Kept p uses) = Unit {0}
FailsBy told o (Got p) = Unit {0}
FailsBy told o (Lost p) = Unit {0}
FailsBy told o (Changed p fault) = Unit {0}
FailsBy told o (Commit p) = Unit {0}
FailsBy told o Idle = Unit {0}

fails_by : (told : Told) (s : TierState) (o : Outcome) (x : Turn × TierState) → Follows told s o x → FailsBy told o x.0
fails_by told s o _ (Reserves c enters) = tt
fails_by told s o _ (Gets p body none bare has is) = tt
fails_by told s o _ (Loses p none bare has) = tt
fails_by told s o _ (Fails p none bare has is) = (has, is)
fails_by told s o _ (Breaks p fault none bare has is) = tt
fails_by told s o _ (Commits p none bare is) = tt
fails_by told s o _ (Evicts v none is leaves unused) = tt
fails_by told s o _ (Keeps v uses none is leaves top used) = tt
fails_by told s o _ (Rests rest) = tt

-- where it failed, tier k is the lowest
abbrev IsLowestFault : World → ℕ × Turn → Type 0
IsLowestFault w (k, Fault p) = is_lowest w k ≡ true
IsLowestFault w (k, Reserve p) = Unit {0}
IsLowestFault w (k, Evict p) = Unit {0}
IsLowestFault w (k, Kept p uses) = Unit {0}
IsLowestFault w (k, Got p) = Unit {0}
IsLowestFault w (k, Lost p) = Unit {0}
IsLowestFault w (k, Changed p fault) = Unit {0}
IsLowestFault w (k, Commit p) = Unit {0}
IsLowestFault w (k, Idle) = Unit {0}

-- a tier below would have given what it holds
nothing_below : (w : World) (tiers : List TierState) (k p : ℕ) (fetched : Fetched) (below : Option TierState) → slice_get tiers (suc k) ≡ below → option_map_or (λ (t : TierState). is_held t p) below true ≡ true → fetched ≡ Failed
    → MatchOption below (GivesStored w p fetched) (λ (t : TierState). is_held t p ≡ true → GivesHeld t p fetched) → slice_get tiers (suc k) ≡ None
nothing_below w tiers k p fetched None at has failed gives = at
nothing_below w tiers k p fetched (Some t) at has failed gives = absurd (subst (λ (f : Fetched). GivesHeld t p f) failed (gives has))

past_last : (tiers : List TierState) (k : ℕ) → slice_get tiers (suc k) ≡ None → length tiers ≤ suc k
past_last [] k none = omega arith
past_last (t ∷ []) zero none = omega arith
past_last (t ∷ u ∷ tiers) zero none = absurd cc
past_last (t ∷ tiers) (suc k) none = let rest = past_last tiers k none in omega arith

module _ (w : World) where
  lowest_from : (tiers : List TierState) (k : ℕ) (s : TierState) → length tiers ≡ length w.budgets → slice_get tiers k ≡ Some s → slice_get tiers (suc k) ≡ None → is_lowest w k ≡ true
  lowest_from tiers k s many was none =
      let within : k < length tiers = slice_get_within tiers k s was in
      let past : length tiers ≤ suc k = past_last tiers k none in
      eq-eqb (suc k) (length w.budgets) (omega (arith, many))

  lowest_by : (tiers : List TierState) (k : ℕ) (s : TierState) (fetched : Fetched) (told : Told) (o : Outcome) (answer : Turn) → told.has ≡ has_below tiers k → o.fetched ≡ fetched → length tiers ≡ length w.budgets → slice_get tiers k ≡ Some s → IfFetched answer (λ p. GivesBelow w tiers k p fetched) → FailsBy told o answer → IsLowestFault w (k, answer)
  unfolding has_below
  lowest_by tiers k s fetched told o (Fault p) has is many was gives (there, failed) =
      lowest_from tiers k s many was (nothing_below w tiers k p fetched (slice_get tiers (suc k)) refl (ap (λ (f : ℕ → Bool). f p) (sym has) ∙ there) (sym is ∙ failed) gives)
  lowest_by tiers k s fetched told o (Reserve p) has is many was gives fails = tt
  lowest_by tiers k s fetched told o (Evict p) has is many was gives fails = tt
  lowest_by tiers k s fetched told o (Kept p uses) has is many was gives fails = tt
  lowest_by tiers k s fetched told o (Got p) has is many was gives fails = tt
  lowest_by tiers k s fetched told o (Lost p) has is many was gives fails = tt
  lowest_by tiers k s fetched told o (Changed p fault) has is many was gives fails = tt
  lowest_by tiers k s fetched told o (Commit p) has is many was gives fails = tt
  lowest_by tiers k s fetched told o Idle has is many was gives fails = tt

  turn_lowest : (k : ℕ) (a b : State) (answer : Turn) → length a.chain.tiers ≡ length w.budgets → TurnsTo w k a answer b → IsLowestFault w (k, answer)
  unfolding turn_of found_by
  turn_lowest k a b answer many turns =
      let told = told_at a.chain k in
      let s = begun (board_of w a) turns.before in
      let o = found_by w a k turns.before turns.fetched in
      let fails : FailsBy told o answer = subst (λ (x : Turn × TierState). FailsBy told o x.0) (sym turns.turns) (fails_by told s o (turn_at w a k turns.before turns.fetched) (follows told s o)) in
      lowest_by a.chain.tiers k turns.before turns.fetched told o answer refl refl many turns.was turns.gives fails

  turn_many : (k : ℕ) (a b : State) (answer : Turn) → TurnsTo w k a answer b → length b.chain.tiers ≡ length a.chain.tiers
  turn_many k a b answer turns = does_many w a b (orders.Turn k) (DidTurns ((k, answer) ∷ [])) (DoesTurn k answer turns)

  -- ---- lists of turns, and lines

  abbrev AreLowest : List (ℕ × Turn) → Type 0
  AreLowest turns = AllByRecursion (IsLowestFault w) turns

  abbrev HaveLowest : List Did → Type 0
  HaveLowest dids = AllByRecursion (λ (did : Did). AreLowest (turns_in did)) dids

  idles_lowest : (k : ℕ) (a b : State) (log : List (ℕ × Turn)) → length a.chain.tiers ≡ length w.budgets → IdlesTo w k a log b → AreLowest log × (length b.chain.tiers ≡ length w.budgets)
  idles_lowest k a b _ many (LastTurn turn) = ((tt, tt), turn_many k a b Idle turn ∙ many)
  idles_lowest k a c _ many (MoreTurns {b = b} {log = log} answer on turn rest) =
      let others = idles_lowest k b c log (turn_many k a b answer turn ∙ many) rest in
      ((turn_lowest k a b answer many turn, others.0), others.1)

  settles_lowest : (n : ℕ) (a b : State) (log : List (ℕ × Turn)) → length a.chain.tiers ≡ length w.budgets → SettlesTo w n a log b → AreLowest log
  settles_lowest zero a b _ many AllSettled = tt
  settles_lowest (suc n) a c _ many (TierSettles {b = b} {log = log} {rest = rest} first later) =
      let here = idles_lowest n a b log many first in
      each_append (IsLowestFault w) log rest here.0 (settles_lowest n b c rest here.1 later)

  does_lowest : (a b : State) (order : Order) (did : Did) → length a.chain.tiers ≡ length w.budgets → Does w a order did b → AreLowest (turns_in did)
  does_lowest a b order did many (DoesOpen i number closed) = tt
  does_lowest a b order did many (DoesView i s view at) = tt
  does_lowest a b order did many (DoesStep i s view at viewed) = tt
  does_lowest a b order did many (DoesFrame i s t view tries done at viewed finishes) = tt
  does_lowest a b order did many (DoesFree i unlocks s t at frees) = tt
  does_lowest a b order did many (DoesClose i unlocks s t at frees) = tt
  does_lowest a b order did many (DoesTurn k answer turn) = (turn_lowest k a b answer many turn, tt)
  does_lowest a b order did many (DoesSettle {log = log} settles) = settles_lowest (length w.budgets) a b log many settles
  does_lowest a b order did many DoesStatus = tt

  runs_lowest : (a c : State) (orders : List Order) (dids : List Did) → length a.chain.tiers ≡ length w.budgets → Runs w a orders dids c → HaveLowest dids
  runs_lowest a c _ _ many NoLine = tt
  runs_lowest a c _ _ many (OneLine {b = b} {order = order} {orders = orders} {did = did} {dids = dids} does rest) =
      (does_lowest a b order did many does, runs_lowest b c orders dids (does_many w a b order did does ∙ many) rest)

  -- ---- without faults

  no_failure : (k : ℕ) (answer : Turn) → (is_lowest w k ≡ true → is_fault answer ≡ 0) → IsLowestFault w (k, answer) → IsNoChange answer → IsNoFailure answer
  unfolding is_fault
  no_failure k (Fault p) none lowest no_change = absurd (let e = none lowest in cc)
  no_failure k (Changed p fault) none lowest no_change = no_change
  no_failure k (Reserve p) none lowest no_change = tt
  no_failure k (Evict p) none lowest no_change = tt
  no_failure k (Kept p uses) none lowest no_change = tt
  no_failure k (Got p) none lowest no_change = tt
  no_failure k (Lost p) none lowest no_change = tt
  no_failure k (Commit p) none lowest no_change = tt
  no_failure k Idle none lowest no_change = tt

  -- of the first of these turns, and of those behind it
  faults_by : (low : Bool) (turn : ℕ × Turn) (turns : List (ℕ × Turn)) → faults_in (if low then turn.1 ∷ lowest_turns w turns else lowest_turns w turns) ≡ 0 → (low ≡ true → is_fault turn.1 ≡ 0) × (faults_in (lowest_turns w turns) ≡ 0)
  unfolding faults_in
  faults_by true turn turns none = ((λ _. omega (arith, none)), omega (arith, none))
  faults_by false turn turns none = ((λ is. absurd cc), none)

  no_failures : (turns : List (ℕ × Turn)) → faults_in (lowest_turns w turns) ≡ 0 → AreLowest turns → HasNoChange turns → HasNoFailure turns
  unfolding lowest_turns
  no_failures [] none lowest no_change = tt
  no_failures ((k, answer) ∷ turns) none (first, lowest) (unchanged, no_change) =
      let parts = faults_by (is_lowest w k) (k, answer) turns none in
      (no_failure k answer parts.0 first unchanged, no_failures turns parts.1 lowest no_change)

  run_no_failures : (dids : List Did) → sum_by (faults_of w) dids ≡ 0 → HaveLowest dids → HaveNoChange dids → HaveNoFailure dids
  run_no_failures [] none lowest no_change = tt
  run_no_failures (did ∷ dids) none (first, lowest) (unchanged, no_change) =
      let sum = sum_by-cons (faults_of w) did dids in
      (no_failures (turns_in did) (omega (arith, none, sum)) first unchanged, run_no_failures dids (omega (arith, none, sum)) lowest no_change)

none_rose : (n before now : ℕ) → RoseBy n before now → (Rose before now → ⊥) → n ≡ 0
none_rose zero before now rose no_rise = refl
none_rose (suc n) before now rose no_rise = absurd (no_rise (omega (arith, rose)))

-- where the count of faults didn't rise, and no line tells of bytes that break the rule of bodies, no fetch failed
pub nothing_failed : (w : World) (a c : State) (orders : List Order) (dids : List Did) (before now : ℕ) → length a.chain.tiers ≡ length w.budgets → Runs w a orders dids c → RoseBy (run_faults w dids) before now → (Rose before now → ⊥) → HaveNoChange dids → HaveNoFailure dids
nothing_failed w a c orders dids before now many runs rose no_rise no_change =
    run_no_failures w dids (none_rose (run_faults w dids) before now rose no_rise) (runs_lowest w a c orders dids many runs) no_change
