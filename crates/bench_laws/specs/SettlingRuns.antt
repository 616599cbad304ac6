-- A settling in a run is one of its chain, and it goes well where the store never fails.
use Rattle.std.proofs.Common.{◌≡◌, ℕ, zero, suc, ◌≤◌, Bool, true, cond, List, [], ◌∷◌, ◌++◌, length, Option, Some, None, refl, sym, ap, subst, ◌∙◌, arith}
use Rattle.std.specs.Prelude.{slice_get, MatchOption}
use Rattle.std.specs.Option.{option_map_or}
use Rattle.std.proofs.lemmas.Bool.{eq-eqb}
use Rattle.std.proofs.lemmas.Option.{slice_get_within}
use Rattle.file_model.specs.declared.faults.FileFault.{FileFault}
use Rattle.strip_laws.specs.Kinds.{each_append, each_first, each_second}
use Rattle.token_words.specs.Sessions.{session_count}
use Rattle.tier_model.specs.declared.turns.Turn.{Turn}
use Rattle.tier_model.specs.declared.turns.Turn.TheVariants.{Fault, Changed, Idle}
use Rattle.tier_model.specs.Tiers.{TierState, is_held}
use Rattle.tier_model.specs.Turns.{Fetched, Outcome, Board, paired, leaving, begun, turn_of}
use Rattle.tier_model.specs.Chains.{has_below, is_top, told_at}
use Rattle.tier_laws.specs.Follows.{Follows, Reserves, Gets, Loses, Fails, Breaks, Commits, Evicts, Keeps, Rests, follows}
use Rattle.tier_model.specs.Settling.{TurnsAt, TurnsToIdle, Last, More, Settles, Settled, Tier}
use Rattle.detail_laws.specs.Needs.{GoesWell, GoWell}
use Rattle.run_model.specs.Worlds.{World}
use Rattle.run_model.specs.States.{State, board_of, moved}
use Rattle.run_model.specs.Turning.{GivesHeld, GivesStored, GivesBelow, IfFetched, uses_of, found_by, TurnsTo}
use Rattle.run_laws.specs.Sound.{IsSound}
use Rattle.run_laws.specs.TurnLaws.{moved_chain, turned_sound}
use Rattle.run_model.specs.Lines.{IdlesTo, LastTurn, MoreTurns, SettlesTo, AllSettled, TierSettles}
use Rattle.run_model.specs.RunTexts.{StoreOutcome, GaveBody, HadFault, FoundChange, fetch_outcome, is_lowest, turn_outcome, turn_outcomes}
use Rattle.bench_laws.specs.Settlings.{NeverFails}

-- ---- what the store gave

never_first : (w : World) (turn : ℕ × Turn) (turns : List (ℕ × Turn)) → NeverFails (turn_outcomes w (turn ∷ turns)) → NeverFails (turn_outcome w turn) × NeverFails (turn_outcomes w turns)
unfolding turn_outcomes
never_first w turn turns never = (
  each_first (λ (o : StoreOutcome). o ≡ GaveBody) (turn_outcome w turn) (turn_outcomes w turns) never,
  each_second (λ (o : StoreOutcome). o ≡ GaveBody) (turn_outcome w turn) (turn_outcomes w turns) never,
)

never_parts : (w : World) (log rest : List (ℕ × Turn)) → NeverFails (turn_outcomes w (log ++ rest)) → NeverFails (turn_outcomes w log) × NeverFails (turn_outcomes w rest)
unfolding turn_outcomes
never_parts w [] rest never = (tt, never)
never_parts w (turn ∷ log) rest never =
    let first = never_first w turn (log ++ rest) never in
    let later = never_parts w log rest first.1 in
    (each_append (λ (o : StoreOutcome). o ≡ GaveBody) (turn_outcome w turn) (turn_outcomes w log) first.0 later.0, later.1)

-- ---- one turn

-- the store, which is below the lowest tier alone, didn't fail
at_lowest : (w : World) (a : State) (k : ℕ) (t : TierState) → IsSound w a → slice_get a.chain.tiers k ≡ Some t → slice_get a.chain.tiers (suc k) ≡ None → is_lowest w k ≡ true
at_lowest w a k t sound at none =
    let many = sound.many in
    let above = slice_get_within a.chain.tiers k t at in
    let below = past a.chain.tiers (suc k) none in
    eq-eqb (suc k) (length w.budgets) (omega arith)
  where
    past : (tiers : List TierState) (j : ℕ) → slice_get tiers j ≡ None → length tiers ≤ j
    past [] j none = omega arith
    past (u ∷ us) zero none = absurd (cc)
    past (u ∷ us) (suc j) none = let rest = past us j none in omega arith

-- what came of a fetch is a body, where no tier fails and the store didn't
gave_body : (w : World) (a : State) (k p : ℕ) (t : TierState) (answer : Turn) (fetched : Fetched) → IsSound w a → slice_get a.chain.tiers k ≡ Some t → has_below a.chain.tiers k p ≡ true → GivesBelow w a.chain.tiers k p fetched
    → ((below : TierState) → GivesHeld below p fetched → ⊥) → (NeverFails (fetch_outcome answer) → ⊥) → NeverFails (turn_outcome w (k, answer)) → ⊥
unfolding has_below
gave_body w a k p t answer fetched sound at has gives not_held not_stored never = by (slice_get a.chain.tiers (suc k)) refl has gives
  where
    by : (below : Option TierState) → slice_get a.chain.tiers (suc k) ≡ below → option_map_or (λ (u : TierState). is_held u p) below true ≡ true → MatchOption below (GivesStored w p fetched) (λ (u : TierState). is_held u p ≡ true → GivesHeld u p fetched) → ⊥
    by None none has gives = not_stored (subst (λ (b : Bool). NeverFails (cond b (fetch_outcome answer) [])) (at_lowest w a k t sound at none) never)
    by (Some below) there has gives = not_held below (gives has)

fetch_fails : (p : ℕ) → NeverFails (fetch_outcome (Fault p)) → ⊥
fetch_fails p never = let first : HadFault ≡ GaveBody = never.0 in cc

fetch_changes : (p : ℕ) (fault : FileFault) → NeverFails (fetch_outcome (Changed p fault)) → ⊥
fetch_changes p fault never = let first : FoundChange fault ≡ GaveBody = never.0 in cc

-- a patch that is kept is in use
abbrev AreUsed : (ℕ → ℕ → Bool) → (ℕ → ℕ → Bool) → Type 0
AreUsed used users = (p : ℕ) → 1 ≤ session_count (λ i. users i p) → used 0 p ≡ true

module _ (w : World) (a : State) (used : ℕ → ℕ → Bool) (sound : IsSound w a) (are_used : AreUsed used a.users) where
  used_at : (k p : ℕ) → is_top k ≡ true → 1 ≤ session_count (λ i. a.users i p) → used k p ≡ true
  unfolding is_top
  used_at zero p top some = are_used p some
  used_at (suc k) p top some = absurd (cc)

  well_followed : (k : ℕ) (t s : TierState) (fetched : Fetched) (o : Outcome) (x : Turn × TierState) → slice_get a.chain.tiers k ≡ Some t → o.fetched ≡ fetched → o.uses ≡ uses_of a.users (leaving (told_at a.chain k) s) → Follows (told_at a.chain k) s o x
      → IfFetched x.0 (λ p. GivesBelow w a.chain.tiers k p fetched) → NeverFails (turn_outcome w (k, x.0)) → GoesWell (used k) x.0
  well_followed k t s fetched o x at same found (Fails p none bare has is) gives never =
      gave_body w a k p t (Fault p) fetched sound at has gives
      (λ below held. subst (λ (f : Fetched). GivesHeld below p f) (sym same ∙ is) held) (fetch_fails p) never
  well_followed k t s fetched o x at same found (Breaks p fault none bare has is) gives never =
      gave_body w a k p t (Changed p fault) fetched sound at has gives
      (λ below held. subst (λ (f : Fetched). GivesHeld below p f) (sym same ∙ is) held) (fetch_changes p fault) never
  well_followed k t s fetched o x at same found (Keeps v uses none victim leaves top is) gives never =
      used_at k v top (let count : session_count (λ i. a.users i v) ≡ suc uses = ap (uses_of a.users) (sym victim) ∙ sym found ∙ is in omega arith)
  well_followed k t s fetched o x at same found (Reserves c enters) gives never = tt
  well_followed k t s fetched o x at same found (Gets p body none bare has is) gives never = tt
  well_followed k t s fetched o x at same found (Loses p none bare has) gives never = tt
  well_followed k t s fetched o x at same found (Commits p none bare first) gives never = tt
  well_followed k t s fetched o x at same found (Evicts v none victim leaves unused) gives never = tt
  well_followed k t s fetched o x at same found (Rests rest) gives never = tt

  turn_well : (b : State) (k : ℕ) (answer : Turn) → TurnsTo w k a answer b → NeverFails (turn_outcome w (k, answer)) → GoesWell (used k) answer
  unfolding turn_of found_by
  turn_well b k answer turn never =
      let told = told_at a.chain k in
      let s = begun (board_of w a) turn.before in
      let o = found_by w a k turn.before turn.fetched in
      well_followed k turn.before s turn.fetched o (paired answer turn.after) turn.was refl refl
      (subst (Follows told s o) (sym turn.turns) (follows told s o)) turn.gives never

-- ---- what a turn keeps

-- the state is sound, and has the board, the uses and the sessions of the first
record KeepsRun (w : World) (a b : State) : Type 0 where
  sound : IsSound w b
  board : board_of w b ≡ board_of w a
  users : b.users ≡ a.users
  sessions : b.sessions ≡ a.sessions

moved_board : (w : World) (a : State) (k : ℕ) (answer : Turn) (after : TierState) → board_of w (moved a k answer after) ≡ board_of w a
unfolding moved board_of
moved_board w a k answer after = refl

moved_users : (a : State) (k : ℕ) (answer : Turn) (after : TierState) → (moved a k answer after).users ≡ a.users
unfolding moved
moved_users a k answer after = refl

moved_sessions : (a : State) (k : ℕ) (answer : Turn) (after : TierState) → (moved a k answer after).sessions ≡ a.sessions
unfolding moved
moved_sessions a k answer after = refl

turn_keeps : (w : World) (a b : State) (k : ℕ) (answer : Turn) → IsSound w a → TurnsTo w k a answer b → KeepsRun w a b
turn_keeps w a b k answer sound turn = record {
  sound = turned_sound w a b k answer sound turn;
  board = ap (board_of w) turn.is ∙ moved_board w a k answer turn.after;
  users = ap (λ (s : State). s.users) turn.is ∙ moved_users a k answer turn.after;
  sessions = ap (λ (s : State). s.sessions) turn.is ∙ moved_sessions a k answer turn.after;
}

chain_turn : (w : World) (a b : State) (k : ℕ) (answer : Turn) → IsSound w a → TurnsTo w k a answer b → TurnsAt (board_of w a) k answer a.chain b.chain
chain_turn w a b k answer sound turn = subst (λ (s : State). TurnsAt (board_of w a) k answer a.chain s.chain) (sym turn.is) (moved_chain w a b k answer sound turn)

keeps_both : (w : World) (a b c : State) → KeepsRun w a b → KeepsRun w b c → KeepsRun w a c
keeps_both w a b c first later = record { sound = later.sound; board = later.board ∙ first.board; users = later.users ∙ first.users; sessions = later.sessions ∙ first.sessions }

-- ---- turns until one is idle

-- the chain made these turns, and they went well
record HasIdled (w : World) (used : ℕ → ℕ → Bool) (k : ℕ) (a b : State) (log : List (ℕ × Turn)) : Type 0 where
  keeps : KeepsRun w a b
  chain : TurnsToIdle (board_of w a) k a.chain log b.chain
  well : GoWell used log

has_idled : (w : World) (used : ℕ → ℕ → Bool) (k : ℕ) (a b : State) (log : List (ℕ × Turn)) → IsSound w a → AreUsed used a.users → IdlesTo w k a log b → NeverFails (turn_outcomes w log) → HasIdled w used k a b log
has_idled w used k a b _ sound are_used (LastTurn turn) never = record {
  keeps = turn_keeps w a b k Idle sound turn;
  chain = Last (chain_turn w a b k Idle sound turn);
  well = (tt, tt);
}
has_idled w used k a c _ sound are_used (MoreTurns {b = b} {log = log} answer on turn rest) never =
    let parts = never_first w (k, answer) log never in
    let first = turn_keeps w a b k answer sound turn in
    let later = has_idled w used k b c log first.sound (subst (AreUsed used) (sym first.users) are_used) rest parts.1 in
    record {
      keeps = keeps_both w a b c first later.keeps;
      chain = More answer on (chain_turn w a b k answer sound turn) (subst (λ (board : Board). TurnsToIdle board k b.chain log c.chain) first.board later.chain);
      well = (turn_well w a used sound are_used b k answer turn parts.0, later.well);
    }

-- ---- all tiers

-- the first n tiers of the chain settled so, and it went well
pub record HasSettled (w : World) (used : ℕ → ℕ → Bool) (n : ℕ) (a b : State) (log : List (ℕ × Turn)) : Type 0 where
  pub sound : IsSound w b
  pub sessions : b.sessions ≡ a.sessions
  pub chain : Settles (board_of w a) n a.chain log b.chain
  pub well : GoWell used log

both_well : (used : ℕ → ℕ → Bool) (log rest : List (ℕ × Turn)) → GoWell used log → GoWell used rest → GoWell used (log ++ rest)
both_well used [] rest first later = later
both_well used (turn ∷ log) rest first later = (first.0, both_well used log rest first.1 later)

pub has_settled : (w : World) (used : ℕ → ℕ → Bool) (n : ℕ) (a b : State) (log : List (ℕ × Turn)) → IsSound w a → ((p : ℕ) → 1 ≤ session_count (λ i. a.users i p) → used 0 p ≡ true) → SettlesTo w n a log b → NeverFails (turn_outcomes w log) → HasSettled w used n a b log
has_settled w used zero a b _ sound are_used AllSettled never = record { sound = sound; sessions = refl; chain = Settled; well = tt }
has_settled w used (suc n) a c _ sound are_used (TierSettles {b = b} {log = log} {rest = rest} turns more) never =
    let parts = never_parts w log rest never in
    let first = has_idled w used n a b log sound are_used turns parts.0 in
    let keeps = first.keeps in
    let later = has_settled w used n b c rest keeps.sound (subst (AreUsed used) (sym keeps.users) are_used) more parts.1 in
    record {
      sound = later.sound;
      sessions = later.sessions ∙ keeps.sessions;
      chain = Tier first.chain (subst (λ (board : Board). Settles board n b.chain rest c.chain) keeps.board later.chain);
      well = both_well used log rest first.well later.well;
    }
