-- What turns and settlings of the chain promise, as turns of the run or as its stop.
use Rattle.std.proofs.Common.{◌≡◌, ℕ, ◌⊎◌, Bool, true, List, [], ◌∷◌, ◌++◌, length, map, Option, Some, refl, sym, ap, subst, ◌∙◌, inl, inr}
use Rattle.std.specs.Prelude.{suc, ◌≤◌, false, None, Result, Ok, Err, slice_get, slice_set, IfOk, OnOk, OnErr, MatchResult}
use Rattle.view_outside.specs.Faults.{Rose}
use Rattle.view_outside.specs.Taken.{RisesAtMost}
use Rattle.std.proofs.Math.Path.{fun_ext}
use Rattle.mesh_model.specs.Meshes.{MeshLists}
use Rattle.session_model.specs.Sessions.{SessionState}
use Rattle.token_words.specs.Changes.{Stays, SetsStay}
use Rattle.token_words.specs.PlainTokens.{epoch_in, is_pinned_in, is_user_in, is_locker_in}
use Rattle.token_words.specs.declared.entries.Entry.{Entry}
use Rattle.tier_model.specs.declared.turns.Turn.{Turn}
use Rattle.tier_model.specs.Ranks.{Posted}
use Rattle.tier_model.specs.Tiers.{TierState, body_at}
use Rattle.tier_model.specs.Answers.{IfGot, IfLost, IfFault, IfChanged, IfEvict, IfKept}
use Rattle.tier_model.specs.Chains.{has_below}
use Rattle.tier_model.specs.Settling.{TurnsAt}
use Rattle.token_words.specs.Sessions.{session_count}
use Rattle.tier_model.specs.Turns.{Board, begun}
use Rattle.transfer_step.specs.TurnWords.{board_of, TurnTakes, next_size, misses_in}
use Rattle.wish_board.specs.Boards.{BoardSeen, board_wish}
use Rattle.cache_chain.specs.ChainStates.{IsFileBody, FindsChanged}
use Rattle.cache_chain.specs.Turning.{chain_of, AtLowest, GivesBelow, TakesWishes}
use Rattle.cache_chain.specs.WordTurns.{words_of}
use Rattle.cache_chain.specs.TurnRuns.{Setting, Moment, setting_of, moment_of, chain_at, KeepsSets, MakesTurn, MakesTurns}
use Rattle.cache_chain.specs.SettleOrder.{ComesNext}
use Rattle.cache_chain.specs.SettleRuns.{lines_of, LogsSettling, LogsStop}
use Rattle.cache_chain.specs.declared.parts.TurnLine.{TurnLine}
use Rattle.run_model.specs.Worlds.{World}
use Rattle.run_model.specs.States.{State}
use Rattle.run_model.specs.States.{board_of as wishes_of}
use Rattle.run_model.specs.Turning.{TurnsTo}
use Rattle.run_model.specs.Events.{Reaches}
use Rattle.script_model.specs.declared.orders.Order.TheVariants as orders
use Rattle.run_model.specs.Lines.{DidTurns, SettlesTo, DoesSettle}
use Rattle.run_laws.specs.LineLaws.{does_reaches}
use Rattle.session_seats.specs.Seats.{SeatsSeen, at_seat, state_of}
use Rattle.view_machine.specs.CountLaws.{one_counts, turns_count}
use Rattle.view_machine.specs.LineCounts.{CountsTurns}
use Rattle.view_machine.specs.Machines.{world_with, state_in, IsMachine}
use Rattle.view_machine.specs.MachineLaws.{board_is}
use Rattle.view_machine.specs.Stops.{began, StopsAt, AtEvents}
use Rattle.view_machine.specs.OwnStops.{StopsIn, AtStart, InTurn, InSettling, InSettlingTurn, own_stops}
use Rattle.view_machine.specs.TurnStates.{state_at, IsSettingOf, turn_tells}
use Rattle.view_machine.specs.SettleStates.{setting_again, turns_tell, settling_tells}

-- what a chain over plain words tells at a moment
abbrev pub moment_in : List TierState → ℕ → List Entry → List (ℕ × ℕ) → ℕ → ℕ → Moment
moment_in tiers patches words misses faults taken = moment_of tiers (words_of patches (epoch_in words) (is_pinned_in words) (is_user_in words) (is_locker_in words) misses) faults taken

-- what stays over turns of a machine
abbrev pub setting_in : MeshLists → Option (List ℕ) → BoardSeen → Bool → Setting
setting_in mesh bytes board tells_misses = setting_of (board_of (board_wish board) board.version) true tells_misses mesh.index bytes

-- ---- a run that stops within turns

-- the words are as they were
stands_as : (sessions : ℕ → Option SessionState) (posted : ℕ → Option Posted) (version : ℕ) (m n : Moment) → Stays m.words.epochs n.words.epochs → SetsStay m.words.users n.words.users
    → state_at sessions posted version n ≡ record (state_at sessions posted version m) { chain = chain_of n.tiers m.words.epochs }
stands_as sessions posted version m n epochs users =
    let with_words : (ℕ → ℕ) → (ℕ → ℕ → Bool) → State = λ es us. record { chain = chain_of n.tiers es; users = us; sessions = sessions; posted = posted; version = version } in
    ap (λ (es : ℕ → ℕ). with_words es n.words.users) (fun_ext epochs)
    ∙ ap (λ (us : ℕ → ℕ → Bool). with_words m.words.epochs us) (fun_ext (λ (s : ℕ). fun_ext (users s)))

took_wishes : (w : World) (a : State) (k : ℕ) (t : TierState) (board : Board) (now : List TierState) → board ≡ wishes_of w a → now ≡ slice_set a.chain.tiers k (begun board t) → record a { chain = chain_of now a.chain.epochs } ≡ began w a k t
unfolding began
took_wishes w a k t board now same is =
    ap (λ (ts : List TierState). record a { chain = chain_of ts a.chain.epochs }) (is ∙ ap (λ (b : Board). slice_set a.chain.tiers k (begun b t)) same)

-- what holds of the state at a moment, and where tier k has begun a turn in it, holds where that turn was refused memory
stopped : (P : State → Type 0) (w : World) (sessions : ℕ → Option SessionState) (posted : ℕ → Option Posted) (version : ℕ) (u : Setting) (k : ℕ) (m n : Moment) → IsSettingOf w (state_at sessions posted version m) u → P (state_at sessions posted version m)
    → ((t : TierState) → slice_get m.tiers k ≡ Some t → P (began w (state_at sessions posted version m) k t))
    → (n.tiers ≡ m.tiers) ⊎ TakesWishes u.board k m.tiers n.tiers → Stays m.words.epochs n.words.epochs → SetsStay m.words.users n.words.users → P (state_at sessions posted version n)
stopped P w sessions posted version u k m n setting here begins tiers epochs users = by_tiers tiers
  where
    still : state_at sessions posted version n ≡ record (state_at sessions posted version m) { chain = chain_of n.tiers m.words.epochs }
    still = stands_as sessions posted version m n epochs users

    by_tiers : (n.tiers ≡ m.tiers) ⊎ TakesWishes u.board k m.tiers n.tiers → P (state_at sessions posted version n)
    by_tiers (inl same) = subst P (sym (still ∙ ap (λ (ts : List TierState). record (state_at sessions posted version m) { chain = chain_of ts m.words.epochs }) same)) here
    by_tiers (inr takes) = subst P (sym (still ∙ took_wishes w (state_at sessions posted version m) k takes.before u.board n.tiers setting.board takes.is)) (begins takes.before takes.was)

-- ---- what a turn's clauses say together

pub turn_made : {E : Type 0} (u : Setting) (k : ℕ) (m n : Moment) (result : Result Turn E) → IfOk result (λ answer. TurnsAt u.board k answer (chain_at m) (chain_at n))
    → IfOk result (λ answer. IfGot answer (λ p. (s : TierState) → slice_get n.tiers k ≡ Some s → GivesBelow (IsFileBody u.index u.bytes) m.tiers k p (body_at s p)))
    → IfOk result (λ answer. IfLost answer (λ p. has_below m.tiers k p ≡ false))
    → IfOk result (λ answer. IfFault answer (λ _. AtLowest m.tiers k (Rose m.faults n.faults)))
    → IfOk result (λ answer. IfChanged answer (λ p fault. AtLowest m.tiers k (FindsChanged u.index u.bytes p fault)))
    → (slice_get m.tiers (suc k) ≡ None → (s : TierState) → slice_get m.tiers k ≡ Some s → MatchResult result (λ answer. TurnTakes s.sizes answer m.taken n.taken) (λ _. RisesAtMost m.taken n.taken (next_size s)))
    → ((t : TierState) → slice_get m.tiers (suc k) ≡ Some t → n.taken ≡ m.taken) → m.faults ≤ n.faults
    → (k ≡ 0 → u.tells_sets ≡ true → IfOk result (λ answer. IfEvict answer (λ p. session_count (λ s. m.words.users s p) ≡ 0)))
    → (u.tells_sets ≡ true → IfOk result (λ answer. IfKept answer (λ p uses. uses ≡ session_count (λ s. m.words.users s p))))
    → (u.tells_misses ≡ true → MatchResult result (λ answer. n.words.misses ≡ m.words.misses ++ misses_in answer) (λ _. n.words.misses ≡ m.words.misses))
    → KeepsSets u m.words n.words → IfOk result (λ answer. MakesTurn u k answer m n)
turn_made u k m n (Ok answer) turned got lost fault changed taken upper later free found misses sets = record {
  turn = turned;
  got = got;
  lost = lost;
  fault = fault;
  changed = changed;
  taken = taken;
  upper = upper;
  later = later;
  free = free;
  found = found;
  misses = misses;
  sets = sets;
}
turn_made u k m n (Err e) turned got lost fault changed taken upper later free found misses sets = tt

pub if_ok_then : {T E : Type 0} (result : Result T E) {P Q : T → Type 0} → ((x : T) → P x → Q x) → IfOk result P → IfOk result Q
if_ok_then (Ok x) then is = then x is
if_ok_then (Err e) then is = tt

pub if_err_both : {T E P Q R : Type 0} (result : Result T E) → (P → Q → R) → OnErr result P → OnErr result Q → OnErr result R
if_err_both (Ok x) then p q = tt
if_err_both (Err e) then p q = then p q

-- ---- a log's lines

-- a line of the log as a turn with its tier's number
abbrev pub turn_in : TurnLine → ℕ × Turn
turn_in line = (line.tier, line.turn)

pub logged_turns : (turns : List (ℕ × Turn)) → map turn_in (map (λ (t : ℕ × Turn). record { tier = t.0; turn = t.1 }) turns) ≡ turns
logged_turns [] = refl
logged_turns (t ∷ ts) = ap (λ (rest : List (ℕ × Turn)). t ∷ rest) (logged_turns ts)

-- the tiers settled, each turn was logged, and the store's counts rose by the turns
pub record LogsLine (w : World) (a : State) (old new : List TurnLine) (b : State) (faults_before faults_now taken_before taken_now : ℕ) : Type 0 where
  pub turns : List (ℕ × Turn)
  pub log : new ≡ old ++ lines_of turns
  pub settles : SettlesTo w (length w.budgets) a turns b
  pub counts : CountsTurns w turns faults_before faults_now taken_before taken_now

pub settles_reach : (w : World) (a : State) (old new : List TurnLine) (b : State) (f g t u : ℕ) → LogsLine w a old new b f g t u → Reaches w a b
settles_reach w a old new b f g t u logs = does_reaches w a b orders.Settle (DidTurns logs.turns) (DoesSettle logs.settles)

pub settles_either : {E : Type 0} (w : World) (a : State) (old new : List TurnLine) (b : State) (f g t u : ℕ) (result : Result (Unit {0}) E) → OnOk result (LogsLine w a old new b f g t u) → OnErr result (StopsIn w a orders.Settle b) → StopsAt w a b
settles_either w a old new b f g t u (Ok x) logs stops = AtEvents (settles_reach w a old new b f g t u logs)
settles_either w a old new b f g t u (Err e) logs stops = own_stops w a orders.Settle b stops

pub if_ok_log : {E P : Type 0} (result : Result (Unit {0}) E) (Q : Type 0) → (P → Q) → IfOk result (λ _. P) → OnOk result Q
if_ok_log (Ok x) Q then p = then p
if_ok_log (Err e) Q then p = tt

-- ---- turns and settlings of a machine

module _ (mesh : MeshLists) (bytes : Option (List ℕ)) (tiers : List TierState) (words : List Entry) (seats : SeatsSeen) (board : BoardSeen) (is : IsMachine mesh bytes tiers words seats board) (tells_misses : Bool) (patches : ℕ) (misses : List (ℕ × ℕ)) (faults taken : ℕ) where
  abbrev w : World
  w = world_with mesh bytes tiers

  abbrev u : Setting
  u = setting_in mesh bytes board tells_misses

  abbrev first : Moment
  first = moment_in tiers patches words misses faults taken

  setting_is : IsSettingOf w (state_in tiers words seats board) u
  setting_is = record { board = sym (board_is w tiers words seats board is.on_board); sets = refl; index = refl; bodies = refl }

  module _ (now : List TierState) (patches_now : ℕ) (words_now : List Entry) (misses_now : List (ℕ × ℕ)) (faults_now taken_now : ℕ) where
    abbrev last : Moment
    last = moment_in now patches_now words_now misses_now faults_now taken_now

    -- the tier's turn is one of the run
    pub turn_is : (k : ℕ) (answer : Turn) → MakesTurn u k answer first last → TurnsTo w k (state_in tiers words seats board) answer (state_in now words_now seats board)
    unfolding state_of
    turn_is k answer turn = turn_tells w (at_seat seats.sessions) (at_seat board.views) board.version u k answer first last setting_is (λ t at. (is.safe.set_up k t at).made) turn

    -- the store's counts rise by the turn
    pub turn_counts : (k : ℕ) (answer : Turn) → MakesTurn u k answer first last → CountsTurns w ((k, answer) ∷ []) faults faults_now taken taken_now
    unfolding state_of
    turn_counts k answer turn = one_counts w u k answer first last is.safe.many (λ t at. (is.safe.set_up k t at).made.sizes) setting_is.index setting_is.bodies turn

    pub turn_stops : (k : ℕ) → TakesWishes u.board k tiers now → Stays (epoch_in words) (epoch_in words_now) → SetsStay (is_user_in words) (is_user_in words_now) → StopsIn w (state_in tiers words seats board) (orders.Turn k) (state_in now words_now seats board)
    unfolding state_of
    turn_stops k takes epochs users =
        stopped (StopsIn w (state_in tiers words seats board) (orders.Turn k)) w (at_seat seats.sessions) (at_seat board.views) board.version u k first last setting_is AtStart (InTurn k) (inr takes) epochs users

    -- the settling is one of the run
    pub settling_is : (old new : List TurnLine) (logs : LogsSettling u (length tiers) first last old new) → SettlesTo w (length w.budgets) (state_in tiers words seats board) logs.made (state_in now words_now seats board)
    unfolding state_of
    settling_is old new logs =
        subst (λ (n : ℕ). SettlesTo w n (state_in tiers words seats board) logs.made (state_in now words_now seats board)) is.safe.many
        (settling_tells w is.world (at_seat seats.sessions) (at_seat board.views) board.version u (length tiers) first last logs.made (chain_of tiers (epoch_in words)) (chain_of now (epoch_in words_now)) setting_is is.safe logs.settles logs.turns)

    -- the store's counts rise by the turns
    pub settling_counts : (made : List (ℕ × Turn)) → MakesTurns u first made last → CountsTurns w made faults faults_now taken taken_now
    unfolding state_of
    settling_counts made turns = turns_count w is.world (at_seat seats.sessions) (at_seat board.views) board.version u first last made setting_is is.safe turns

    pub settling_stops : (old new : List TurnLine) → LogsStop u (length tiers) first last old new → StopsIn w (state_in tiers words seats board) orders.Settle (state_in now words_now seats board)
    unfolding state_of
    settling_stops old new logs =
        let sessions = at_seat seats.sessions in
        let posted = at_seat board.views in
        let a = state_in tiers words seats board in
        let stops = logs.stops in
        let next = subst (λ (n : ℕ). ComesNext n stops.tier logs.made) is.safe.many logs.next in
        let makes = turns_tell w is.world sessions posted board.version u first stops.last logs.made setting_is is.safe stops.turns in
        stopped (StopsIn w a orders.Settle) w sessions posted board.version u stops.tier stops.last last
        (setting_again w is.world sessions posted board.version u first stops.last setting_is)
        (InSettling logs.made stops.tier next makes) (λ t at. InSettlingTurn logs.made stops.tier t next makes at) stops.refused.tiers stops.refused.epochs (stops.refused.sets.users refl)
