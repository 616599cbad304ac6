-- What a driver's lines do is one, and so is their text, where what the store gave is one.
use Rattle.std.proofs.Common.{◌≡◌, ℕ, zero, suc, true, false, List, [], ◌∷◌, ◌++◌, length, map, Option, Some, None, Result, Ok, Err, refl, sym, ap, ap₂, subst, ◌∙◌, append-nil, append_assoc}
use Rattle.std.specs.List.{flat_map}
use Rattle.file_model.specs.Lists.{BodyLists}
use Rattle.script_model.specs.declared.orders.Order.{Order}
use Rattle.script_model.specs.declared.orders.Order.TheVariants as orders
use Rattle.text_model.specs.declared.faults.ScriptFault.{ScriptFault}
use Rattle.text_model.specs.FrameText.{Frame}
use Rattle.tier_model.specs.declared.turns.Turn.{Turn}
use Rattle.run_model.specs.Worlds.{World, IsWorld}
use Rattle.run_model.specs.States.{State}
use Rattle.run_model.specs.Lines.{Did, DidFrame, Does}
use Rattle.run_model.specs.RunTexts.{StoreOutcome, turn_outcome, turn_outcomes, outcomes_of, store_outcomes}
use Rattle.run_laws.specs.BlankRuns.{blank_state}
use Rattle.run_laws.specs.BlankTiers.{blank_body}
use Rattle.run_laws.specs.OneRun.{does_like, one_opening, opening_many, text_one}
use Rattle.run_laws.specs.OneSettling.{IsOneLog, cancel_turn, does_many, first_outcome, outcomes_split, turn_many}
use Rattle.run_laws.specs.OneTurn.{same_blank, turn_one_like}
use Rattle.live_model.specs.declared.orders.LiveOrder.{LiveOrder}
use Rattle.live_model.specs.LiveOrders.{live_in}
use Rattle.live_model.specs.LiveLines.{LiveDid, DidPlay, DidShow, DidGive, DidRounds, DidNothing, DidRefuse, OrderDoes, Plays, Shows, Gives, TurnsAll, LiveDoes, Skips, Refuses, Obeys, LiveRuns, NoLine, OneLine, turn_dids, plain_dids}
use Rattle.live_model.specs.LiveTexts.{IsAnswerOf, AreAnswersOf, NoAnswer, OneAnswer, IsLiveText}
use Rattle.live_model.specs.LiveTurns.{all_idle, TurnsOnce, NoTier, TierTurns, TurnsRounds, NoRound, LastRound, MoreRounds}
use Rattle.live_model.specs.Places.{Place, place_of}

-- what a line did, with a body that it gave as many bytes, all 0
abbrev pub without_bytes : LiveDid → LiveDid
without_bytes (DidPlay did) = DidPlay did
without_bytes (DidShow frame) = DidShow frame
without_bytes (DidGive p body) = DidGive p (blank_body body)
without_bytes (DidRounds log) = DidRounds log
without_bytes DidNothing = DidNothing
without_bytes (DidRefuse fault) = DidRefuse fault

-- two lines did one thing, and lead to one state, but for bytes of bodies
record IsOneLive (x y : LiveDid) (b c : State) (rest more : List StoreOutcome) : Type 0 where
  did : without_bytes x ≡ without_bytes y
  state : blank_state b ≡ blank_state c
  rest_is : rest ≡ more

-- ---- what came of fetches, in parts

turns_outcomes : (w : World) (log : List (ℕ × Turn)) → store_outcomes w (turn_dids log) ≡ turn_outcomes w log
unfolding store_outcomes turn_outcomes
turns_outcomes w [] = refl
turns_outcomes w (turn ∷ log) = ap₂ (λ (os more : List StoreOutcome). os ++ more) (append-nil (turn_outcome w turn)) (turns_outcomes w log)

store_split : (w : World) (dids others : List Did) (rest : List StoreOutcome) → store_outcomes w (dids ++ others) ++ rest ≡ store_outcomes w dids ++ (store_outcomes w others ++ rest)
unfolding store_outcomes
store_split w [] others rest = refl
store_split w (did ∷ dids) others rest =
    append_assoc (outcomes_of w did) (store_outcomes w (dids ++ others)) rest
    ∙ ap (λ (os : List StoreOutcome). outcomes_of w did ++ os) (store_split w dids others rest)
    ∙ sym (append_assoc (outcomes_of w did) (store_outcomes w dids) (store_outcomes w others ++ rest))

one_outcome : (w : World) (did : Did) (rest : List StoreOutcome) → store_outcomes w (did ∷ []) ++ rest ≡ outcomes_of w did ++ rest
unfolding store_outcomes
one_outcome w did rest = ap (λ (os : List StoreOutcome). os ++ rest) (append-nil (outcomes_of w did))

-- ---- how many tiers there are

once_many : (w : World) (n : ℕ) (a b : State) (log : List (ℕ × Turn)) → TurnsOnce w n a log b → length b.chain.tiers ≡ length a.chain.tiers
once_many w zero a _ _ NoTier = refl
once_many w (suc n) a c _ (TierTurns {b = b} {log = log} answer turn rest) = once_many w n b c log rest ∙ turn_many w n a b answer turn

rounds_many : (w : World) (n : ℕ) (a b : State) (log : List (ℕ × Turn)) → TurnsRounds w n a log b → length b.chain.tiers ≡ length a.chain.tiers
rounds_many w zero a _ _ NoRound = refl
rounds_many w (suc n) a b log (LastRound round idle) = once_many w (length w.budgets) a b log round
rounds_many w (suc n) a c _ (MoreRounds {b = b} {log = log} {rest = rest} round busy later) = rounds_many w n b c rest later ∙ once_many w (length w.budgets) a b log round

order_many : (w : World) (a b : State) (order : LiveOrder) (did : LiveDid) → OrderDoes w a order did b → length b.chain.tiers ≡ length a.chain.tiers
order_many w a b _ _ (Plays {order = order} {did = did} does) = does_many w a b order did does
order_many w a b _ _ (Shows {frame = frame} i does) = does_many w a b (orders.Frame i) (DidFrame frame) does
order_many w a _ _ _ (Gives p held) = refl
order_many w a b _ _ (TurnsAll {log = log} n rounds) = rounds_many w n a b log rounds

line_many : (w : World) (a b : State) (line : List ℕ) (did : LiveDid) → LiveDoes w a line did b → length b.chain.tiers ≡ length a.chain.tiers
line_many w a _ line _ (Skips is) = refl
line_many w a _ line _ (Refuses fault is) = refl
line_many w a b line did (Obeys order is does) = order_many w a b order did does

-- ---- rounds of turns

abbrev of_tier : ℕ → Turn → List (ℕ × Turn) → List (ℕ × Turn)
of_tier k answer log = (k, answer) ∷ log

no_idle : (log other : List (ℕ × Turn)) → log ≡ other → all_idle log ≡ true → all_idle other ≡ false → ⊥
no_idle log other same idle busy = let test = ap all_idle same in cc

module _ (w : World) (bodies : List BodyLists) (told : w.bodies ≡ Some bodies) where
  once_like : (n : ℕ) (a d b c : State) (log other : List (ℕ × Turn)) (rest more : List StoreOutcome) → length a.chain.tiers ≡ length w.budgets → blank_state a ≡ blank_state d → TurnsOnce w n a log b → TurnsOnce w n d other c
      → turn_outcomes w log ++ rest ≡ turn_outcomes w other ++ more → IsOneLog log other b c rest more
  unfolding turn_outcomes
  once_like zero a d _ _ _ _ rest more many like NoTier NoTier same = record { turns = refl; state = like; rest_is = same }
  once_like (suc n) a d b c _ _ rest more many like (TierTurns {b = e} {log = log} x turn later) (TierTurns {b = f} {log = others} y also further) same =
      let parts = sym (first_outcome w (n, x) log rest) ∙ same ∙ first_outcome w (n, y) others more in
      let one = turn_one_like w bodies told a d e f n x y (turn_outcomes w log ++ rest) (turn_outcomes w others ++ more) many like turn also parts in
      let left = cancel_turn w n x y (turn_outcomes w log ++ rest) (turn_outcomes w others ++ more) one.answer parts in
      let end = once_like n e f b c log others rest more (turn_many w n a e x turn ∙ many) one.state later further left in
      record { turns = ap₂ (of_tier n) one.answer end.turns; state = end.state; rest_is = end.rest_is }

  rounds_like : (n : ℕ) (a d b c : State) (log other : List (ℕ × Turn)) (rest more : List StoreOutcome) → length a.chain.tiers ≡ length w.budgets → blank_state a ≡ blank_state d → TurnsRounds w n a log b → TurnsRounds w n d other c
      → turn_outcomes w log ++ rest ≡ turn_outcomes w other ++ more → IsOneLog log other b c rest more
  unfolding turn_outcomes
  rounds_like zero a d _ _ _ _ rest more many like NoRound NoRound same = record { turns = refl; state = like; rest_is = same }
  rounds_like (suc n) a d b c log other rest more many like (LastRound round idle) (LastRound also still) same = once_like (length w.budgets) a d b c log other rest more many like round also same
  rounds_like (suc n) a d b c log _ rest more many like (LastRound round idle) (MoreRounds {b = f} {log = other} {rest = beyond} also busy further) same =
      let parts = same ∙ outcomes_split w other beyond more in
      let one = once_like (length w.budgets) a d b f log other rest (turn_outcomes w beyond ++ more) many like round also parts in
      absurd (no_idle log other one.turns idle busy)
  rounds_like (suc n) a d b c _ other rest more many like (MoreRounds {b = e} {log = log} {rest = behind} round busy later) (LastRound also idle) same =
      let parts = sym (outcomes_split w log behind rest) ∙ same in
      let one = once_like (length w.budgets) a d e c log other (turn_outcomes w behind ++ rest) more many like round also parts in
      absurd (no_idle other log (sym one.turns) idle busy)
  rounds_like (suc n) a d b c _ _ rest more many like (MoreRounds {b = e} {log = log} {rest = behind} round busy later) (MoreRounds {b = f} {log = other} {rest = beyond} also still further) same =
      let parts = sym (outcomes_split w log behind rest) ∙ same ∙ outcomes_split w other beyond more in
      let one = once_like (length w.budgets) a d e f log other (turn_outcomes w behind ++ rest) (turn_outcomes w beyond ++ more) many like round also parts in
      let end = rounds_like n e f b c behind beyond rest more (once_many w (length w.budgets) a e log round ∙ many) one.state later further one.rest_is in
      record { turns = ap₂ (λ (xs ys : List (ℕ × Turn)). xs ++ ys) one.turns end.turns; state = end.state; rest_is = end.rest_is }

  -- ---- a line

  play_like : (order : Order) (a d b c : State) (x y : Did) (rest more : List StoreOutcome) → length a.chain.tiers ≡ length w.budgets → blank_state a ≡ blank_state d → Does w a order x b → Does w d order y c
      → store_outcomes w (x ∷ []) ++ rest ≡ store_outcomes w (y ∷ []) ++ more → IsOneLive (DidPlay x) (DidPlay y) b c rest more
  play_like order a d b c x y rest more many like first second same =
      let one = does_like w bodies told order a d b c x y rest more many like first second (sym (one_outcome w x rest) ∙ same ∙ one_outcome w y more) in
      record { did = ap DidPlay one.did; state = one.state; rest_is = one.rest_is }

  show_like : (order : Order) (a d b c : State) (x y : Frame) (rest more : List StoreOutcome) → length a.chain.tiers ≡ length w.budgets → blank_state a ≡ blank_state d → Does w a order (DidFrame x) b → Does w d order (DidFrame y) c
      → store_outcomes w (DidFrame x ∷ []) ++ rest ≡ store_outcomes w (DidFrame y ∷ []) ++ more → IsOneLive (DidShow x) (DidShow y) b c rest more
  show_like order a d b c x y rest more many like first second same =
      let one = does_like w bodies told order a d b c (DidFrame x) (DidFrame y) rest more many like first second (sym (one_outcome w (DidFrame x) rest) ∙ same ∙ one_outcome w (DidFrame y) more) in
      let frames : DidFrame x ≡ DidFrame y = one.did in
      let frame : x ≡ y = cc in
      record { did = ap DidShow frame; state = one.state; rest_is = one.rest_is }

  order_like : (order : LiveOrder) (a d b c : State) (x y : LiveDid) (rest more : List StoreOutcome) → length a.chain.tiers ≡ length w.budgets → blank_state a ≡ blank_state d → OrderDoes w a order x b → OrderDoes w d order y c
      → store_outcomes w (plain_dids x) ++ rest ≡ store_outcomes w (plain_dids y) ++ more → IsOneLive x y b c rest more
  unfolding store_outcomes
  order_like _ a d b c _ _ rest more many like (Plays {order = order} {did = x} does) (Plays {did = y} also) same = play_like order a d b c x y rest more many like does also same
  order_like _ a d b c _ _ rest more many like (Shows {frame = x} i does) (Shows {frame = y} j also) same = show_like (orders.Frame i) a d b c x y rest more many like does also same
  order_like _ a d _ _ _ _ rest more many like (Gives p held) (Gives q also) same = record {
    did = ap (DidGive p) (same_blank w bodies told p held.body also.body held.of_file also.of_file);
    state = like;
    rest_is = same;
  }
  order_like _ a d b c _ _ rest more many like (TurnsAll {log = log} n rounds) (TurnsAll {log = other} m also) same =
      let parts = ap (λ (os : List StoreOutcome). os ++ rest) (sym (turns_outcomes w log)) ∙ same ∙ ap (λ (os : List StoreOutcome). os ++ more) (turns_outcomes w other) in
      let one = rounds_like n a d b c log other rest more many like rounds also parts in
      record { did = ap DidRounds one.turns; state = one.state; rest_is = one.rest_is }

  -- the lines that may come are one
  same_place : (a d : State) → blank_state a ≡ blank_state d → place_of w a ≡ place_of w d
  unfolding blank_state
  same_place a d like = ap (place_of w) like

  -- what is read of a line in two states that are one
  one_reading : (line : List ℕ) (a d : State) (read other : Result (Option LiveOrder) ScriptFault) → blank_state a ≡ blank_state d → live_in (place_of w a) line ≡ read → live_in (place_of w d) line ≡ other → read ≡ other
  one_reading line a d read other like is also = sym is ∙ ap (λ (place : Place). live_in place line) (same_place a d like) ∙ also

  line_like : (line : List ℕ) (a d b c : State) (x y : LiveDid) (rest more : List StoreOutcome) → length a.chain.tiers ≡ length w.budgets → blank_state a ≡ blank_state d → LiveDoes w a line x b → LiveDoes w d line y c
      → store_outcomes w (plain_dids x) ++ rest ≡ store_outcomes w (plain_dids y) ++ more → IsOneLive x y b c rest more
  unfolding store_outcomes
  line_like line a d _ _ _ _ rest more many like (Skips is) (Skips also) same = record { did = refl; state = like; rest_is = same }
  line_like line a d _ _ _ _ rest more many like (Refuses fault is) (Refuses other also) same =
      let read = one_reading line a d (Err fault) (Err other) like is also in
      let faults : fault ≡ other = cc in
      record { did = ap DidRefuse faults; state = like; rest_is = same }
  line_like line a d b c x y rest more many like (Obeys order is does) (Obeys other also done) same =
      let read = one_reading line a d (Ok (Some order)) (Ok (Some other)) like is also in
      let orders : order ≡ other = cc in
      order_like order a d b c x y rest more many like does (subst (λ (o : LiveOrder). OrderDoes w d o y c) (sym orders) done) same
  line_like line a d _ _ _ _ rest more many like (Skips is) (Refuses fault also) same = absurd (let read = one_reading line a d (Ok None) (Err fault) like is also in cc)
  line_like line a d _ c _ y rest more many like (Skips is) (Obeys order also done) same = absurd (let read = one_reading line a d (Ok None) (Ok (Some order)) like is also in cc)
  line_like line a d _ _ _ _ rest more many like (Refuses fault is) (Skips also) same = absurd (let read = one_reading line a d (Err fault) (Ok None) like is also in cc)
  line_like line a d _ c _ y rest more many like (Refuses fault is) (Obeys order also done) same = absurd (let read = one_reading line a d (Err fault) (Ok (Some order)) like is also in cc)
  line_like line a d b _ x _ rest more many like (Obeys order is does) (Skips also) same = absurd (let read = one_reading line a d (Ok (Some order)) (Ok None) like is also in cc)
  line_like line a d b _ x _ rest more many like (Obeys order is does) (Refuses fault also) same = absurd (let read = one_reading line a d (Ok (Some order)) (Err fault) like is also in cc)

  -- ---- lines

  lines_like : (lines : List (List ℕ)) (a d b c : State) (dids others : List LiveDid) (rest more : List StoreOutcome) → length a.chain.tiers ≡ length w.budgets → blank_state a ≡ blank_state d → LiveRuns w a lines dids b
      → LiveRuns w d lines others c → store_outcomes w (flat_map plain_dids dids) ++ rest ≡ store_outcomes w (flat_map plain_dids others) ++ more → map without_bytes dids ≡ map without_bytes others
  lines_like _ a d _ _ _ _ rest more many like NoLine NoLine same = refl
  lines_like _ a d b c _ _ rest more many like (OneLine {b = e} {line = line} {lines = lines} {did = did} {dids = dids} does later) (OneLine {b = f} {did = other} {dids = others} also further) same =
      let behind = store_outcomes w (flat_map plain_dids dids) ++ rest in
      let beyond = store_outcomes w (flat_map plain_dids others) ++ more in
      let parts = sym (store_split w (plain_dids did) (flat_map plain_dids dids) rest) ∙ same ∙ store_split w (plain_dids other) (flat_map plain_dids others) more in
      let one = line_like line a d e f did other behind beyond many like does also parts in
      ap₂ (λ (x : LiveDid) (xs : List LiveDid). x ∷ xs) one.did (lines_like lines e f b c dids others rest more (line_many w a e line did does ∙ many) one.state later further one.rest_is)

-- ---- answers

-- an answer doesn't depend on the bytes that a body is held as
blank_answer : (did : LiveDid) (text : List ℕ) → IsAnswerOf did text → IsAnswerOf (without_bytes did) text
blank_answer (DidPlay did) text is = is
blank_answer (DidShow frame) text is = is
blank_answer (DidGive p body) text is = is
blank_answer (DidRounds log) text is = is
blank_answer DidNothing text is = is
blank_answer (DidRefuse fault) text is = is

answer_one : (did : LiveDid) (t u : List ℕ) → IsAnswerOf did t → IsAnswerOf did u → t ≡ u
answer_one (DidPlay did) t u first second = text_one did t u first second
answer_one (DidShow frame) t u first second = first ∙ sym second
answer_one (DidGive p body) t u first second = first ∙ sym second
answer_one (DidRounds log) t u first second = first ∙ sym second
answer_one DidNothing t u first second = first ∙ sym second
answer_one (DidRefuse fault) t u first second = first ∙ sym second

answers_one : (dids others : List LiveDid) (t u : List ℕ) → map without_bytes dids ≡ map without_bytes others → AreAnswersOf dids t → AreAnswersOf others u → t ≡ u
answers_one _ _ _ _ same NoAnswer NoAnswer = refl
answers_one _ _ _ _ same (OneAnswer {did = did} {dids = dids} text rest is more) (OneAnswer {did = other} {dids = others} answer behind also further) =
    let parts : without_bytes did ∷ map without_bytes dids ≡ without_bytes other ∷ map without_bytes others = same in
    let here : without_bytes did ≡ without_bytes other = cc in
    let later : map without_bytes dids ≡ map without_bytes others = cc in
    let first = subst (λ (x : LiveDid). IsAnswerOf x text) here (blank_answer did text is) in
    ap₂ (λ (x y : List ℕ). x ++ y) (answer_one (without_bytes other) text answer first (blank_answer other answer also)) (answers_one dids others rest behind later more further)
answers_one _ _ _ _ same NoAnswer (OneAnswer answer behind also further) = absurd cc
answers_one _ _ _ _ same (OneAnswer text rest is more) NoAnswer = absurd cc

-- ---- live runs

module _ (w : World) (bodies : List BodyLists) (told : w.bodies ≡ Some bodies) (world : IsWorld w) (lines : List (List ℕ)) (outcomes : List StoreOutcome) (t u : List ℕ) where
  -- two runs of the same lines in which the store gave the same do the same
  pub live_dids_are_one : (first : IsLiveText w lines outcomes t) (second : IsLiveText w lines outcomes u) → map without_bytes first.dids ≡ map without_bytes second.dids
  live_dids_are_one first second =
      let like : blank_state first.first ≡ blank_state second.first =
      ap blank_state first.opens.is ∙ one_opening w bodies told world first.opens.body second.opens.body first.opens.bodies second.opens.bodies ∙ sym (ap blank_state second.opens.is) in
      let many = ap (λ (s : State). length s.chain.tiers) first.opens.is ∙ opening_many w first.opens.body in
      lines_like w bodies told lines first.first second.first first.last second.last first.dids second.dids [] [] many like first.runs second.runs (ap (λ (os : List StoreOutcome). os ++ []) (first.fetched ∙ sym second.fetched))

  -- and are answered alike
  pub live_text_is_one : IsLiveText w lines outcomes t → IsLiveText w lines outcomes u → t ≡ u
  live_text_is_one first second = answers_one first.dids second.dids t u (live_dids_are_one first second) first.is second.is
