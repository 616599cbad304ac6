-- Rounds of turns of a machine, with their lines.
use Rattle.std.proofs.Common.{◌≡◌, ℕ, suc, Bool, true, false, ◌&&◌, List, [], ◌∷◌, ◌++◌, length, refl, sym, ap, subst, ◌∙◌, append_assoc, append-nil}
use Rattle.text_model.specs.Lines.{Adds}
use Rattle.tier_model.specs.declared.turns.Turn.{Turn}
use Rattle.run_model.specs.Worlds.{World}
use Rattle.run_model.specs.States.{State}
use Rattle.run_model.specs.Turning.{TurnsTo}
use Rattle.run_model.specs.Events.{Reaches, Stays, Turns}
use Rattle.run_model.specs.LineTexts.{turn_line, turn_lines}
use Rattle.run_laws.specs.SessionReach.{reaches_both, reaches_one}
use Rattle.script_model.specs.declared.orders.Order.TheVariants as orders
use Rattle.live_model.specs.LiveLaws.{once_run, rounds_run, run_reaches}
use Rattle.live_model.specs.LiveLines.{turn_dids}
use Rattle.live_model.specs.LiveTurns.{is_idle, all_idle, TurnsOnce, NoTier, TierTurns, TurnsRounds, NoRound, LastRound, MoreRounds}
use Rattle.view_machine.specs.OwnStops.{StopsIn, own_stops}
use Rattle.view_machine.specs.Stops.{StopsAt, AtEvents, AtTurn}

-- ---- what is said of rounds

-- each tier made a turn, whose line was put behind the text, and all were idle or not
pub record AddsOnce (w : World) (a b : State) (before after : List ℕ) (idle : Bool) : Type 0 where
  pub log : List (ℕ × Turn)
  pub once : TurnsOnce w (length w.budgets) a log b
  pub adds : after ≡ before ++ turn_lines log
  pub idles : idle ≡ all_idle log

-- the tiers made so many rounds, and the turns' lines were put behind the text
pub record AddsRounds (w : World) (n : ℕ) (a b : State) (before after : List ℕ) : Type 0 where
  pub log : List (ℕ × Turn)
  pub rounds : TurnsRounds w n a log b
  pub adds : after ≡ before ++ turn_lines log

-- ---- on the way

turn_lines_both : (log rest : List (ℕ × Turn)) → turn_lines (log ++ rest) ≡ turn_lines log ++ turn_lines rest
unfolding turn_lines
turn_lines_both [] rest = refl
turn_lines_both (t ∷ ts) rest =
    ap (λ (text : List ℕ). turn_line t.0 t.1 ++ text) (turn_lines_both ts rest) ∙ sym (append_assoc (turn_line t.0 t.1) (turn_lines ts) (turn_lines rest))

lines_behind : (before mid after : List ℕ) (log rest : List (ℕ × Turn)) → mid ≡ before ++ turn_lines log → after ≡ mid ++ turn_lines rest → after ≡ before ++ turn_lines (log ++ rest)
lines_behind before mid after log rest first then =
    then ∙ ap (λ (text : List ℕ). text ++ turn_lines rest) first ∙ append_assoc before (turn_lines log) (turn_lines rest)
    ∙ ap (λ (text : List ℕ). before ++ text) (sym (turn_lines_both log rest))

no_lines : (before : List ℕ) → before ≡ before ++ turn_lines []
unfolding turn_lines
no_lines before = sym (append-nil before)

one_line : (k : ℕ) (answer : Turn) (mid after : List ℕ) → Adds mid after (turn_line k answer) → after ≡ mid ++ turn_lines ((k, answer) ∷ [])
unfolding turn_lines
one_line k answer mid after adds = adds.is ∙ ap (λ (text : List ℕ). mid ++ text) (sym (append-nil (turn_line k answer)))

-- the tiers from n down to this many have made a turn
pub record MidOnce (w : World) (n left : ℕ) (a now : State) (before out : List ℕ) (idle : Bool) : Type 0 where
  pub log : List (ℕ × Turn)
  pub on : (rest : List (ℕ × Turn)) (c : State) → TurnsOnce w left now rest c → TurnsOnce w n a (log ++ rest) c
  pub reaches : Reaches w a now
  pub text : out ≡ before ++ turn_lines log
  pub idles : idle ≡ all_idle log

once_begins : (w : World) (n : ℕ) (a : State) (before : List ℕ) → MidOnce w n n a a before before true
once_begins w n a before = record { log = []; on = λ rest c once. once; reaches = Stays; text = no_lines before; idles = refl }

pub once_starts : (w : World) (n left : ℕ) (a : State) (before : List ℕ) → left ≡ n → MidOnce w n left a a before before true
once_starts w n left a before is = subst (λ (m : ℕ). MidOnce w n m a a before before true) (sym is) (once_begins w n a before)

idle_behind : (log : List (ℕ × Turn)) (k : ℕ) (answer : Turn) → (all_idle log && is_idle answer) ≡ all_idle (log ++ (k, answer) ∷ [])
idle_behind [] k answer = and_nil (is_idle answer)
  where
    and_nil : (b : Bool) → (true && b) ≡ (b && true)
    and_nil true = refl
    and_nil false = refl
idle_behind (t ∷ ts) k answer = and_first (is_idle t.1) (all_idle ts) (is_idle answer) (all_idle (ts ++ (k, answer) ∷ [])) (idle_behind ts k answer)
  where
    and_first : (b c d e : Bool) → (c && d) ≡ e → (b && c && d) ≡ (b && e)
    and_first true c d e is = is
    and_first false c d e is = refl

pub once_more : (w : World) (n left k : ℕ) (a mid now : State) (before between after : List ℕ) (idle idle_now : Bool) (answer : Turn) → left ≡ suc k
    → MidOnce w n left a mid before between idle → TurnsTo w k mid answer now → Adds between after (turn_line k answer) → idle_now ≡ (idle && is_idle answer)
    → MidOnce w n k a now before after idle_now
once_more w n left k a mid now before between after idle idle_now answer is so_far turn adds idles = record {
  log = so_far.log ++ (k, answer) ∷ [];
  on = λ rest c once.
      subst (λ (log : List (ℕ × Turn)). TurnsOnce w n a log c) (sym (append_assoc so_far.log ((k, answer) ∷ []) rest))
      (so_far.on ((k, answer) ∷ rest) c (subst (λ (m : ℕ). TurnsOnce w m mid ((k, answer) ∷ rest) c) (sym is) (TierTurns answer turn once)));
  reaches = reaches_both w a mid now so_far.reaches (reaches_one w mid now (Turns k answer turn));
  text = lines_behind before between after so_far.log ((k, answer) ∷ []) so_far.text (one_line k answer between after adds);
  idles = idles ∙ ap (λ (b : Bool). b && is_idle answer) so_far.idles ∙ idle_behind so_far.log k answer;
}

pub once_done : (w : World) (left : ℕ) (a now : State) (before out : List ℕ) (idle : Bool) → left ≡ 0 → MidOnce w (length w.budgets) left a now before out idle → AddsOnce w a now before out idle
once_done w left a now before out idle none so_far = record {
  log = so_far.log;
  once = subst (λ (log : List (ℕ × Turn)). TurnsOnce w (length w.budgets) a log now) (append-nil so_far.log)
      (so_far.on [] now (subst (λ (m : ℕ). TurnsOnce w m now [] now) (sym none) NoTier));
  adds = so_far.text;
  idles = so_far.idles;
}

-- the rounds but for this many were made
pub record MidRounds (w : World) (n left : ℕ) (a now : State) (before out : List ℕ) : Type 0 where
  pub log : List (ℕ × Turn)
  pub on : (rest : List (ℕ × Turn)) (c : State) → TurnsRounds w left now rest c → TurnsRounds w n a (log ++ rest) c
  pub reaches : Reaches w a now
  pub text : out ≡ before ++ turn_lines log

pub rounds_begin : (w : World) (n : ℕ) (a : State) (before : List ℕ) → MidRounds w n n a a before before
rounds_begin w n a before = record { log = []; on = λ rest c rounds. rounds; reaches = Stays; text = no_lines before }

once_reaches : (w : World) (a b : State) (before after : List ℕ) (idle : Bool) → AddsOnce w a b before after idle → Reaches w a b
once_reaches w a b before after idle adds = run_reaches w a b (turn_dids adds.log) (once_run w (length w.budgets) a b adds.log adds.once)

pub rounds_more : (w : World) (n left k : ℕ) (a mid now : State) (before between after : List ℕ) (idle : Bool) → left ≡ suc k → MidRounds w n left a mid before between → AddsOnce w mid now between after idle → idle ≡ false
    → MidRounds w n k a now before after
rounds_more w n left k a mid now before between after idle is so_far adds busy = record {
  log = so_far.log ++ adds.log;
  on = λ rest c rounds.
      subst (λ (log : List (ℕ × Turn)). TurnsRounds w n a log c) (sym (append_assoc so_far.log adds.log rest))
      (so_far.on (adds.log ++ rest) c (subst (λ (m : ℕ). TurnsRounds w m mid (adds.log ++ rest) c) (sym is) (MoreRounds adds.once (sym adds.idles ∙ busy) rounds)));
  reaches = reaches_both w a mid now so_far.reaches (once_reaches w mid now between after idle adds);
  text = lines_behind before between after so_far.log adds.log so_far.text adds.adds;
}

pub rounds_idle : (w : World) (n left k : ℕ) (a mid now : State) (before between after : List ℕ) (idle : Bool) → left ≡ suc k → MidRounds w n left a mid before between → AddsOnce w mid now between after idle → idle ≡ true
    → AddsRounds w n a now before after
rounds_idle w n left k a mid now before between after idle is so_far adds all = record {
  log = so_far.log ++ adds.log;
  rounds = so_far.on adds.log now (subst (λ (m : ℕ). TurnsRounds w m mid adds.log now) (sym is) (LastRound adds.once (sym adds.idles ∙ all)));
  adds = lines_behind before between after so_far.log adds.log so_far.text adds.adds;
}

pub rounds_done : (w : World) (n left : ℕ) (a now : State) (before out : List ℕ) → left ≡ 0 → MidRounds w n left a now before out → AddsRounds w n a now before out
rounds_done w n left a now before out none so_far = record {
  log = so_far.log;
  rounds = subst (λ (log : List (ℕ × Turn)). TurnsRounds w n a log now) (append-nil so_far.log)
      (so_far.on [] now (subst (λ (m : ℕ). TurnsRounds w m now [] now) (sym none) NoRound));
  adds = so_far.text;
}

pub rounds_reach : (w : World) (n : ℕ) (a b : State) (before after : List ℕ) → AddsRounds w n a b before after → Reaches w a b
rounds_reach w n a b before after adds = run_reaches w a b (turn_dids adds.log) (rounds_run w n a b adds.log adds.rounds)

-- ---- stops

-- what stops later, stops since before
pub stops_later : (w : World) (a mid b : State) → Reaches w a mid → StopsAt w mid b → StopsAt w a b
stops_later w a mid b reaches (AtEvents events) = AtEvents (reaches_both w a mid b reaches events)
stops_later w a mid _ reaches (AtTurn {b = c} k t events at) = AtTurn k t (reaches_both w a mid c reaches events) at

-- a turn stopped behind others
pub turn_stops_later : (w : World) (a mid b : State) (k : ℕ) → Reaches w a mid → StopsIn w mid (orders.Turn k) b → StopsAt w a b
turn_stops_later w a mid b k reaches stops = stops_later w a mid b reaches (own_stops w mid (orders.Turn k) b stops)

-- a turn was made behind others, and its line found no memory
pub turn_unwritten : (w : World) (a mid b : State) (k : ℕ) (answer : Turn) → Reaches w a mid → TurnsTo w k mid answer b → StopsAt w a b
turn_unwritten w a mid b k answer reaches turn = AtEvents (reaches_both w a mid b reaches (reaches_one w mid b (Turns k answer turn)))
