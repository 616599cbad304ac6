-- What a turn of a tier among others says of the chain.
use Rattle.std.proofs.Common.{◌≡◌, ◌≢◌, ℕ, zero, suc, ◌≤◌, Bool, true, false, List, ◌++◌, length, Option, Some, None, Result, Ok, Err, IfOk, OnErr, MatchResult, refl, sym, ap, subst, ◌∙◌, inr, append-nil, arith}
use Rattle.std.specs.Prelude.{slice_get}
use Rattle.std.proofs.lemmas.List.{length-set, length-map}
use Rattle.view_outside.specs.Faults.{Rose}
use Rattle.file_model.specs.Lists.{IndexLists, SeenBody, body_size}
use Rattle.token_words.specs.Changes.{Stays}
use Rattle.tier_model.specs.declared.turns.Turn.{Turn}
use Rattle.tier_model.specs.Tiers.{TierState, body_at, sizes_of}
use Rattle.tier_model.specs.Answers.{IfGot, IfFault, IfChanged, IfKept}
use Rattle.tier_laws.specs.BodyLaws.{get-set_same}
use Rattle.tier_model.specs.Turns.{Board}
use Rattle.tier_model.specs.Ties.{IsTied}
use Rattle.tier_model.specs.Chains.{has_below}
use Rattle.tier_laws.specs.ChainLaws.{IsTopTied}
use Rattle.tier_model.specs.Settling.{TurnsAt}
use Rattle.transfer_step.specs.TurnWords.{told_of, TurnsEpochs, misses_in}
use Rattle.cache_chain.specs.ChainStates.{IsFileBody, FindsChanged, AreTiersOf}
use Rattle.cache_chain.specs.Turning.{chain_of, HaveSizes, AtLowest, GivesBelow, TurnsTier, TakesWishes}
use Rattle.cache_chain.specs.WordTurns.{WordsSeen, uses_of, TurnsWords, TurnsStore, NeverFails}
use Rattle.cache_chain.specs.TurnRuns.{Setting, Moment, KeepsSets, MakesTurn, RefusesTurn}
use Rattle.cache_chain.specs.SettleRuns.{MayTurn}
use Rattle.cache_chain.specs.AnswerMaps.{got_more}
use Rattle.cache_chain.specs.ChainLaws.{turns_at_top, turns_at_lower, tiers_after, wishes_after, turns_by_file, takes_wishes, tied_top, tied_lower}
use Rattle.cache_chain.proofs.AnswerLaws.{lower_keeps_none, lower_misses_none, fault_at_lowest, changed_at_lowest, later_anywhere}

-- the top tier's turn, where the keeper has words
pub turned_at_top : {E : Type 0} (board : Board) (gives : ℕ → SeenBody → Type 0) (has : Bool) (epochs later : ℕ → ℕ) (k : ℕ) (result : Result Turn E) (a b : List TierState) → has ≡ true → k ≡ 0 → TurnsTier board (told_of (has_below a k) has epochs) gives k result a b → MatchResult result (λ answer. TurnsEpochs has answer epochs later) (λ _. Stays epochs later) → IfOk result (λ answer. TurnsAt board k answer (chain_of a epochs) (chain_of b later))
turned_at_top board gives has epochs later k (Err e) a b words top turn moved = tt
turned_at_top {E = E} board gives has epochs later (suc k) (Ok answer) a b words top turn moved = absurd (cc)
turned_at_top {E = E} board gives has epochs later zero (Ok answer) a b words top turn moved =
    turns_at_top board gives epochs later answer a b (subst (λ (t : Bool). TurnsTier {E = E} board (told_of (has_below a 0) t epochs) gives 0 (Ok answer) a b) words turn) (subst (λ (t : Bool). TurnsEpochs t answer epochs later) words moved)

-- a lower tier's turn, which leaves the words
pub turned_lower : {E : Type 0} (board : Board) (gives : ℕ → SeenBody → Type 0) (others epochs : ℕ → ℕ) (k : ℕ) (result : Result Turn E) (a b : List TierState) → k ≢ 0 → TurnsTier board (told_of (has_below a k) false others) gives k result a b → IfOk result (λ answer. TurnsAt board k answer (chain_of a epochs) (chain_of b epochs))
turned_lower board gives others epochs k (Err e) a b lower turn = tt
turned_lower {E = E} board gives others epochs k (Ok answer) a b lower turn = turns_at_lower {E = E} board gives others epochs epochs k answer a b lower turn (λ p. refl)

pub stays_at_error : {E : Type 0} (has : Bool) (epochs later : ℕ → ℕ) (result : Result Turn E) → MatchResult result (λ answer. TurnsEpochs has answer epochs later) (λ _. Stays epochs later) → OnErr result (Stays epochs later)
stays_at_error has epochs later (Ok answer) moved = tt
stays_at_error has epochs later (Err e) moved = moved

-- the body that came is what is given
pub got_here : {E : Type 0} (board : Board) (has : ℕ → Bool) (top : Bool) (epochs : ℕ → ℕ) (gives : ℕ → SeenBody → Type 0) (k : ℕ) (result : Result Turn E) (a b : List TierState) → TurnsTier board (told_of has top epochs) gives k result a b → IfOk result (λ answer. IfGot answer (λ p. (s : TierState) → slice_get b k ≡ Some s → gives p (body_at s p)))
got_here board has top epochs gives k (Err e) a b turn = tt
got_here board has top epochs gives k (Ok answer) a b turn =
    got_more (λ p. gives p (body_at turn.after p)) (λ p. (s : TierState) → slice_get b k ≡ Some s → gives p (body_at s p))
    (λ p given s at. subst (λ (t : TierState). gives p (body_at t p)) (get-set_same a k turn.after s (sym (ap (λ (ts : List TierState). slice_get ts k) turn.is) ∙ at)) given) answer turn.turns.got

-- a lower tier keeps no patch for its uses
pub found_lower : {E : Type 0} (P : ℕ → ℕ → Type 0) (board : Board) (has : ℕ → Bool) (epochs : ℕ → ℕ) (gives : ℕ → SeenBody → Type 0) (k : ℕ) (result : Result Turn E) (a b : List TierState) → TurnsTier board (told_of has false epochs) gives k result a b → IfOk result (λ answer. IfKept answer P)
found_lower P board has epochs gives k (Err e) a b turn = tt
found_lower P board has epochs gives k (Ok answer) a b turn = lower_keeps_none P board (told_of has false epochs) turn.before answer turn.after refl turn.turns.answer

-- so it finds no uses
pub misses_lower : {E : Type 0} (misses : List (ℕ × ℕ)) (board : Board) (has : ℕ → Bool) (epochs : ℕ → ℕ) (gives : ℕ → SeenBody → Type 0) (k : ℕ) (result : Result Turn E) (a b : List TierState) → TurnsTier board (told_of has false epochs) gives k result a b → MatchResult result (λ answer. misses ≡ misses ++ misses_in answer) (λ _. misses ≡ misses)
misses_lower misses board has epochs gives k (Err e) a b turn = refl
misses_lower misses board has epochs gives k (Ok answer) a b turn = sym (ap (λ (ms : List (ℕ × ℕ)). misses ++ ms) (lower_misses_none board (told_of has false epochs) turn.before answer turn.after refl turn.turns.answer) ∙ append-nil misses)

-- ---- a turn of a chain

-- what a turn did to the store, by whether the tier is the lowest
pub record StoreSays {E : Type 0} (u : Setting) (k : ℕ) (m n : Moment) (result : Result Turn E) : Type 0 where
  pub lowest : slice_get m.tiers (suc k) ≡ None → (s : TierState) → slice_get m.tiers k ≡ Some s → TurnsStore (FindsChanged u.index u.bytes) s result m.faults n.faults m.taken n.taken
  pub upper : (t : TierState) → slice_get m.tiers (suc k) ≡ Some t → (n.faults ≡ m.faults) × (n.taken ≡ m.taken) × NeverFails result

-- what a turn of tier k did to the tiers, with words or without
abbrev pub TurnsOf : {E : Type 0} → Setting → ℕ → Bool → (ℕ → ℕ) → Result Turn E → List TierState → List TierState → Type 0
TurnsOf u k words epochs result a b = TurnsTier u.board (told_of (has_below a k) words epochs) (GivesBelow (IsFileBody u.index u.bytes) a k) k result a b

sets_stay : (u : Setting) (m n : Moment) → n.words ≡ m.words → KeepsSets u m.words n.words
sets_stay u m n same = subst (KeepsSets u m.words) (sym same) (record { pins = λ p. refl; users = λ tells s p. refl; lockers = λ tells s p. refl; patches = refl })

module _ {E : Type 0} (u : Setting) (k : ℕ) (m n : Moment) where
  fault_says : (result : Result Turn E) (before : TierState) → slice_get m.tiers k ≡ Some before → StoreSays u k m n result → IfOk result (λ answer. IfFault answer (λ _. AtLowest m.tiers k (Rose m.faults n.faults)))
  fault_says result before was store = fault_at_lowest (Rose m.faults n.faults) result (slice_get m.tiers (suc k)) (λ none. (store.lowest none before was).fault) (λ t at. (store.upper t at).2)

  changed_says : (result : Result Turn E) (before : TierState) → slice_get m.tiers k ≡ Some before → StoreSays u k m n result → IfOk result (λ answer. IfChanged answer (λ p fault. AtLowest m.tiers k (FindsChanged u.index u.bytes p fault)))
  changed_says result before was store = changed_at_lowest (FindsChanged u.index u.bytes) result (slice_get m.tiers (suc k)) (λ none. (store.lowest none before was).changed) (λ t at. (store.upper t at).2)

  later_says : (result : Result Turn E) (before : TierState) → slice_get m.tiers k ≡ Some before → StoreSays u k m n result → m.faults ≤ n.faults
  later_says result before was store = later_anywhere m.faults n.faults (slice_get m.tiers (suc k)) (λ none. (store.lowest none before was).later) (λ t at. (store.upper t at).0)

  sets_says : (words : Bool) (result : Result Turn E) → TurnsWords words u.tells_sets u.tells_misses result m.words n.words → KeepsSets u m.words n.words
  sets_says words result says = record { pins = says.pins; users = says.users; lockers = says.lockers; patches = says.patches }

  -- of the top tier
  pub makes_top : (words : Bool) (result : Result Turn E) → words ≡ true → k ≡ 0 → TurnsOf u k words m.words.epochs result m.tiers n.tiers → TurnsWords words u.tells_sets u.tells_misses result m.words n.words → StoreSays u k m n result → IfOk result (λ answer. MakesTurn u k answer m n)
  makes_top words (Err e) has top turn says store = tt
  makes_top words (Ok answer) has top turn says store = record {
    turn = turned_at_top {E = E} u.board (GivesBelow (IsFileBody u.index u.bytes) m.tiers k) words m.words.epochs n.words.epochs k (Ok answer) m.tiers n.tiers has top turn says.epochs;
    got = got_here {E = E} u.board (has_below m.tiers k) words m.words.epochs (GivesBelow (IsFileBody u.index u.bytes) m.tiers k) k (Ok answer) m.tiers n.tiers turn;
    lost = turn.turns.lost;
    fault = fault_says (Ok answer) turn.before turn.was store;
    changed = changed_says (Ok answer) turn.before turn.was store;
    taken = λ none s at. (store.lowest none s at).taken;
    upper = λ t at. (store.upper t at).1;
    later = later_says (Ok answer) turn.before turn.was store;
    free = λ _ tells. says.free has tells;
    found = λ tells. says.found has tells;
    misses = says.misses;
    sets = sets_says words (Ok answer) says;
  }

  -- of a lower tier, which leaves the words
  pub makes_lower : (others : ℕ → ℕ) (result : Result Turn E) → n.words ≡ m.words → k ≢ 0 → TurnsOf u k false others result m.tiers n.tiers → StoreSays u k m n result → IfOk result (λ answer. MakesTurn u k answer m n)
  makes_lower others (Err e) same lower turn store = tt
  makes_lower others (Ok answer) same lower turn store = record {
    turn = subst (λ (a : WordsSeen). TurnsAt u.board k answer (chain_of m.tiers m.words.epochs) (chain_of n.tiers a.epochs)) (sym same) (turned_lower {E = E} u.board (GivesBelow (IsFileBody u.index u.bytes) m.tiers k) others m.words.epochs k (Ok answer) m.tiers n.tiers lower turn);
    got = got_here {E = E} u.board (has_below m.tiers k) false others (GivesBelow (IsFileBody u.index u.bytes) m.tiers k) k (Ok answer) m.tiers n.tiers turn;
    lost = turn.turns.lost;
    fault = fault_says (Ok answer) turn.before turn.was store;
    changed = changed_says (Ok answer) turn.before turn.was store;
    taken = λ none s at. (store.lowest none s at).taken;
    upper = λ t at. (store.upper t at).1;
    later = later_says (Ok answer) turn.before turn.was store;
    free = λ top _. absurd (lower top);
    found = λ _. found_lower {E = E} (λ p uses. uses ≡ uses_of m.words p) u.board (has_below m.tiers k) others (GivesBelow (IsFileBody u.index u.bytes) m.tiers k) k (Ok answer) m.tiers n.tiers turn;
    misses = λ _. ap (λ (a : WordsSeen). a.misses) same ∙ misses_lower {E = E} m.words.misses u.board (has_below m.tiers k) others (GivesBelow (IsFileBody u.index u.bytes) m.tiers k) k (Ok answer) m.tiers n.tiers turn;
    sets = sets_stay u m n same;
  }

  -- ---- refused

  pub refuses_top : (words : Bool) (result : Result Turn E) → TurnsOf u k words m.words.epochs result m.tiers n.tiers → TurnsWords words u.tells_sets u.tells_misses result m.words n.words → StoreSays u k m n result → OnErr result (RefusesTurn u k m n)
  refuses_top words (Ok answer) turn says store = tt
  refuses_top words (Err e) turn says store = record {
    tiers = inr (takes_wishes {E = E} u.board (told_of (has_below m.tiers k) words m.words.epochs) (GivesBelow (IsFileBody u.index u.bytes) m.tiers k) k (Err e) m.tiers n.tiers turn);
    epochs = says.epochs;
    misses = says.misses;
    sets = sets_says words (Err e) says;
    taken = λ none s at. (store.lowest none s at).taken;
    upper = λ t at. (store.upper t at).1;
    later = later_says (Err e) turn.before turn.was store;
  }

  pub refuses_lower : (others : ℕ → ℕ) (result : Result Turn E) → n.words ≡ m.words → TurnsOf u k false others result m.tiers n.tiers → StoreSays u k m n result → OnErr result (RefusesTurn u k m n)
  refuses_lower others (Ok answer) same turn store = tt
  refuses_lower others (Err e) same turn store = record {
    tiers = inr (takes_wishes {E = E} u.board (told_of (has_below m.tiers k) false others) (GivesBelow (IsFileBody u.index u.bytes) m.tiers k) k (Err e) m.tiers n.tiers turn);
    epochs = λ p. ap (λ (a : WordsSeen). a.epochs p) same;
    misses = λ _. ap (λ (a : WordsSeen). a.misses) same;
    sets = sets_stay u m n same;
    taken = λ none s at. (store.lowest none s at).taken;
    upper = λ t at. (store.upper t at).1;
    later = later_says (Err e) turn.before turn.was store;
  }

  -- ---- the chain may turn again

  are_after : (words : Bool) (epochs : ℕ → ℕ) (result : Result Turn E) → AreTiersOf u.index u.bytes m.tiers → TurnsOf u k words epochs result m.tiers n.tiers → AreTiersOf u.index u.bytes n.tiers
  are_after words epochs result are turn =
      tiers_after u.index u.bytes u.board (told_of (has_below m.tiers k) words epochs) k result m.tiers n.tiers are
      (turns_by_file u.index u.bytes (IsFileBody u.index u.bytes) u.board (told_of (has_below m.tiers k) words epochs) k result m.tiers n.tiers are (λ p body right. right) turn)

  pub may_top : (words : Bool) (result : Result Turn E) → k ≡ 0 → MayTurn u m → TurnsOf u k words m.words.epochs result m.tiers n.tiers → TurnsWords words u.tells_sets u.tells_misses result m.words n.words → ((s : TierState) → slice_get n.tiers k ≡ Some s → IsTied s n.words.epochs n.words.pinned) → MayTurn u n
  may_top words result top may turn says tied = record {
    are = are_after words m.words.epochs result may.are turn;
    wishes = wishes_after u.board (told_of (has_below m.tiers k) words m.words.epochs) (GivesBelow (IsFileBody u.index u.bytes) m.tiers k) k result m.tiers n.tiers may.wishes turn;
    tied = tied_top n.tiers n.words.epochs n.words.pinned (subst (λ (j : ℕ). (s : TierState) → slice_get n.tiers j ≡ Some s → IsTied s n.words.epochs n.words.pinned) top tied);
    words = subst (λ (p : ℕ). length u.index.fields ≤ p) (sym says.patches) may.words;
  }

  pub may_lower : (others : ℕ → ℕ) (result : Result Turn E) → n.words ≡ m.words → k ≢ 0 → MayTurn u m → TurnsOf u k false others result m.tiers n.tiers → MayTurn u n
  may_lower others result same lower may turn = record {
    are = are_after false others result may.are turn;
    wishes = wishes_after u.board (told_of (has_below m.tiers k) false others) (GivesBelow (IsFileBody u.index u.bytes) m.tiers k) k result m.tiers n.tiers may.wishes turn;
    tied = subst (λ (a : WordsSeen). IsTopTied (chain_of n.tiers a.epochs) a.pinned) (sym same) (tied_lower u.board (told_of (has_below m.tiers k) false others) (GivesBelow (IsFileBody u.index u.bytes) m.tiers k) k result m.tiers n.tiers m.words.epochs m.words.pinned lower turn may.tied);
    words = subst (λ (a : WordsSeen). length u.index.fields ≤ a.patches) (sym same) may.words;
  }

pub takes_at_error : {E : Type 0} (u : Setting) (k : ℕ) (words : Bool) (epochs : ℕ → ℕ) (result : Result Turn E) (a b : List TierState) → TurnsOf u k words epochs result a b → OnErr result (TakesWishes u.board k a b)
takes_at_error u k words epochs result a b turn = takes_wishes u.board (told_of (has_below a k) words epochs) (GivesBelow (IsFileBody u.index u.bytes) a k) k result a b turn

pub as_many_tiers : {E : Type 0} (u : Setting) (k : ℕ) (words : Bool) (epochs : ℕ → ℕ) (result : Result Turn E) (a b : List TierState) → TurnsOf u k words epochs result a b → length b ≡ length a
as_many_tiers u k words epochs result a b turn = ap (λ (ts : List TierState). length ts) turn.is ∙ length-set a k turn.after

-- ---- what a turn among tiers asks

pub sizes_same : (index : IndexLists) (bytes : Option (List ℕ)) (tiers : List TierState) → AreTiersOf index bytes tiers → HaveSizes (sizes_of index) tiers
sizes_same index bytes tiers are = record { each = λ k s at. (are.each k s at).made.sizes }

pub fields_sized : (index : IndexLists) (n : ℕ) → length index.fields ≤ n → length (sizes_of index) ≤ n
fields_sized index n few = let same = length-map index.fields (body_size index.version) in omega arith
