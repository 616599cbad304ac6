-- What a whole turn keeps, whether it was made or refused for want of memory.
use Rattle.std.proofs.Common.{◌≡◌, ℕ, ◌<◌, Bool, true, false, eqb, List, ◌++◌, length, Result, Ok, Err, IfOk, OnErr, MatchResult, sym, ap, subst, ◌∙◌}
use Rattle.std.specs.Option.{option_map_or}
use Rattle.std.specs.Prelude.{slice_index}
use Rattle.std.proofs.lemmas.Bool.{cond-false, ne_eqb}
use Rattle.token_words.specs.Changes.{Stays}
use Rattle.tier_model.specs.declared.turns.Turn.{Turn}
use Rattle.tier_model.specs.Places.{first_bare}
use Rattle.tier_model.specs.Tiers.{TierState, IsTier}
use Rattle.tier_model.specs.Changes.{renewed, ranked}
use Rattle.tier_model.specs.Choices.{Told}
use Rattle.tier_model.specs.Answers.{IfLost}
use Rattle.tier_model.specs.Turns.{Outcome, Board, begun, paired, outcome_in, IsRankedTurn, IsTurn}
use Rattle.tier_model.specs.Ties.{epochs_after, IsTied}
use Rattle.tier_model.specs.Counts.{entries_of}
use Rattle.tier_laws.specs.Follows.{Follows, Reserves, Gets, Loses, Fails, Breaks, Commits, Evicts, Keeps, Rests}
use Rattle.tier_laws.specs.TieLaws.{tied-again, tied-followed}
use Rattle.tier_laws.specs.TurnLaws.{ranked_follows, alike-followed, journal-followed, begun_places, begun_wishes, turn-from_ranked, wishes-turned}
use Rattle.tier_model.specs.Keeping.{KeepsSetup, KeepsWishes}
use Rattle.transfer_step.specs.TurnWords.{told_of, next_size, TurnsEpochs}

-- ---- over the kept wishes

pub ranked_setup : {E : Type 0} (told : Told) (s after : TierState) (r : Result Turn E) → IfOk r (λ a. IsRankedTurn told s a after) → OnErr r (after ≡ s) → KeepsSetup s after
ranked_setup told s after (Ok a) is none =
    let alike = alike-followed told s (outcome_in a after) (paired a after) (ranked_follows told s a after is) in
    record { budget = alike.budget; width = alike.width; sizes = alike.sizes; base = alike.base; pinned = alike.pinned }
ranked_setup told s after (Err e) is none =
    record {
      budget = ap (λ (t : TierState). t.budget) none;
      width = ap (λ (t : TierState). t.width) none;
      sizes = ap (λ (t : TierState). t.sizes) none;
      base = ap (λ (t : TierState). t.base) none;
      pinned = ap (λ (t : TierState). t.pinned) none;
    }

pub ranked_journal : {E : Type 0} (told : Told) (s after : TierState) (r : Result Turn E) → IfOk r (λ a. IsRankedTurn told s a after) → IfOk r (λ a. after.journal ≡ s.journal ++ entries_of a)
ranked_journal told s after (Ok a) is = journal-followed told s (outcome_in a after) (paired a after) (ranked_follows told s a after is)
ranked_journal told s after (Err e) is = tt

lost_followed : (told : Told) (s : TierState) (o : Outcome) (x : Turn × TierState) → Follows told s o x → IfLost x.0 (λ p. told.has p ≡ false)
lost_followed told s o x (Reserves c enters) = tt
lost_followed told s o x (Gets p body none bare has is) = tt
lost_followed told s o x (Loses p none bare has) = has
lost_followed told s o x (Fails p none bare has is) = tt
lost_followed told s o x (Breaks p fault none bare has is) = tt
lost_followed told s o x (Commits p none bare first) = tt
lost_followed told s o x (Evicts v none victim leaves unused) = tt
lost_followed told s o x (Keeps v uses none victim leaves top is) = tt
lost_followed told s o x (Rests rest) = tt

pub ranked_lost : {E : Type 0} (told : Told) (s after : TierState) (r : Result Turn E) → IfOk r (λ a. IsRankedTurn told s a after) → IfOk r (λ a. IfLost a (λ p. told.has p ≡ false))
ranked_lost told s after (Ok a) is = lost_followed told s (outcome_in a after) (paired a after) (ranked_follows told s a after is)
ranked_lost told s after (Err e) is = tt

pub ranked_tied : {E : Type 0} (below : ℕ → Bool) (has : Bool) (before later : ℕ → ℕ) (pinned pins : ℕ → Bool) (s after : TierState) (r : Result Turn E) → has ≡ true → IsTier s → IfOk r (λ a. IsRankedTurn (told_of below has before) s a after) → OnErr r (after ≡ s)
    → MatchResult r (λ a. TurnsEpochs has a before later) (λ _. Stays before later) → Stays pinned pins → IsTied s before pinned → IsTied after later pins
ranked_tied below has before later pinned pins s after (Ok a) top tier is none epochs same tied =
    tied-again after (epochs_after a before) later pinned pins (subst (λ (b : Bool). TurnsEpochs b a before later) top epochs) same
    (tied-followed (told_of below has before) s (outcome_in a after) (paired a after) pinned tier top (ranked_follows (told_of below has before) s a after is) tied)
ranked_tied below has before later pinned pins s after (Err e) top tier is none epochs same tied =
    subst (λ (t : TierState). IsTied t later pins) (sym none) (tied-again s before later pinned pins epochs same tied)

-- ---- with the wishes

pub begun_anew : (board : Board) (s : TierState) → (board.version ≡ s.version → ⊥) → renewed (ranked s board.wish) board.version ≡ begun board s
unfolding begun
begun_anew board s differs = sym (cond-false (eqb board.version s.version) s (renewed (ranked s board.wish) board.version) (ne_eqb board.version s.version differs))

pub turn_is : {E : Type 0} (board : Board) (told : Told) (s start after : TierState) (r : Result Turn E) → start ≡ begun board s → IfOk r (λ a. IsRankedTurn told start a after) → IfOk r (λ a. IsTurn board told s a after)
turn_is board told s start after (Ok a) begins is = turn-from_ranked board told s a after (subst (λ (t : TierState). IsRankedTurn told t a after) begins is)
turn_is board told s start after (Err e) begins is = tt

pub turn_setup : (board : Board) (s start after : TierState) → start ≡ begun board s → KeepsSetup start after → KeepsSetup s after
turn_setup board s start after begins same =
    let places = begun_places board s in
    record {
      budget = same.budget ∙ ap (λ (t : TierState). t.budget) begins ∙ places.budget;
      width = same.width ∙ ap (λ (t : TierState). t.width) begins ∙ places.width;
      sizes = same.sizes ∙ ap (λ (t : TierState). t.sizes) begins ∙ places.sizes;
      base = same.base ∙ ap (λ (t : TierState). t.base) begins ∙ places.base;
      pinned = same.pinned ∙ ap (λ (t : TierState). t.pinned) begins ∙ places.pinned;
    }

pub turn_wishes : {E : Type 0} (board : Board) (told : Told) (s start after : TierState) (r : Result Turn E) → start ≡ begun board s → KeepsWishes board s → IfOk r (λ a. IsRankedTurn told start a after) → OnErr r (after ≡ start) → KeepsWishes board after
turn_wishes board told s start after (Ok a) begins keeps is none =
    wishes-turned board told s a after keeps (turn-from_ranked board told s a after (subst (λ (t : TierState). IsRankedTurn told t a after) begins is))
turn_wishes board told s start after (Err e) begins keeps is none =
    subst (KeepsWishes board) (sym (none ∙ begins)) (record {
      wishes = λ same p within. begun_wishes board s keeps p (subst (λ (n : ℕ). p < n) (ap (λ (sizes : List ℕ). length sizes) (begun_places board s).sizes) within);
    })

pub begun_sizes : (board : Board) (s start : TierState) → start ≡ begun board s → start.sizes ≡ s.sizes
begun_sizes board s start begins = ap (λ (t : TierState). t.sizes) begins ∙ (begun_places board s).sizes

pub begun_journal : (board : Board) (s start : TierState) → start ≡ begun board s → start.journal ≡ s.journal
begun_journal board s start begins = ap (λ (t : TierState). t.journal) begins ∙ (begun_places board s).journal

pub begun_next_size : (board : Board) (s start : TierState) → start ≡ begun board s → next_size start ≡ next_size s
begun_next_size board s start begins =
    ap (λ (sizes : List ℕ). option_map_or (slice_index sizes) (first_bare start.coming) 0) (begun_sizes board s start begins)
    ∙ ap (λ cs. option_map_or (slice_index s.sizes) (first_bare cs) 0) (ap (λ (t : TierState). t.coming) begins ∙ (begun_places board s).coming)
