-- A turn of the top tier keeps its tie with the words, and an epoch is the count of its patch's entries.
use Rattle.std.proofs.Common.{◌≡◌, ◌≢◌, ℕ, ◌+◌, ◌<◌, ◌≤◌, Bool, true, false, not, eqb, List, [], ◌∷◌, ◌++◌, Some, None, is_some, refl, sym, ap, subst, ◌∙◌, arith, inl, inr}
use Rattle.std.specs.Prelude.{if◌then◌else◌, slice_index_or, slice_set}
use Rattle.std.proofs.lemmas.Bool.{cond_both, cond-true, cond-false, cases_eq, both_ways, eq-eqb, ne_eqb}
use Rattle.std.proofs.lemmas.Bool.Decides.{nat_tests}
use Rattle.std.proofs.lemmas.List.{get_or-set_same, get_or-set_other}
use Rattle.token_words.specs.declared.keeping.TheConstants.{LAST_EPOCH}
use Rattle.file_model.specs.Tries.{is_odd}
use Rattle.file_model.specs.Lists.{SeenBody}
use Rattle.tier_model.specs.declared.turns.Abort.{Abort}
use Rattle.tier_model.specs.declared.turns.Abort.TheVariants as reasons
use Rattle.tier_model.specs.declared.turns.Turn.{Turn}
use Rattle.tier_model.specs.declared.turns.Turn.TheVariants.{Reserve, Evict, Kept, Got, Lost, Fault, Changed, Commit, Idle}
use Rattle.tier_model.specs.declared.turns.Coming.{Coming}
use Rattle.tier_model.specs.Places.{is_marked, is_coming, first_coming, first_bare, without}
use Rattle.tier_model.specs.Tiers.{TierState, count, is_held, IsTier}
use Rattle.tier_model.specs.Changes.{reserved, arrived, aborted, committed, dropped, passed_over, calmed, renewed, ranked}
use Rattle.tier_model.specs.Choices.{Told}
use Rattle.tier_model.specs.Turns.{Outcome, Board, begun, paired, outcome_in, IsTurn}
use Rattle.tier_model.specs.Ties.{risen, epochs_after, IsTied}
use Rattle.tier_model.specs.Counts.{one_at, moves, commits_and_evicts, entries_of, AreCounted}
use Rattle.tier_laws.specs.ComingLaws.{nothing_comes, reserved_others, arrived_comes, gone_comes, gone_came, first_comes, all_are_full}
use Rattle.tier_laws.specs.BodyLaws.{away_not_there}
use Rattle.tier_laws.specs.TierLaws.{comes_within, IsTier-begun}
use Rattle.tier_laws.specs.Follows.{Follows, Reserves, Gets, Loses, Fails, Breaks, Commits, Evicts, Keeps, Rests}
use Rattle.tier_laws.specs.TurnLaws.{turn_follows, journal-turned, setup-turned}

-- ---- epochs

-- the next epoch is odd where this one isn't
pub odd_next : (n : ℕ) → is_odd (n + 1) ≡ not (is_odd n)
odd_next n = grind (arith, nat_tests)

pub risen_here : (p : ℕ) (epochs : ℕ → ℕ) → risen p epochs p ≡ epochs p + 1
risen_here p epochs = cond-true (eqb p p) (epochs p + 1) (epochs p) (eq-eqb p p refl)

pub risen_other : (p : ℕ) (epochs : ℕ → ℕ) (q : ℕ) → q ≢ p → risen p epochs q ≡ epochs q
risen_other p epochs q ne = cond-false (eqb q p) (epochs q + 1) (epochs q) (ne_eqb q p ne)

risen_rises : (p : ℕ) (epochs : ℕ → ℕ) (q : ℕ) → epochs q ≤ risen p epochs q
risen_rises p epochs q = cond_both (eqb q p) (epochs q + 1) (epochs q) (λ (n : ℕ). epochs q ≤ n) (λ is. omega arith) (λ never. omega arith)

-- no epoch falls in a turn
pub epochs_rise : (answer : Turn) (epochs : ℕ → ℕ) (p : ℕ) → epochs p ≤ epochs_after answer epochs p
unfolding epochs_after
epochs_rise (Commit q) epochs p = risen_rises q epochs p
epochs_rise (Evict q) epochs p = risen_rises q epochs p
epochs_rise (Reserve q) epochs p = omega arith
epochs_rise (Kept q uses) epochs p = omega arith
epochs_rise (Got q) epochs p = omega arith
epochs_rise (Lost q) epochs p = omega arith
epochs_rise (Fault q) epochs p = omega arith
epochs_rise (Changed q fault) epochs p = omega arith
epochs_rise Idle epochs p = omega arith

-- ---- the tie

-- it says no more than the values of the epochs and pins
pub tied-again : (s : TierState) (epochs later : ℕ → ℕ) (pinned pins : ℕ → Bool) → ((p : ℕ) → later p ≡ epochs p) → ((p : ℕ) → pins p ≡ pinned p) → IsTied s epochs pinned → IsTied s later pins
tied-again s epochs later pinned pins same same_pins tied = record {
  held = λ p within. ap is_odd (same p) ∙ tied.held p within;
  pins = λ p within. same_pins p ∙ tied.pins p within;
  low = λ p comes. subst (λ (n : ℕ). n < LAST_EPOCH) (sym (same p)) (tied.low p comes);
}

tied-reserved : (s : TierState) (c : ℕ) (epochs : ℕ → ℕ) (pinned : ℕ → Bool) → epochs c < LAST_EPOCH → IsTied s epochs pinned → IsTied (reserved s c) epochs pinned
unfolding reserved
tied-reserved s c epochs pinned low tied = record {
  held = tied.held;
  pins = tied.pins;
  low = λ q comes. elim (cases_eq q c) [
    | inl same ↦ subst (λ (n : ℕ). epochs n < LAST_EPOCH) (sym same) low
    | inr ne ↦ tied.low q (sym (reserved_others s.coming c q ne) ∙ comes)
  ];
}

tied-arrived : (s : TierState) (p : ℕ) (body : SeenBody) (epochs : ℕ → ℕ) (pinned : ℕ → Bool) → IsTied s epochs pinned → IsTied (arrived s p body) epochs pinned
unfolding arrived
tied-arrived s p body epochs pinned tied = record { held = tied.held; pins = tied.pins; low = λ q comes. tied.low q (sym (arrived_comes p s.coming q) ∙ comes) }

tied-aborted : (s : TierState) (p : ℕ) (why : Abort) (epochs : ℕ → ℕ) (pinned : ℕ → Bool) → IsTied s epochs pinned → IsTied (aborted s p why) epochs pinned
unfolding aborted
tied-aborted s p why epochs pinned tied = record { held = tied.held; pins = tied.pins; low = λ q comes. tied.low q (gone_came p s.coming q comes) }

tied-committed : (s : TierState) (p : ℕ) (epochs : ℕ → ℕ) (pinned : ℕ → Bool) → IsTier s → first_bare s.coming ≡ None → first_coming s.coming ≡ Some p → IsTied s epochs pinned → IsTied (committed s p) (risen p epochs) pinned
unfolding committed
tied-committed s p epochs pinned tier bare first tied =
    let body = slice_index_or s.came p None in
    let comes = first_comes s.coming p first in
    let within = comes_within s p tier comes in
    let there : is_some body ≡ true = sym (tier.coming.arrived p) ∙ all_are_full s.coming p bare comes in
    let away = away_not_there s.held p (tier.coming.away p comes) in
    record {
      held = λ q inside. elim (cases_eq q p) [
        | inl same ↦ subst (λ (n : ℕ). is_odd (risen p epochs n) ≡ is_some (slice_index_or (slice_set s.held p body) n None)) (sym same)
            (ap is_odd (risen_here p epochs) ∙ odd_next (epochs p) ∙ ap not (tied.held p within ∙ away)
            ∙ sym there ∙ sym (ap (λ o. is_some o) (get_or-set_same s.held p body None (let sized = tier.sized.held in omega arith))))
        | inr ne ↦ ap is_odd (risen_other p epochs q ne) ∙ tied.held q inside ∙ sym (ap (λ o. is_some o) (get_or-set_other s.held p q body None ne))
      ];
      pins = tied.pins;
      low = λ q still. subst (λ (n : ℕ). n < LAST_EPOCH)
          (sym (risen_other p epochs q (λ same. both_ways (is_coming (without p s.coming) q) (subst (λ (n : ℕ). is_coming (without p s.coming) n ≡ false) (sym same) (gone_comes p s.coming)) still)))
          (tied.low q (gone_came p s.coming q still));
    }

tied-dropped : (s : TierState) (v : ℕ) (epochs : ℕ → ℕ) (pinned : ℕ → Bool) → IsTier s → s.coming ≡ [] → v < count s → is_held s v ≡ true → IsTied s epochs pinned → IsTied (dropped s v) (risen v epochs) pinned
unfolding dropped
tied-dropped s v epochs pinned tier none within held tied = record {
  held = λ q inside. elim (cases_eq q v) [
    | inl same ↦ subst (λ (n : ℕ). is_odd (risen v epochs n) ≡ is_some (slice_index_or (slice_set s.held v None) n None)) (sym same)
        (ap is_odd (risen_here v epochs) ∙ odd_next (epochs v) ∙ ap not (tied.held v within ∙ held)
        ∙ sym (ap (λ o. is_some o) (get_or-set_same s.held v None None (let sized = tier.sized.held in omega arith))))
    | inr ne ↦ ap is_odd (risen_other v epochs q ne) ∙ tied.held q inside ∙ sym (ap (λ o. is_some o) (get_or-set_other s.held v q None None ne))
  ];
  pins = tied.pins;
  low = λ q comes. absurd (nothing_comes q (subst (λ (cs : List Coming). is_coming cs q ≡ true) none comes));
}

tied-passed_over : (s : TierState) (v : ℕ) (epochs : ℕ → ℕ) (pinned : ℕ → Bool) → IsTied s epochs pinned → IsTied (passed_over s v) epochs pinned
unfolding passed_over
tied-passed_over s v epochs pinned tied = record { held = tied.held; pins = tied.pins; low = tied.low }

tied-calmed : (s : TierState) (epochs : ℕ → ℕ) (pinned : ℕ → Bool) → IsTied s epochs pinned → IsTied (calmed s) epochs pinned
unfolding calmed
tied-calmed s epochs pinned tied = record { held = tied.held; pins = tied.pins; low = tied.low }

pub tied-begun : (board : Board) (s : TierState) (epochs : ℕ → ℕ) (pinned : ℕ → Bool) → IsTied s epochs pinned → IsTied (begun board s) epochs pinned
unfolding begun ranked renewed
tied-begun board s epochs pinned tied =
    cond_both (eqb board.version s.version) s (renewed (ranked s board.wish) board.version) (λ (t : TierState). IsTied t epochs pinned)
    (λ same. tied)
    (λ differs. record { held = tied.held; pins = tied.pins; low = tied.low })

pub tied-followed : (told : Told) (s : TierState) (o : Outcome) (x : Turn × TierState) (pinned : ℕ → Bool) → IsTier s → told.top ≡ true → Follows told s o x → IsTied s told.epochs pinned → IsTied x.1 (epochs_after x.0 told.epochs) pinned
unfolding epochs_after
tied-followed told s o x pinned tier top (Reserves c enters) tied = tied-reserved s c told.epochs pinned (enters.is_candidate.eligible.low top) tied
tied-followed told s o x pinned tier top (Gets p body none bare has is) tied = tied-arrived s p body told.epochs pinned tied
tied-followed told s o x pinned tier top (Loses p none bare has) tied = tied-aborted s p reasons.Lost told.epochs pinned tied
tied-followed told s o x pinned tier top (Fails p none bare has is) tied = tied-aborted s p reasons.Fault told.epochs pinned tied
tied-followed told s o x pinned tier top (Breaks p fault none bare has is) tied = tied-aborted s p (reasons.Changed fault) told.epochs pinned tied
tied-followed told s o x pinned tier top (Commits p none bare first) tied = tied-committed s p told.epochs pinned tier bare first tied
tied-followed told s o x pinned tier top (Evicts v none victim leaves unused) tied = tied-dropped s v told.epochs pinned tier leaves.none_comes leaves.is_victim.within leaves.is_victim.may.held tied
tied-followed told s o x pinned tier top (Keeps v uses none victim leaves is found) tied = tied-passed_over s v told.epochs pinned tied
tied-followed told s o x pinned tier top (Rests rest) tied = tied-calmed s told.epochs pinned tied

-- a turn of the top tier keeps the tie, with its epochs
pub tied-turned : (board : Board) (told : Told) (s : TierState) (answer : Turn) (after : TierState) (pinned : ℕ → Bool) → IsTier s → told.top ≡ true → IsTurn board told s answer after → IsTied s told.epochs pinned → IsTied after (epochs_after answer told.epochs) pinned
tied-turned board told s answer after pinned tier top is tied =
    tied-followed told (begun board s) (outcome_in answer after) (paired answer after) pinned (IsTier-begun board s tier) top (turn_follows board told s answer after is) (tied-begun board s told.epochs pinned tied)

-- ---- counts

risen_count : (p : ℕ) (epochs : ℕ → ℕ) (q : ℕ) → risen p epochs q ≡ epochs q + one_at p q
risen_count p epochs q = grind (arith, nat_tests)

-- an epoch rises by the entries of its patch
pub epochs_count : (answer : Turn) (epochs : ℕ → ℕ) (p : ℕ) → epochs_after answer epochs p ≡ epochs p + moves answer p
unfolding epochs_after moves
epochs_count (Commit q) epochs p = risen_count q epochs p
epochs_count (Evict q) epochs p = risen_count q epochs p
epochs_count (Reserve q) epochs p = omega arith
epochs_count (Kept q uses) epochs p = omega arith
epochs_count (Got q) epochs p = omega arith
epochs_count (Lost q) epochs p = omega arith
epochs_count (Fault q) epochs p = omega arith
epochs_count (Changed q fault) epochs p = omega arith
epochs_count Idle epochs p = omega arith

commits-append : (first second : List Turn) (p : ℕ) → commits_and_evicts (first ++ second) p ≡ commits_and_evicts first p + commits_and_evicts second p
unfolding commits_and_evicts
commits-append [] second p = omega arith
commits-append (t ∷ ts) second p = let rest = commits-append ts second p in omega arith

commits_of_entry : (answer : Turn) (p : ℕ) → commits_and_evicts (entries_of answer) p ≡ moves answer p
unfolding commits_and_evicts entries_of moves
commits_of_entry (Commit q) p = omega arith
commits_of_entry (Evict q) p = omega arith
commits_of_entry (Reserve q) p = refl
commits_of_entry (Kept q uses) p = refl
commits_of_entry (Got q) p = refl
commits_of_entry (Lost q) p = refl
commits_of_entry (Fault q) p = refl
commits_of_entry (Changed q fault) p = refl
commits_of_entry Idle p = refl

abbrev marked_count : List Bool → ℕ → ℕ
marked_count marks p = if is_marked marks p then 1 else 0

abbrev base_count : TierState → ℕ → ℕ
base_count s p = marked_count s.base p

-- a turn of the top tier counts on: each epoch is still how often the journal has its patch come or leave,
-- and one more for a base patch
pub counted-turned : (board : Board) (told : Told) (s : TierState) (answer : Turn) (after : TierState) → IsTurn board told s answer after → AreCounted s told.epochs → AreCounted after (epochs_after answer told.epochs)
counted-turned board told s answer after is counted = record {
  counted = λ p.
      let before = counted.counted p in
      let risen = epochs_count answer told.epochs p in
      let journal = ap (λ (ts : List Turn). commits_and_evicts ts p) (journal-turned board told s answer after is) in
      let longer = commits-append s.journal (entries_of answer) p in
      let entry = commits_of_entry answer p in
      let base : base_count after p ≡ base_count s p = ap (λ (marks : List Bool). marked_count marks p) (setup-turned board told s answer after is).base in
      omega arith;
}
