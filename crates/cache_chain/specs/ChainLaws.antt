-- What a turn of one of a chain's tiers keeps.
use Rattle.std.proofs.Common.{◌≡◌, ◌≢◌, ℕ, zero, suc, ◌≤◌, Bool, true, false, List, length, Option, Some, None, Result, Ok, Err, IfOk, OnErr, refl, sym, ap, subst, ◌∙◌, inl, inr}
use Rattle.std.specs.Prelude.{slice_get, slice_set, MatchOption}
use Rattle.std.proofs.lemmas.Bool.{cases_eq}
use Rattle.std.proofs.lemmas.List.{length-set}
use Rattle.file_model.specs.Lists.{IndexLists, SeenBody}
use Rattle.tier_model.specs.declared.turns.Turn.{Turn}
use Rattle.tier_model.specs.Places.{is_marked}
use Rattle.tier_model.specs.Tiers.{TierState, body_at, base_marks, IsTier}
use Rattle.tier_model.specs.Answers.{IfGot}
use Rattle.tier_laws.specs.BodyLaws.{get-set_same, get-set_other}
use Rattle.tier_model.specs.Choices.{Told}
use Rattle.tier_model.specs.Turns.{Board, begun, IsTurn}
use Rattle.tier_model.specs.Keeping.{KeepsWishes}
use Rattle.tier_model.specs.Chains.{is_top, has_below, epochs_then}
use Rattle.tier_model.specs.Settling.{TurnsAt}
use Rattle.tier_model.specs.Ties.{epochs_after, IsTied}
use Rattle.tier_laws.specs.ChainLaws.{IsTopTied}
use Rattle.transfer_step.specs.TurnWords.{told_of}
use Rattle.cache_chain.specs.ChainStates.{HasBodies, IsFileBody, IsTierOf, AreTiersOf}
use Rattle.cache_chain.specs.AnswerMaps.{result_got_more}
use Rattle.cache_chain.specs.Turning.{chain_of, AllKeepWishes, GivesBelow, TurnsTier, TakesWishes}
use Rattle.cache_chain.specs.BodyLaws.{bodies-begun, bodies-turned}
use Rattle.cache_chain.specs.LowerTurns.{lower_turn}

-- what holds of each tier, holds still after one is changed of which it holds
each_again : (P : ℕ → TierState → Type 0) (a : List TierState) (k : ℕ) (after : TierState) → ((j : ℕ) (s : TierState) → slice_get a j ≡ Some s → P j s) → P k after → (j : ℕ) (s : TierState) → slice_get (slice_set a k after) j ≡ Some s → P j s
each_again P a k after each here j s at =
    elim (cases_eq j k) [
      | inl same ↦ subst (λ (n : ℕ). P n s) (sym same) (subst (P k) (get-set_same a k after s (subst (λ (n : ℕ). slice_get (slice_set a k after) n ≡ Some s) same at)) here)
      | inr ne ↦ each j s (sym (get-set_other a k j after ne) ∙ at)
    ]

bodies_after : {E : Type 0} (P : ℕ → SeenBody → Type 0) (board : Board) (told : Told) (s after : TierState) (result : Result Turn E) → IsTier s → IfOk result (λ answer. IsTurn board told s answer after) → OnErr result (after ≡ begun board s) → IfOk result (λ answer. IfGot answer (λ p. P p (body_at after p))) → HasBodies P s → HasBodies P after
bodies_after P board told s after (Ok answer) tier is none got has = bodies-turned P board told s answer after tier is got has
bodies_after P board told s after (Err e) tier is none got has = subst (HasBodies P) (sym none) (bodies-begun P board s has)

-- the tiers are still the index's, with bodies of the file
pub tiers_after : {E : Type 0} (index : IndexLists) (bytes : Option (List ℕ)) (board : Board) (told : Told) (k : ℕ) (result : Result Turn E) (a b : List TierState) → AreTiersOf index bytes a → TurnsTier board told (IsFileBody index bytes) k result a b → AreTiersOf index bytes b
tiers_after index bytes board told k result a b are turn =
    let was = are.each k turn.before turn.was in
    let same = turn.turns.same in
    let many : length (slice_set a k turn.after) ≡ length a = length-set a k turn.after in
    let now : IsTierOf index bytes turn.after = record {
      tier = turn.turns.tier;
      made = record { sizes = same.sizes ∙ was.made.sizes; base = same.base ∙ was.made.base };
      bodies = bodies_after (IsFileBody index bytes) board told turn.before turn.after result was.tier turn.turns.answer turn.turns.none turn.turns.got was.bodies;
    } in
    subst (AreTiersOf index bytes) (sym turn.is) (record {
      some_tier = subst (λ (n : ℕ). 1 ≤ n) (sym many) are.some_tier;
      few_tiers = subst (λ (n : ℕ). n ≤ 4) (sym many) are.few_tiers;
      each = each_again (λ j s. IsTierOf index bytes s) a k turn.after are.each now;
      top = λ s at. each_again (λ j s. j ≡ 0 → s.pinned ≡ base_marks index.fields) a k turn.after
          (λ j s at is_top. are.top s (subst (λ (n : ℕ). slice_get a n ≡ Some s) is_top at))
          (λ is_top. same.pinned ∙ are.top turn.before (subst (λ (n : ℕ). slice_get a n ≡ Some turn.before) is_top turn.was)) 0 s at refl;
      others = λ i s p at. each_again (λ j s. j ≡ suc i → is_marked s.pinned p ≡ false) a k turn.after
          (λ j s at is_lower. are.others i s p (subst (λ (n : ℕ). slice_get a n ≡ Some s) is_lower at))
          (λ is_lower. ap (λ (marks : List Bool). is_marked marks p) same.pinned ∙ are.others i turn.before p (subst (λ (n : ℕ). slice_get a n ≡ Some turn.before) is_lower turn.was)) (suc i) s at refl;
    })

-- each tier still keeps the board's wishes
pub wishes_after : {E : Type 0} (board : Board) (told : Told) (gives : ℕ → SeenBody → Type 0) (k : ℕ) (result : Result Turn E) (a b : List TierState) → AllKeepWishes board a → TurnsTier board told gives k result a b → AllKeepWishes board b
wishes_after board told gives k result a b all turn = subst (AllKeepWishes board) (sym turn.is) (record { each = each_again (λ j s. KeepsWishes board s) a k turn.after all.each turn.turns.keeps })

-- ---- the words

pub top_epochs : (answer : Turn) (epochs later : ℕ → ℕ) → ((p : ℕ) → later p ≡ epochs_after answer epochs p) → (p : ℕ) → later p ≡ epochs_then 0 answer epochs p
unfolding epochs_then
top_epochs answer epochs later are p = are p

pub lower_epochs : (k : ℕ) (answer : Turn) (epochs later : ℕ → ℕ) → k ≢ 0 → ((p : ℕ) → later p ≡ epochs p) → (p : ℕ) → later p ≡ epochs_then k answer epochs p
unfolding epochs_then
lower_epochs zero answer epochs later lower are p = absurd (lower refl)
lower_epochs (suc k) answer epochs later lower are p = are p

-- a turn of the top tier
pub turns_at_top : {E : Type 0} (board : Board) (gives : ℕ → SeenBody → Type 0) (epochs later : ℕ → ℕ) (answer : Turn) (a b : List TierState) → TurnsTier {E = E} board (told_of (has_below a 0) true epochs) gives 0 (Ok answer) a b → ((p : ℕ) → later p ≡ epochs_after answer epochs p) → TurnsAt board 0 answer (chain_of a epochs) (chain_of b later)
unfolding is_top
turns_at_top board gives epochs later answer a b turn are = record { before = turn.before; after = turn.after; was = turn.was; is = turn.is; turns = turn.turns.answer; body = turn.turns.brings; epochs = top_epochs answer epochs later are }

-- a turn of a lower tier, which isn't told the epochs
pub turns_at_lower : {E : Type 0} (board : Board) (gives : ℕ → SeenBody → Type 0) (others epochs later : ℕ → ℕ) (k : ℕ) (answer : Turn) (a b : List TierState) → k ≢ 0 → TurnsTier {E = E} board (told_of (has_below a k) false others) gives k (Ok answer) a b → ((p : ℕ) → later p ≡ epochs p) → TurnsAt board k answer (chain_of a epochs) (chain_of b later)
unfolding is_top
turns_at_lower board gives others epochs later zero answer a b lower turn are = absurd (lower refl)
turns_at_lower board gives others epochs later (suc k) answer a b lower turn are = record {
  before = turn.before;
  after = turn.after;
  was = turn.was;
  is = turn.is;
  turns = lower_turn board (has_below a (suc k)) others epochs turn.before answer turn.after turn.turns.answer;
  body = turn.turns.brings;
  epochs = lower_epochs (suc k) answer epochs later lower are;
}

-- without memory the tier has begun its turn
pub takes_wishes : {E : Type 0} (board : Board) (told : Told) (gives : ℕ → SeenBody → Type 0) (k : ℕ) (result : Result Turn E) (a b : List TierState) → TurnsTier board told gives k result a b → OnErr result (TakesWishes board k a b)
takes_wishes board told gives k (Ok answer) a b turn = tt
takes_wishes board told gives k (Err e) a b turn = record { before = turn.before; was = turn.was; is = turn.is ∙ ap (slice_set a k) turn.turns.none }

-- ---- what a turn gives

-- the tier below gives bodies of the file, and so does the store
file_given : (index : IndexLists) (bytes : Option (List ℕ)) (gives : ℕ → SeenBody → Type 0) (a : List TierState) (k p : ℕ) (body : SeenBody) → AreTiersOf index bytes a → (gives p body → IsFileBody index bytes p body) → GivesBelow gives a k p body → IsFileBody index bytes p body
file_given index bytes gives a k p body are right given = by (slice_get a (suc k)) refl given
  where
    by : (below : Option TierState) → slice_get a (suc k) ≡ below → MatchOption below (gives p body) (λ (t : TierState). slice_get t.held p ≡ Some (Some body)) → IsFileBody index bytes p body
    by None at given = right given
    by (Some t) at given = (are.each (suc k) t at).bodies.held p body given

-- so a turn gives a body of the file
pub turns_by_file : {E : Type 0} (index : IndexLists) (bytes : Option (List ℕ)) (gives : ℕ → SeenBody → Type 0) (board : Board) (told : Told) (k : ℕ) (result : Result Turn E) (a b : List TierState) → AreTiersOf index bytes a → ((p : ℕ) (body : SeenBody) → gives p body → IsFileBody index bytes p body) → TurnsTier board told (GivesBelow gives a k) k result a b → TurnsTier board told (IsFileBody index bytes) k result a b
turns_by_file index bytes gives board told k result a b are right turn = record {
  before = turn.before;
  after = turn.after;
  was = turn.was;
  is = turn.is;
  turns = record {
    answer = turn.turns.answer;
    none = turn.turns.none;
    tier = turn.turns.tier;
    same = turn.turns.same;
    keeps = turn.turns.keeps;
    brings = turn.turns.brings;
    got = result_got_more (λ p. GivesBelow gives a k p (body_at turn.after p)) (λ p. IsFileBody index bytes p (body_at turn.after p)) (λ p given. file_given index bytes gives a k p (body_at turn.after p) are (right p (body_at turn.after p)) given) result turn.turns.got;
    lost = turn.turns.lost;
  };
}

-- ---- the tie

pub tied_top : (b : List TierState) (epochs : ℕ → ℕ) (pinned : ℕ → Bool) → ((s : TierState) → slice_get b 0 ≡ Some s → IsTied s epochs pinned) → IsTopTied (chain_of b epochs) pinned
tied_top b epochs pinned tied = record { top = tied }

-- a turn of a lower tier leaves the top tied
pub tied_lower : {E : Type 0} (board : Board) (told : Told) (gives : ℕ → SeenBody → Type 0) (k : ℕ) (result : Result Turn E) (a b : List TierState) (epochs : ℕ → ℕ) (pinned : ℕ → Bool) → k ≢ 0 → TurnsTier board told gives k result a b → IsTopTied (chain_of a epochs) pinned → IsTopTied (chain_of b epochs) pinned
tied_lower board told gives k result a b epochs pinned lower turn tied = record {
  top = λ s at. tied.top s (sym (ap (λ (ts : List TierState). slice_get ts 0) turn.is ∙ get-set_other a k 0 turn.after (λ same. lower (sym same))) ∙ at);
}
