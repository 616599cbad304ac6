-- What a turn over the wishes that a tier keeps leaves of the tier itself and of the seat of its owner.
use Rattle.std.proofs.Common.{◌≡◌, ℕ, Bool, true, false, nat_eq, List, ◌++◌, length, Some, Result, Ok, Err, MatchResult, refl, sym, ap, subst, ◌∙◌}
use Rattle.std.specs.Prelude.{slice_index}
use Rattle.std.specs.Bool.{MatchBool}
use Rattle.file_model.specs.Lists.{IndexLists, SeenBody}
use Rattle.token_table.specs.Setups.{Setup}
use Rattle.tier_model.specs.declared.turns.Turn.{Turn}
use Rattle.tier_model.specs.Places.{is_marked}
use Rattle.tier_model.specs.Tiers.{TierState, body_at, IsTier, IsMadeOf}
use Rattle.tier_model.specs.Choices.{Told}
use Rattle.tier_model.specs.Turns.{Board, IsRankedTurn, IsTurn}
use Rattle.tier_model.specs.Keeping.{KeepsSetup}
use Rattle.tier_model.specs.Counts.{entries_of, AreCounted}
use Rattle.tier_laws.specs.TurnLaws.{begun_same, turn-from_ranked, journal-turned}
use Rattle.tier_laws.specs.TieLaws.{counted-turned}
use Rattle.detail_laws.specs.Needs.{KeepsBase}
use Rattle.detail_laws.specs.BaseLaws.{base-turned}
use Rattle.transfer_step.specs.TurnWords.{told_of, TurnsEpochs}
use Rattle.cache_chain.specs.AnswerMaps.{got_more}
use Rattle.cache_chain.specs.ChainStates.{HasBodies}
use Rattle.cache_chain.specs.BodyLaws.{bodies-turned}
use Rattle.level_model.specs.Levels.{RunSeen, SeatSeen, HasBudget, IsTopSeat, IsLowerSeat, IsSeated}
use Rattle.level_model.specs.LevelTurns.{TurnsRanked, TurnsSeat}

-- a board with the version that the tier keeps: a turn over it is one over the kept wishes
abbrev pub own_board : TierState → Board
own_board s = record { wish = λ p. 0; version = s.version }

pub is_own_turn : (told : Told) (s : TierState) (answer : Turn) (t : TierState) → IsRankedTurn told s answer t
    → IsTurn (own_board s) told s answer t
is_own_turn told s answer t is =
    turn-from_ranked (own_board s) told s answer t (subst (λ (x : TierState). IsRankedTurn told x answer t)
    (sym (begun_same (own_board s) s refl)) is)

-- ---- the tier

-- the journal has the turn's entry more
abbrev pub JournalGrows : {E : Type 0} → Result Turn E → TierState → TierState → Type 0
JournalGrows result s t = MatchResult result (λ answer. t.journal ≡ s.journal ++ entries_of answer)
    (λ _. t.journal ≡ s.journal)

pub journal_grows : {E : Type 0} (told : Told) (gives : ℕ → SeenBody → Type 0) (result : Result Turn E)
    (s t : TierState) → TurnsRanked told gives result s t → JournalGrows result s t
journal_grows told gives (Ok answer) s t turned = journal-turned (own_board s) told s answer t
    (is_own_turn told s answer t turned.answer)
journal_grows told gives (Err e) s t turned = ap (λ (x : TierState). x.journal) turned.none

pub budget_kept : (setup : Setup) (k : ℕ) (s t : TierState) → IsTier t → KeepsSetup s t → HasBudget setup k s
    → HasBudget setup k t
budget_kept setup k s t tier same has = record {
  budget = has.budget ∙ ap (λ (b : ℕ). Some b) (sym same.budget);
  width = same.width ∙ has.width;
  tier = tier;
}

pub made_kept : (index : IndexLists) (s t : TierState) → KeepsSetup s t → IsMadeOf index s → IsMadeOf index t
made_kept index s t same made = record { sizes = same.sizes ∙ made.sizes; base = same.base ∙ made.base }

pub bases_kept : {E : Type 0} (told : Told) (gives : ℕ → SeenBody → Type 0) (result : Result Turn E) (s t : TierState)
    → IsTier s → TurnsRanked told gives result s t → KeepsBase s → KeepsBase t
bases_kept told gives (Ok answer) s t tier turned bases = base-turned (own_board s) told s answer t tier
    (is_own_turn told s answer t turned.answer) bases
bases_kept told gives (Err e) s t tier turned bases = subst KeepsBase (sym turned.none) bases

-- each body is as it should be, if what comes is
pub bodies_kept : {E : Type 0} (P : ℕ → SeenBody → Type 0) (told : Told) (gives : ℕ → SeenBody → Type 0)
    (result : Result Turn E) (s t : TierState) → ((p : ℕ) (body : SeenBody) → gives p body → P p body)
    → IsTier s → TurnsRanked told gives result s t → HasBodies P s → HasBodies P t
bodies_kept P told gives (Ok answer) s t right tier turned bodies =
    bodies-turned P (own_board s) told s answer t tier (is_own_turn told s answer t turned.answer)
    (got_more (λ p. gives p (body_at t p)) (λ p. P p (body_at t p)) (λ p. right p (body_at t p)) answer turned.got)
    bodies
bodies_kept P told gives (Err e) s t right tier turned bodies = subst (HasBodies P) (sym turned.none) bodies

-- ---- the seat

-- each epoch still counts its patch's entries
counted_kept : {E : Type 0} (has : ℕ → Bool) (gives : ℕ → SeenBody → Type 0) (result : Result Turn E) (s t : TierState)
    (seat later : SeatSeen) → seat.has_words ≡ true
    → TurnsRanked (told_of has seat.has_words (slice_index seat.desk.epochs)) gives result s t
    → TurnsSeat result t seat later
    → AreCounted s (slice_index seat.desk.epochs) → AreCounted t (slice_index later.desk.epochs)
counted_kept has gives (Ok answer) s t seat later words turned turns counted =
    let told = told_of has seat.has_words (slice_index seat.desk.epochs) in
    let epochs = subst (λ (b : Bool). TurnsEpochs b answer (slice_index seat.desk.epochs)
    (slice_index later.desk.epochs)) words turns.epochs in
    let moved = counted-turned (own_board s) told s answer t (is_own_turn told s answer t turned.answer) counted in
    record { counted = λ p. epochs p ∙ moved.counted p }
counted_kept has gives (Err e) s t seat later words turned turns counted =
    let same = subst (λ (x : TierState). AreCounted x (slice_index seat.desk.epochs)) (sym turned.none) counted in
    record { counted = λ p. turns.epochs p ∙ same.counted p }

top_kept : {E : Type 0} (setup : Setup) (has : ℕ → Bool) (gives : ℕ → SeenBody → Type 0) (result : Result Turn E)
    (s t : TierState) (seat later : SeatSeen) → seat.has_words ≡ true
    → TurnsRanked (told_of has seat.has_words (slice_index seat.desk.epochs)) gives result s t
    → TurnsSeat result t seat later
    → IsTopSeat setup s seat.desk → IsTopSeat setup t later.desk
top_kept setup has gives result s t seat later words turned turns top = record {
  many = turns.many ∙ top.many ∙ ap (λ (sizes : List ℕ). length sizes) (sym turned.same.sizes);
  base = turned.same.pinned ∙ top.base;
  pins = λ p. ap (λ (pins : List ℕ). nat_eq (slice_index pins p) 1) turns.pins ∙ top.pins p
      ∙ ap (λ (marks : List Bool). is_marked marks p) (sym turned.same.pinned);
  fits = turns.fits words;
  tied = turns.tied words;
  counted = counted_kept has gives result s t seat later words turned turns top.counted;
}

pub lower_kept : (s t : TierState) → KeepsSetup s t → IsLowerSeat s → IsLowerSeat t
lower_kept s t same lower = record {
  unpinned = λ p. ap (λ (marks : List Bool). is_marked marks p) same.pinned
      ∙ lower.unpinned p;
}

owned_by : {E : Type 0} (setup : Setup) (has : ℕ → Bool) (gives : ℕ → SeenBody → Type 0) (result : Result Turn E)
    (s t : TierState) (seat later : SeatSeen)
    → TurnsRanked (told_of has seat.has_words (slice_index seat.desk.epochs)) gives result s t
    → TurnsSeat result t seat later → (words : Bool) → seat.has_words ≡ words
    → MatchBool words (IsTopSeat setup s seat.desk) (IsLowerSeat s)
    → MatchBool words (IsTopSeat setup t later.desk) (IsLowerSeat t)
owned_by setup has gives result s t seat later turned turns true is top = top_kept setup has gives result s t seat later
    is turned turns top
owned_by setup has gives result s t seat later turned turns false is lower = lower_kept s t turned.same lower

pub owned_kept : {E : Type 0} (setup : Setup) (has : ℕ → Bool) (gives : ℕ → SeenBody → Type 0) (result : Result Turn E)
    (s t : TierState) (seat later : SeatSeen)
    → TurnsRanked (told_of has seat.has_words (slice_index seat.desk.epochs)) gives result s t
    → TurnsSeat result t seat later
    → MatchBool seat.has_words (IsTopSeat setup s seat.desk) (IsLowerSeat s)
    → MatchBool later.has_words (IsTopSeat setup t later.desk) (IsLowerSeat t)
owned_kept setup has gives result s t seat later turned turns owned =
    subst (λ (words : Bool). MatchBool words (IsTopSeat setup t later.desk) (IsLowerSeat t)) (sym turns.has_words)
    (owned_by setup has gives result s t seat later turned turns seat.has_words refl owned)

pub seated_kept : {E : Type 0} (run : RunSeen) (k : ℕ) (result : Result Turn E) (t : TierState) (seat later : SeatSeen)
    → TurnsSeat result t seat later → IsSeated run k seat → IsSeated run k later
seated_kept run k result t seat later turns seated = record {
  home = turns.home ∙ seated.home;
  tier = turns.tier ∙ seated.tier;
  lower = λ none. seated.lower (sym turns.has_words ∙ none);
  made = λ words. turns.made ∙ seated.made (sym turns.has_words ∙ words);
  guest = λ words. turns.guest ∙ seated.guest (sym turns.has_words ∙ words);
  ended = λ words. turns.ended ∙ seated.ended (sym turns.has_words ∙ words);
}
