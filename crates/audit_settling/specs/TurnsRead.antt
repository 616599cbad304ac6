-- A turn that is read is one that the tier can make.
use Rattle.std.proofs.Common.{◌≡◌, ℕ, suc, ◌≤◌, Bool, true, false, List, [], ◌∷◌, ◌++◌, length, Option, Some, None, refl, sym, ap, subst, ◌∙◌, append-nil, arith}
use Rattle.std.specs.Prelude.{slice_get, slice_index_or, MatchOption, is_some}
use Rattle.std.proofs.lemmas.Bool.{eqb-true}
use Rattle.std.proofs.lemmas.Option.{same_Some, slice_get_past}
use Rattle.file_model.specs.Lists.{SeenBody}
use Rattle.tier_model.specs.declared.turns.Turn.{Turn}
use Rattle.tier_model.specs.declared.turns.Turn.TheVariants.{Reserve, Evict, Kept, Got, Lost, Fault, Changed, Commit, Idle}
use Rattle.tier_model.specs.Tiers.{TierState, is_held}
use Rattle.tier_model.specs.Turns.{Fetched, Came, Failed, Broken, fetching, turn_of}
use Rattle.tier_model.specs.Chains.{has_below, told_at}
use Rattle.tier_laws.specs.BodyLaws.{there_is_body}
use Rattle.run_model.specs.Worlds.{IsFileBody, patch_count}
use Rattle.run_model.specs.Turning.{GivesHeld, GivesStored, GivesBelow, IfFetched, found_by, turn_at, TurnsTo}
use Rattle.run_model.specs.LineTexts.{turn_line}
use Rattle.run_model.specs.RunTexts.{is_lowest}
use Rattle.serve_model.specs.FittingFaults.{IsFitting}
use Rattle.audit_spelling.specs.Spellings.{IsOutcome, FitsFault}
use Rattle.audit_settling.specs.Settlings.{Settling, IsSettling, Standing, Moved, tier_now, fetched_patch, body_or_none, held_gives, below_gives, fetch_by, told_gives, moved_with, outcome_patch, IsTurnBy, IsTurnOf, IsTurnRead}
use Rattle.audit_settling.specs.TurnFacts.{Others, fetch_turn, answer_by}

-- ---- what holds of every answer but those of fetches

fetched_others : (P : ℕ → Type 0) → Others (λ answer. IfFetched answer P)
fetched_others P = record
    { reserve = λ p. tt; evict = λ p. tt; kept = λ p uses. tt; lost = λ p. tt; commit = λ p. tt; idle = tt }

fits_others : Others IsFitting
fits_others = record
    { reserve = λ p. tt; evict = λ p. tt; kept = λ p uses. tt; lost = λ p. tt; commit = λ p. tt; idle = tt }

fetched_of : (s : TierState) (p : ℕ) (f : Fetched) (P : ℕ → Type 0) → P p → IfFetched (fetching true s p f).0 P
unfolding fetching
fetched_of s p (Came body) P here = here
fetched_of s p Failed P here = here
fetched_of s p (Broken fault) P here = here

-- a fault that a fetch found is of its type
abbrev FitsFetched : Fetched → Type 0
FitsFetched (Came body) = Unit {0}
FitsFetched Failed = Unit {0}
FitsFetched (Broken fault) = FitsFault fault

fits_of : (s : TierState) (p : ℕ) (f : Fetched) → FitsFetched f → IsFitting (fetching true s p f).0
unfolding fetching
fits_of s p (Came body) fits = tt
fits_of s p Failed fits = tt
fits_of s p (Broken fault) fits = fits

-- ---- what comes from below

gives_held : (t : TierState) (p : ℕ) (o : Option SeenBody) → slice_index_or t.held p None ≡ o → is_some o ≡ true
    → GivesHeld t p (body_or_none o)
gives_held t p None is held = absurd (cc)
gives_held t p (Some body) is held = there_is_body t.held p body is

module _ (a : Settling) (settling : IsSettling a) (k : ℕ) (r : Standing) (t : TierState)
    (was : slice_get r.state.chain.tiers k ≡ Some t) where
  abbrev tiers : List TierState
  tiers = r.state.chain.tiers

  given_by : (p : ℕ) (below : Option TierState) → MatchOption below (GivesStored a.world p (held_gives below p))
      (λ (u : TierState). is_held u p ≡ true → GivesHeld u p (held_gives below p))
  given_by p None = tt
  given_by p (Some u) = λ held. gives_held u p (slice_index_or u.held p None) refl held

  pub given_below : (p : ℕ) → GivesBelow a.world tiers k p (below_gives tiers k p)
  given_below p = given_by p (slice_get tiers (suc k))

  body_fits : (o : Option SeenBody) → FitsFetched (body_or_none o)
  body_fits None = tt
  body_fits (Some body) = tt

  held_fits : (p : ℕ) (below : Option TierState) → FitsFetched (held_gives below p)
  held_fits p None = tt
  held_fits p (Some u) = body_fits (slice_index_or u.held p None)

  below_fits : (fetch : Option ℕ) → FitsFetched (fetch_by (below_gives tiers k) fetch)
  below_fits None = tt
  below_fits (Some p) = held_fits p (slice_get tiers (suc k))

  -- ---- a turn with what its fetch gave

  abbrev Fetch : ℕ → Type 0
  Fetch p = fetched_patch a.world r.state k t ≡ Some p

  pub gives_from : (fetched : Fetched) → ((p : ℕ) → Fetch p → GivesBelow a.world tiers k p fetched)
      → IfFetched (moved_with a k r t fetched).answer (λ p. GivesBelow a.world tiers k p fetched)
  unfolding turn_of found_by
  gives_from fetched gives =
      answer_by (told_at r.state.chain k) (tier_now a.world r.state t) (found_by a.world r.state k t fetched)
      (λ answer. IfFetched answer (λ p. GivesBelow a.world tiers k p fetched))
      (fetched_others (λ p. GivesBelow a.world tiers k p fetched))
      (λ p is. fetched_of (tier_now a.world r.state t) p fetched (λ q. GivesBelow a.world tiers k q fetched)
      (gives p is))

  fits_from : (fetched : Fetched) → FitsFetched fetched → IsFitting (moved_with a k r t fetched).answer
  unfolding turn_of found_by
  fits_from fetched fits =
      answer_by (told_at r.state.chain k) (tier_now a.world r.state t)
      (found_by a.world r.state k t fetched) IsFitting fits_others
      (λ p is. fits_of (tier_now a.world r.state t) p fetched fits)

  pub turns_with : (fetched : Fetched) → IfFetched (moved_with a k r t fetched).answer
      (λ p. GivesBelow a.world tiers k p fetched) → TurnsTo a.world k r.state (moved_with a k r t fetched).answer
      (moved_with a k r t fetched).next.state
  turns_with fetched gives = record {
    before = t;
    was = was;
    fetched = fetched;
    gives = gives;
    after = (turn_at a.world r.state k t fetched).1;
    turns = refl;
    is = refl;
  }

  -- ---- a told outcome

  pub none_below : length tiers ≡ length a.world.budgets → is_lowest a.world k ≡ true → slice_get tiers (suc k) ≡ None
  none_below many lowest =
      let end = eqb-true (suc k) (length a.world.budgets) lowest in
      slice_get_past tiers (suc k) (let past : length tiers ≤ suc k = omega arith in past)

  pub told_stored : (p : ℕ) (x : Turn) → IsOutcome (patch_count a.world) x → outcome_patch x ≡ Some p
      → GivesStored a.world p (told_gives a x)
  told_stored p (Got q) is patch = subst (λ (n : ℕ). IsFileBody a.world n (a.stored q)) (same_Some q p patch)
      (settling.stored q is)
  told_stored p (Fault q) is patch = tt
  told_stored p (Changed q fault) is patch = tt
  told_stored p (Reserve q) is patch = absurd is
  told_stored p (Evict q) is patch = absurd is
  told_stored p (Kept q uses) is patch = absurd is
  told_stored p (Lost q) is patch = absurd is
  told_stored p (Commit q) is patch = absurd is
  told_stored p Idle is patch = absurd is

  told_fits : (x : Turn) → IsOutcome (patch_count a.world) x → FitsFetched (told_gives a x)
  told_fits (Got q) is = tt
  told_fits (Fault q) is = tt
  told_fits (Changed q fault) is = is.1
  told_fits (Reserve q) is = tt
  told_fits (Evict q) is = tt
  told_fits (Kept q uses) is = tt
  told_fits (Lost q) is = tt
  told_fits (Commit q) is = tt
  told_fits Idle is = tt

  told_answer : (s : TierState) (p : ℕ) (x : Turn) → IsOutcome (patch_count a.world) x → outcome_patch x ≡ Some p
      → (fetching true s p (told_gives a x)).0 ≡ x
  unfolding fetching
  told_answer s p (Got q) is patch = ap Got (sym (same_Some q p patch))
  told_answer s p (Fault q) is patch = ap Fault (sym (same_Some q p patch))
  told_answer s p (Changed q fault) is patch = ap (λ (n : ℕ). Changed n fault) (sym (same_Some q p patch))
  told_answer s p (Reserve q) is patch = absurd is
  told_answer s p (Evict q) is patch = absurd is
  told_answer s p (Kept q uses) is patch = absurd is
  told_answer s p (Lost q) is patch = absurd is
  told_answer s p (Commit q) is patch = absurd is
  told_answer s p Idle is patch = absurd is

  lowest_has : (p : ℕ) → slice_get tiers (suc k) ≡ None → has_below tiers k p ≡ true
  unfolding has_below
  lowest_has p none = rw none refl

  pub answer_is_told : (p : ℕ) (x : Turn) → slice_get tiers (suc k) ≡ None → Fetch p → IsOutcome (patch_count a.world) x
      → outcome_patch x ≡ Some p → (moved_with a k r t (told_gives a x)).answer ≡ x
  unfolding turn_of found_by
  answer_is_told p x none fetch is patch =
      let s = tier_now a.world r.state t in
      let out = found_by a.world r.state k t (told_gives a x) in
      ap (λ (y : Turn × TierState). y.0) (fetch_turn (told_at r.state.chain k) s out p fetch)
      ∙ ap (λ (has : Bool). (fetching has s p (told_gives a x)).0) (lowest_has p none)
      ∙ told_answer s p x is patch

-- ---- a turn that is read

pub record TurnRead (a : Settling) (k : ℕ) (r : Standing) (m : Moved) (text : List ℕ) : Type 0 where
  pub turns : TurnsTo a.world k r.state m.answer m.next.state
  pub log : m.next.log ≡ r.log ++ ((k, m.answer) ∷ [])
  pub fits : IsFitting m.answer
  pub is : text ≡ turn_line k m.answer

module _ (a : Settling) (settling : IsSettling a) (k : ℕ) (r : Standing)
    (many : length r.state.chain.tiers ≡ length a.world.budgets) where
  as_moved : (t : TierState) → slice_get r.state.chain.tiers k ≡ Some t
      → (fetched : Fetched) (m : Moved) (text : List ℕ) → m ≡ moved_with a k r t fetched
      → IfFetched (moved_with a k r t fetched).answer (λ p. GivesBelow a.world r.state.chain.tiers k p fetched)
      → FitsFetched fetched → text ≡ turn_line k m.answer → TurnRead a k r m text
  as_moved t was fetched m text is gives fits text_is =
      let P : Moved → Type 0 = λ n. text ≡ turn_line k n.answer → TurnRead a k r n text in
      subst P (sym is)
      (λ line_is. record {
        turns = turns_with a settling k r t was fetched gives;
        log = refl;
        fits = fits_from a settling k r t was fetched fits;
        is = line_is;
      }) text_is

  by_read : (t : TierState) → slice_get r.state.chain.tiers k ≡ Some t → (lowest : Bool) (fetch : Option ℕ)
      → is_lowest a.world k ≡ lowest → fetched_patch a.world r.state k t ≡ fetch
      → (line : ℕ) (m : Moved) (text : List ℕ) → IsTurnBy a k r t lowest fetch line m text → TurnRead a k r m text
  by_read t was true (Some p) low fetch_is line m text then =
      let outcome = then.value in
      let told = then.first in
      let here = then.next in
      let spelt = told.allowed.spelt.turn in
      let patch = told.allowed.patch in
      let none = none_below a settling k r t was many low in
      let x = outcome.turn in
      let stored : GivesBelow a.world r.state.chain.tiers k p (told_gives a x) = subst
      (λ (below : Option TierState). MatchOption below (GivesStored a.world p (told_gives a x))
      (λ (u : TierState). is_held u p ≡ true → GivesHeld u p (told_gives a x))) (sym none)
      (told_stored a settling k r t was p x spelt patch) in
      let answer : (moved_with a k r t (told_gives a x)).answer ≡ x =
      answer_is_told a settling k r t was p x none fetch_is spelt patch in
      as_moved t was (told_gives a x) m text here.value
      (gives_from a settling k r t was (told_gives a x)
      (λ q other. subst (λ (n : ℕ). GivesBelow a.world r.state.chain.tiers k n (told_gives a x))
      (same_Some p q (sym fetch_is ∙ other)) stored))
      (told_fits a settling k r t was x spelt)
      (then.is ∙ ap (λ (back : List ℕ). then.front ++ back) here.is ∙ append-nil then.front ∙ told.is
      ∙ ap (λ (n : ℕ). turn_line n x) told.allowed.tier
      ∙ ap (turn_line k) (sym answer ∙ sym (ap (λ (n : Moved). n.answer) here.value)))
  by_read t was true None low fetch_is line m text due =
      as_moved t was Failed m text due.value
      (gives_from a settling k r t was Failed (λ q other. absurd (let never = sym fetch_is ∙ other in cc)))
      tt (due.is ∙ ap (λ (n : Moved). turn_line k n.answer) (sym due.value))
  by_read t was false fetch low fetch_is line m text due =
      let fetched = fetch_by (below_gives r.state.chain.tiers k) fetch in
      as_moved t was fetched m text due.value
      (gives_from a settling k r t was fetched
      (λ q other. subst
      (λ (o : Option ℕ). GivesBelow a.world r.state.chain.tiers k q
      (fetch_by (below_gives r.state.chain.tiers k) o)) (sym (sym fetch_is ∙ other))
      (given_below a settling k r t was q)))
      (below_fits a settling k r t was fetch) (due.is ∙ ap (λ (n : Moved). turn_line k n.answer) (sym due.value))

  of_read : (tier : Option TierState) → slice_get r.state.chain.tiers k ≡ tier → (line : ℕ) (m : Moved) (text : List ℕ)
      → IsTurnOf a k r tier line m text → TurnRead a k r m text
  of_read None was line m text is = elim is [ ]
  of_read (Some t) was line m text is = by_read t was (is_lowest a.world k)
      (fetched_patch a.world r.state k t) refl refl line m text is

  -- a turn that is read is one that the tier can make
  pub turn_is : (line : ℕ) (m : Moved) (text : List ℕ) → IsTurnRead a k r line m text → TurnRead a k r m text
  turn_is line m text is = of_read (slice_get r.state.chain.tiers k) refl line m text is
