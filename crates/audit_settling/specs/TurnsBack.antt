-- A turn that a tier can make is read from its line, from a state that is the same but for bytes of bodies.
use Rattle.std.proofs.Common.{◌≡◌, ℕ, ◌<◌, ◌≤◌, Bool, true, false, cond, List, [], ◌∷◌, ◌++◌, length, Option, Some, None, refl, sym, ap, subst, ◌∙◌, append-nil}
use Rattle.std.specs.Prelude.{slice_get, MatchOption}
use Rattle.std.proofs.lemmas.Option.{slice_get-get_or, slice_get_within}
use Rattle.file_model.specs.Lists.{BodyLists}
use Rattle.tier_model.specs.declared.turns.Turn.{Turn}
use Rattle.tier_model.specs.declared.turns.Turn.TheVariants.{Reserve, Evict, Kept, Got, Lost, Fault, Changed, Commit, Idle}
use Rattle.tier_model.specs.Places.{first_bare}
use Rattle.tier_model.specs.Tiers.{TierState, is_held}
use Rattle.tier_model.specs.Turns.{Fetched, Failed, entering, turn_of}
use Rattle.tier_model.specs.Chains.{told_at}
use Rattle.tier_laws.specs.ComingLaws.{bare_comes}
use Rattle.tier_laws.specs.TurnLaws.{begun_places}
use Rattle.run_model.specs.Worlds.{World, patch_count}
use Rattle.run_model.specs.States.{State, board_of}
use Rattle.run_model.specs.Turning.{GivesHeld, GivesStored, GivesBelow, IfFetched, found_by, TurnsTo}
use Rattle.run_model.specs.LineTexts.{turn_line}
use Rattle.run_model.specs.RunTexts.{StoreOutcome, HadFault, fetch_outcome, is_lowest, turn_outcome}
use Rattle.run_laws.specs.BlankRuns.{blank_state}
use Rattle.run_laws.specs.OneTurn.{IsOneMove, turn_one_like}
use Rattle.run_laws.specs.Sound.{IsSound, many_patches}
use Rattle.serve_model.specs.FittingFaults.{IsFitting}
use Rattle.audit_spelling.specs.Spellings.{most_32, IsOutcome}
use Rattle.audit_settling.specs.Settlings.{Settling, IsSettling, Standing, Moved, tier_now, fetched_patch, fetch_unless, below_gives, fetch_by, told_gives, moved_with, outcome_patch, IsTurnBy, IsTurnOf, IsTurnRead}
use Rattle.audit_settling.specs.TurnFacts.{Others, answer_by}
use Rattle.audit_settling.specs.TurnsRead.{given_below, gives_from, turns_with, none_below, told_stored, answer_is_told}

-- ---- outcomes

abbrev NoFetch : Turn → Type 0
NoFetch answer = fetch_outcome answer ≡ []

none_fetch : Others NoFetch
none_fetch = record
    { reserve = λ p. refl; evict = λ p. refl; kept = λ p uses. refl; lost = λ p. refl; commit = λ p. refl; idle = refl }

-- the outcome of a turn at this patch, and a failure where the turn has none
told_for : ℕ → Turn → Turn
told_for p (Got q) = Got p
told_for p (Changed q fault) = Changed p fault
told_for p (Fault q) = Fault p
told_for p (Reserve q) = Fault p
told_for p (Evict q) = Fault p
told_for p (Kept q uses) = Fault p
told_for p (Lost q) = Fault p
told_for p (Commit q) = Fault p
told_for p Idle = Fault p

-- two lists of outcomes go on so that they are one
record GoOn (xs ys : List StoreOutcome) : Type 0 where
  rest : List StoreOutcome
  more : List StoreOutcome
  same : xs ++ rest ≡ ys ++ more

told_goes_on : (p : ℕ) (x : Turn) → GoOn (fetch_outcome x) (fetch_outcome (told_for p x))
unfolding told_for
told_goes_on p (Got q) = record { rest = []; more = []; same = refl }
told_goes_on p (Changed q fault) = record { rest = []; more = []; same = refl }
told_goes_on p (Fault q) = record { rest = []; more = []; same = refl }
told_goes_on p (Reserve q) = record { rest = HadFault ∷ []; more = []; same = refl }
told_goes_on p (Evict q) = record { rest = HadFault ∷ []; more = []; same = refl }
told_goes_on p (Kept q uses) = record { rest = HadFault ∷ []; more = []; same = refl }
told_goes_on p (Lost q) = record { rest = HadFault ∷ []; more = []; same = refl }
told_goes_on p (Commit q) = record { rest = HadFault ∷ []; more = []; same = refl }
told_goes_on p Idle = record { rest = HadFault ∷ []; more = []; same = refl }

told_is : (patches p : ℕ) (x : Turn) → p < patches → IsFitting x → IsOutcome patches (told_for p x)
unfolding told_for
told_is patches p (Got q) within fits = within
told_is patches p (Changed q fault) within fits = (within, fits)
told_is patches p (Fault q) within fits = within
told_is patches p (Reserve q) within fits = within
told_is patches p (Evict q) within fits = within
told_is patches p (Kept q uses) within fits = within
told_is patches p (Lost q) within fits = within
told_is patches p (Commit q) within fits = within
told_is patches p Idle within fits = within

told_patch : (p : ℕ) (x : Turn) → outcome_patch (told_for p x) ≡ Some p
unfolding told_for
told_patch p (Got q) = refl
told_patch p (Changed q fault) = refl
told_patch p (Fault q) = refl
told_patch p (Reserve q) = refl
told_patch p (Evict q) = refl
told_patch p (Kept q uses) = refl
told_patch p (Lost q) = refl
told_patch p (Commit q) = refl
told_patch p Idle = refl

above_outcome : (w : World) (k : ℕ) (x : Turn) → is_lowest w k ≡ false → turn_outcome w (k, x) ≡ []
above_outcome w k x above = ap (λ (low : Bool). cond low (fetch_outcome x) []) above

lowest_outcome : (w : World) (k : ℕ) (x : Turn) → is_lowest w k ≡ true → turn_outcome w (k, x) ≡ fetch_outcome x
lowest_outcome w k x low = ap (λ (lowest : Bool). cond lowest (fetch_outcome x) []) low

-- ---- a turn

pub record ReadsTurn (a : Settling) (k : ℕ) (r : Standing) (line : ℕ) (x : Turn) (b : State) : Type 0 where
  pub moved : Moved
  pub is : IsTurnRead a k r line moved (turn_line k x)
  pub answer : moved.answer ≡ x
  pub turns : TurnsTo a.world k r.state moved.answer moved.next.state
  pub like : blank_state b ≡ blank_state moved.next.state

-- the same, where the tier is this one
record ReadsBy (a : Settling) (k : ℕ) (r : Standing) (t : TierState) (lowest : Bool) (fetch : Option ℕ) (line : ℕ)
    (x : Turn) (b : State) : Type 0 where
  moved : Moved
  is : IsTurnBy a k r t lowest fetch line moved (turn_line k x)
  answer : moved.answer ≡ x
  turns : TurnsTo a.world k r.state moved.answer moved.next.state
  like : blank_state b ≡ blank_state moved.next.state

bare_of : (c b : Option ℕ) (p : ℕ) → fetch_unless c b ≡ Some p → b ≡ Some p
bare_of None b p is = is
bare_of (Some c) b p is = absurd (cc)

module _ (a : Settling) (settling : IsSettling a) (bodies : List BodyLists) (told : a.world.bodies ≡ Some bodies)
    (k : ℕ) (small : k ≤ most_32) (s b : State) (x : Turn) (turn : TurnsTo a.world k s x b) (fits : IsFitting x)
    (s_sound : IsSound a.world s) (r : Standing) (sound : IsSound a.world r.state)
    (like : blank_state s ≡ blank_state r.state) (line : ℕ) where
  -- the patch that a turn fetches is there
  fetch_within : (t : TierState) (p : ℕ) → slice_get r.state.chain.tiers k ≡ Some t
      → fetched_patch a.world r.state k t ≡ Some p → p < patch_count a.world
  fetch_within t p was fetch =
      let now = tier_now a.world r.state t in
      let of_tier = sound.tiers k t was in
      let tier = of_tier.tier in
      let same = begun_places (board_of a.world r.state) t in
      let bare : first_bare t.coming ≡ Some p = ap first_bare (sym same.coming)
      ∙ bare_of (entering (told_at r.state.chain k) now) (first_bare now.coming) p fetch in
      let there = slice_get_within t.held p None (tier.coming.away p (bare_comes t.coming p bare)) in
      subst (λ (n : ℕ). p < n) (tier.sized.held ∙ many_patches a.world k t of_tier.set_up) there

  one_move : (y : Turn) (c : State) (rest more : List StoreOutcome) → TurnsTo a.world k r.state y c
      → turn_outcome a.world (k, x) ++ rest ≡ turn_outcome a.world (k, y) ++ more → IsOneMove x y b c
  one_move y c rest more own same =
      turn_one_like a.world bodies told s r.state b c k x y rest more s_sound.many like turn own same

  determined : (t : TierState) (was : slice_get r.state.chain.tiers k ≡ Some t) (fetched : Fetched)
      (rest more : List StoreOutcome) → IfFetched (moved_with a k r t fetched).answer
      (λ p. GivesBelow a.world r.state.chain.tiers k p fetched)
      → turn_outcome a.world (k, x) ++ rest ≡ turn_outcome a.world (k, (moved_with a k r t fetched).answer) ++ more
      → IsOneMove x (moved_with a k r t fetched).answer b (moved_with a k r t fetched).next.state
  determined t was fetched rest more gives same =
      one_move (moved_with a k r t fetched).answer (moved_with a k r t fetched).next.state rest more
      (turns_with a settling k r t was fetched gives) same

  no_fetch : (t : TierState) (fetched : Fetched) → fetched_patch a.world r.state k t ≡ None
      → fetch_outcome (moved_with a k r t fetched).answer ≡ []
  unfolding turn_of found_by
  no_fetch t fetched none =
      answer_by (told_at r.state.chain k) (tier_now a.world r.state t)
      (found_by a.world r.state k t fetched) NoFetch none_fetch
      (λ p is. absurd (let never = sym none ∙ is in cc))

  by_kind : (t : TierState) → slice_get r.state.chain.tiers k ≡ Some t → (lowest : Bool) (fetch : Option ℕ)
      → is_lowest a.world k ≡ lowest → fetched_patch a.world r.state k t ≡ fetch → ReadsBy a k r t lowest fetch line x b
  by_kind t was false fetch low fetch_is =
      let fetched = fetch_by (below_gives r.state.chain.tiers k) fetch in
      let m = moved_with a k r t fetched in
      let gives = gives_from a settling k r t was fetched
      (λ q other. subst
      (λ (o : Option ℕ). GivesBelow a.world r.state.chain.tiers k q
      (fetch_by (below_gives r.state.chain.tiers k) o)) (sym (sym fetch_is ∙ other))
      (given_below a settling k r t was q)) in
      let one = determined t was fetched [] [] gives
      (ap (λ (os : List StoreOutcome). os ++ [])
      (above_outcome a.world k x low ∙ sym (above_outcome a.world k m.answer low))) in
      record {
        moved = m;
        is = record { value = refl; is = ap (turn_line k) one.answer };
        answer =
            sym one.answer;
        turns = turns_with a settling k r t was fetched gives;
        like = one.state;
      }
  by_kind t was true None low fetch_is =
      let m = moved_with a k r t Failed in
      let gives = gives_from a settling k r t was Failed (λ q other. absurd (let never = sym fetch_is ∙ other in cc)) in
      let none : turn_outcome a.world (k, m.answer) ≡ [] = lowest_outcome a.world k m.answer low
      ∙ no_fetch t Failed fetch_is in
      let one = determined t was Failed [] (turn_outcome a.world (k, x)) gives
      (append-nil (turn_outcome a.world (k, x))
      ∙ sym (ap (λ (os : List StoreOutcome). os ++ turn_outcome a.world (k, x)) none)) in
      record {
        moved = m;
        is = record { value = refl; is = ap (turn_line k) one.answer };
        answer =
            sym one.answer;
        turns = turns_with a settling k r t was Failed gives;
        like = one.state;
      }
  by_kind t was true (Some p) low fetch_is =
      let y = told_for p x in
      let fetched = told_gives a y in
      let m = moved_with a k r t fetched in
      let outcome_is = told_is (patch_count a.world) p x (fetch_within t p was fetch_is) fits in
      let none = none_below a settling k r t was sound.many low in
      let stored : GivesBelow a.world r.state.chain.tiers k p fetched = subst
      (λ (below : Option TierState). MatchOption below (GivesStored a.world p fetched)
      (λ (u : TierState). is_held u p ≡ true → GivesHeld u p fetched)) (sym none)
      (told_stored a settling k r t was p y outcome_is (told_patch p x)) in
      let gives = gives_from a settling k r t was fetched
      (λ q other. subst (λ (n : ℕ). GivesBelow a.world r.state.chain.tiers k n fetched)
      (same_patch p q (sym fetch_is ∙ other)) stored) in
      let answer : m.answer ≡ y = answer_is_told a settling k r t was p y none fetch_is outcome_is (told_patch p x) in
      let on = told_goes_on p x in
      let outcomes : turn_outcome a.world (k, x) ++ on.rest ≡ turn_outcome a.world (k, m.answer) ++ on.more =
      ap (λ (os : List StoreOutcome). os ++ on.rest) (lowest_outcome a.world k x low) ∙ on.same
      ∙ sym (ap (λ (os : List StoreOutcome). os ++ on.more)
      (lowest_outcome a.world k m.answer low ∙ ap fetch_outcome answer)) in
      let one = determined t was fetched on.rest on.more gives outcomes in
      record {
        moved = m;
        is = record {
          value = record { tier = k; turn = y };
          front = turn_line k y;
          back = [];
          first = record {
            allowed = record
                { spelt = record { tier = small; turn = outcome_is }; tier = refl; patch = told_patch p x };
            is = refl;
          };
          next = record { value = refl; is = refl };
          is = ap (turn_line k) (one.answer ∙ answer) ∙ sym (append-nil (turn_line k y));
        };
        answer = sym one.answer;
        turns = turns_with a settling k r t was fetched gives;
        like = one.state;
      }
    where
      same_patch : (m n : ℕ) → ◌≡◌ {A = Option ℕ} (Some m) (Some n) → m ≡ n
      same_patch m n same = cc

  by_tier : (tier : Option TierState) → slice_get r.state.chain.tiers k ≡ tier
      → (moved : Moved) × IsTurnOf a k r tier line moved (turn_line k x) ×
      (moved.answer ≡ x) × TurnsTo a.world k r.state moved.answer moved.next.state ×
      (blank_state b ≡ blank_state moved.next.state)
  by_tier None none =
      let within : k < length r.state.chain.tiers = subst (λ (n : ℕ). k < n) (s_sound.many ∙ sym sound.many)
      (slice_get_within s.chain.tiers k turn.before turn.was) in
      absurd (let there = slice_get-get_or r.state.chain.tiers k turn.before within in cc)
  by_tier (Some t) was =
      let read = by_kind t was (is_lowest a.world k) (fetched_patch a.world r.state k t) refl refl in
      (read.moved, read.is, read.answer, read.turns, read.like)

  -- the turn is read
  pub turn_back : ReadsTurn a k r line x b
  turn_back =
      let read = by_tier (slice_get r.state.chain.tiers k) refl in
      record { moved = read.0; is = read.1; answer = read.2; turns = read.3; like = read.4 }
