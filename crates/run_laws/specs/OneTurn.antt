-- A turn is one, but for bytes of bodies, where what the store gave is one.
use Rattle.std.proofs.Common.{◌≡◌, ℕ, zero, suc, ◌<◌, ◌≤◌, Bool, true, false, cond, List, [], ◌∷◌, ◌++◌, length, Option, Some, None, replicate, refl, sym, ap, ap₂, subst, ◌∙◌, arith}
use Rattle.std.specs.Prelude.{slice_get, MatchOption, IfSome}
use Rattle.std.specs.Option.{option_map_or}
use Rattle.std.proofs.lemmas.Bool.{eqb-false}
use Rattle.std.proofs.lemmas.Option.{same_Some, slice_get_within}
use Rattle.file_model.specs.declared.faults.FileFault.{FileFault}
use Rattle.file_model.specs.Lists.{BodyLists, SeenBody}
use Rattle.tier_model.specs.declared.turns.Abort.TheVariants as reasons
use Rattle.tier_model.specs.declared.turns.Turn.{Turn}
use Rattle.tier_model.specs.declared.turns.Turn.TheVariants.{Changed}
use Rattle.tier_model.specs.Places.{first_coming, first_bare}
use Rattle.tier_model.specs.Tiers.{TierState, is_held}
use Rattle.tier_model.specs.Changes.{arrived, aborted}
use Rattle.tier_model.specs.Choices.{Told}
use Rattle.tier_model.specs.Turns.{Fetched, Came, Failed, Broken, Outcome, paired, entering, leaving, fetching, leave_or_idle, commit_or, fetch_or, reserve_or, ranked_turn_of, begun, turn_of}
use Rattle.tier_model.specs.Chains.{has_below, told_at}
use Rattle.run_model.specs.Worlds.{World, IsFileBody}
use Rattle.run_model.specs.States.{State, board_of, moved}
use Rattle.run_model.specs.Turning.{GivesHeld, GivesStored, GivesBelow, IfFetched, uses_of, found_by, turn_at, TurnsTo}
use Rattle.run_model.specs.RunTexts.{StoreOutcome, GaveBody, HadFault, FoundChange, fetch_outcome, is_lowest, turn_outcome}
use Rattle.run_laws.specs.BlankTiers.{blank_body, blank, blank_arrived}
use Rattle.run_laws.specs.BlankRuns.{blank_state, blank_state_twice, blank_many, blank_moved, blank_turns_to}

-- two turns have one answer, and leave one tier but for bytes of bodies
record IsOneTurn (x y : Turn × TierState) : Type 0 where
  answer : x.0 ≡ y.0
  after : blank x.1 ≡ blank y.1

-- a body came
abbrev IsCame : Fetched → Type 0
IsCame (Came body) = Unit {0}
IsCame Failed = ⊥
IsCame (Broken fault) = ⊥

abbrev found_with : Fetched → ℕ → Outcome
found_with fetched uses = record { fetched = fetched; uses = uses }

-- what may come of fetches: two bodies of a patch are one but for their bytes, and above the lowest tier a body comes
record IsOneSource (lowest : Bool) (has : ℕ → Bool) (Q : ℕ → Fetched → Type 0) : Type 0 where
  bodies : (p : ℕ) (b c : SeenBody) → has p ≡ true → Q p (Came b) → Q p (Came c) → blank_body b ≡ blank_body c
  above : (p : ℕ) (f : Fetched) → lowest ≡ false → has p ≡ true → Q p f → IsCame f

-- ---- one fetch

told_outcomes : (lowest : Bool) (xs ys rest more : List StoreOutcome) → (lowest ≡ false → ⊥) → cond lowest xs [] ++ rest ≡ cond lowest ys [] ++ more → xs ++ rest ≡ ys ++ more
told_outcomes true xs ys rest more low same = same
told_outcomes false xs ys rest more low same = absurd (low refl)

fetch_one : (s : TierState) (lowest : Bool) (has : ℕ → Bool) (Q : ℕ → Fetched → Type 0) → IsOneSource lowest has Q → (p : ℕ) (there : Bool) → has p ≡ there → (f g : Fetched) (rest more : List StoreOutcome)
    → IfFetched (fetching there s p f).0 (λ q. Q q f) → IfFetched (fetching there s p g).0 (λ q. Q q g)
    → cond lowest (fetch_outcome (fetching there s p f).0) [] ++ rest ≡ cond lowest (fetch_outcome (fetching there s p g).0) [] ++ more → IsOneTurn (fetching there s p f) (fetching there s p g)
unfolding fetching
fetch_one s lowest has Q one p false is f g rest more q r same = record { answer = refl; after = refl }
fetch_one s lowest has Q one p true is (Came b) (Came c) rest more q r same = record { answer = refl; after = sym (blank_arrived s p b) ∙ ap (arrived (blank s) p) (one.bodies p b c is q r) ∙ blank_arrived s p c }
fetch_one s lowest has Q one p true is (Came b) Failed rest more q r same = absurd (let heads = told_outcomes lowest (GaveBody ∷ []) (HadFault ∷ []) rest more (λ low. one.above p Failed low is r) same in cc)
fetch_one s lowest has Q one p true is (Came b) (Broken h) rest more q r same = absurd (let heads = told_outcomes lowest (GaveBody ∷ []) (FoundChange h ∷ []) rest more (λ low. one.above p (Broken h) low is r) same in cc)
fetch_one s lowest has Q one p true is Failed (Came c) rest more q r same = absurd (let heads = told_outcomes lowest (HadFault ∷ []) (GaveBody ∷ []) rest more (λ low. one.above p Failed low is q) same in cc)
fetch_one s lowest has Q one p true is Failed Failed rest more q r same = record { answer = refl; after = refl }
fetch_one s lowest has Q one p true is Failed (Broken h) rest more q r same = absurd (let heads = told_outcomes lowest (HadFault ∷ []) (FoundChange h ∷ []) rest more (λ low. one.above p Failed low is q) same in cc)
fetch_one s lowest has Q one p true is (Broken h) (Came c) rest more q r same = absurd (let heads = told_outcomes lowest (FoundChange h ∷ []) (GaveBody ∷ []) rest more (λ low. one.above p (Broken h) low is q) same in cc)
fetch_one s lowest has Q one p true is (Broken h) Failed rest more q r same = absurd (let heads = told_outcomes lowest (FoundChange h ∷ []) (HadFault ∷ []) rest more (λ low. one.above p (Broken h) low is q) same in cc)
fetch_one s lowest has Q one p true is (Broken h) (Broken i) rest more q r same =
    let heads : FoundChange h ∷ rest ≡ FoundChange i ∷ more = told_outcomes lowest (FoundChange h ∷ []) (FoundChange i ∷ []) rest more (λ low. one.above p (Broken h) low is q) same in
    let faults : h ≡ i = cc in
    record { answer = ap (λ (x : FileFault). Changed p x) faults; after = ap (λ (x : FileFault). blank (aborted s p (reasons.Changed x))) faults }

-- ---- one turn of a tier

module _ (told : Told) (s : TierState) (lowest : Bool) (Q : ℕ → Fetched → Type 0) (one : IsOneSource lowest told.has Q) (f g : Fetched) (uses : ℕ) (rest more : List StoreOutcome) where
  -- what two fetches say
  abbrev Agree : Turn × TierState → Turn × TierState → Type 0
  Agree x y = IfFetched x.0 (λ p. Q p f) → IfFetched y.0 (λ p. Q p g) → cond lowest (fetch_outcome x.0) [] ++ rest ≡ cond lowest (fetch_outcome y.0) [] ++ more → IsOneTurn x y

  itself : (x : Turn × TierState) → IsOneTurn x x
  itself x = record { answer = refl; after = refl }

  by_leave : (found : Option ℕ) → leave_or_idle told s (found_with f uses) found ≡ leave_or_idle told s (found_with g uses) found
  unfolding leave_or_idle
  by_leave (Some v) = refl
  by_leave None = refl

  by_commit : (found : Option ℕ) → Agree (commit_or told s (found_with f uses) found) (commit_or told s (found_with g uses) found)
  unfolding commit_or
  by_commit (Some p) q r same = record { answer = refl; after = refl }
  by_commit None q r same = subst (IsOneTurn (leave_or_idle told s (found_with f uses) (leaving told s))) (by_leave (leaving told s)) (itself (leave_or_idle told s (found_with f uses) (leaving told s)))

  by_bare : (found : Option ℕ) → Agree (fetch_or told s (found_with f uses) found) (fetch_or told s (found_with g uses) found)
  unfolding fetch_or
  by_bare (Some p) q r same = fetch_one s lowest told.has Q one p (told.has p) refl f g rest more q r same
  by_bare None q r same = by_commit (first_coming s.coming) q r same

  by_enter : (found : Option ℕ) → Agree (reserve_or told s (found_with f uses) found) (reserve_or told s (found_with g uses) found)
  unfolding reserve_or
  by_enter (Some c) q r same = record { answer = refl; after = refl }
  by_enter None q r same = by_bare (first_bare s.coming) q r same

  ranked_one : Agree (ranked_turn_of told s (found_with f uses)) (ranked_turn_of told s (found_with g uses))
  unfolding ranked_turn_of
  ranked_one = by_enter (entering told s)

-- ---- what lies below is one

past : (tiers : List TierState) (k : ℕ) → slice_get tiers k ≡ None → length tiers ≤ k
past [] k none = omega arith
past (t ∷ ts) zero none = absurd (cc)
past (t ∷ ts) (suc k) none = let rest = past ts k none in omega arith

abbrev blank_with : ℕ → ℕ → BodyLists → ℕ → SeenBody
blank_with patch version lists n = record { patch = patch; version = version; lists = lists; bytes = replicate n 0 }

pub same_blank : (w : World) (bodies : List BodyLists) → w.bodies ≡ Some bodies → (p : ℕ) (b c : SeenBody) → IsFileBody w p b → IsFileBody w p c → blank_body b ≡ blank_body c
same_blank w bodies told p b c first second =
    let at : (x : SeenBody) → IsFileBody w p x → slice_get bodies p ≡ Some x.lists = λ x is. subst (λ (o : Option (List BodyLists)). IfSome o (λ bs. slice_get bs p ≡ Some x.lists)) told is.told in
    let lists : b.lists ≡ c.lists = same_Some b.lists c.lists (sym (at b first) ∙ at c second) in
    let patch : b.patch ≡ c.patch = first.of_patch.patch ∙ sym second.of_patch.patch in
    let version : b.version ≡ c.version = first.version ∙ sym second.version in
    let size : length b.bytes ≡ length c.bytes = first.of_patch.size ∙ sym second.of_patch.size in
    ap₂ (λ (n m : ℕ). blank_with n m b.lists (length b.bytes)) patch version ∙ ap₂ (λ (l : BodyLists) (n : ℕ). blank_with c.patch c.version l n) lists size

module _ (w : World) (bodies : List BodyLists) (told : w.bodies ≡ Some bodies) where
  same_given : (below : Option TierState) (p : ℕ) (b c : SeenBody) → option_map_or (λ (t : TierState). is_held t p) below true ≡ true
      → MatchOption below (GivesStored w p (Came b)) (λ (t : TierState). is_held t p ≡ true → GivesHeld t p (Came b)) → MatchOption below (GivesStored w p (Came c)) (λ (t : TierState). is_held t p ≡ true → GivesHeld t p (Came c)) → blank_body b ≡ blank_body c
  same_given None p b c has first second = same_blank w bodies told p b c first second
  same_given (Some t) p b c has first second =
      ap blank_body (same_Some b c (same_Some (Some b) (Some c) (sym (first has) ∙ second has)))

  came_from : (t : TierState) (p : ℕ) (f : Fetched) → GivesHeld t p f → IsCame f
  came_from t p (Came b) given = tt
  came_from t p Failed given = given
  came_from t p (Broken fault) given = given

  came_above : (tiers : List TierState) (k : ℕ) (below : Option TierState) (p : ℕ) (f : Fetched) → k < length tiers → (suc k ≡ length tiers → ⊥) → slice_get tiers (suc k) ≡ below → option_map_or (λ (t : TierState). is_held t p) below true ≡ true
      → MatchOption below (GivesStored w p f) (λ (t : TierState). is_held t p ≡ true → GivesHeld t p f) → IsCame f
  came_above tiers k None p f within above at has given = absurd (above (let end = past tiers (suc k) at in omega arith))
  came_above tiers k (Some t) p f within above at has given = came_from t p f (given has)

  one_source : (a : State) (k : ℕ) → length a.chain.tiers ≡ length w.budgets → k < length a.chain.tiers → IsOneSource (is_lowest w k) (told_at a.chain k).has (GivesBelow w a.chain.tiers k)
  unfolding has_below
  one_source a k many within = record {
    bodies = λ p b c has first second. same_given (slice_get a.chain.tiers (suc k)) p b c has first second;
    above = λ p f low has given. came_above a.chain.tiers k (slice_get a.chain.tiers (suc k)) p f within (λ same. eqb-false (suc k) (length w.budgets) low (same ∙ many)) refl has given;
  }

-- ---- one turn in a state

-- two turns have one answer, and lead to one state but for bytes of bodies
pub record IsOneMove (x y : Turn) (b c : State) : Type 0 where
  pub answer : x ≡ y
  pub state : blank_state b ≡ blank_state c

moved_one : (a : State) (k : ℕ) (x y : Turn) (t u : TierState) → x ≡ y → blank t ≡ blank u → blank_state (moved a k x t) ≡ blank_state (moved a k y u)
moved_one a k x y t u answer after = blank_moved a k x t ∙ ap₂ (moved (blank_state a) k) answer after ∙ sym (blank_moved a k y u)

pub turn_one : (w : World) (bodies : List BodyLists) → w.bodies ≡ Some bodies → (a b c : State) (k : ℕ) (x y : Turn) (rest more : List StoreOutcome) → length a.chain.tiers ≡ length w.budgets → TurnsTo w k a x b → TurnsTo w k a y c
    → turn_outcome w (k, x) ++ rest ≡ turn_outcome w (k, y) ++ more → IsOneMove x y b c
unfolding turn_of found_by
turn_one w bodies told a b c k x y rest more many first second outcomes =
    let tier = told_at a.chain k in
    let now = begun (board_of w a) first.before in
    let uses = uses_of a.users (leaving tier now) in
    let source = one_source w bodies told a k many (slice_get_within a.chain.tiers k first.before first.was) in
    let same = same_Some first.before second.before (sym first.was ∙ second.was) in
    let also : paired y second.after ≡ turn_at w a k first.before second.fetched = subst (λ (t : TierState). paired y second.after ≡ turn_at w a k t second.fetched) (sym same) second.turns in
    let Both = Agree tier now (is_lowest w k) (GivesBelow w a.chain.tiers k) source first.fetched second.fetched uses rest more in
    let one : IsOneTurn (paired x first.after) (paired y second.after) =
    subst (λ (p : Turn × TierState). Both p (paired y second.after)) (sym first.turns)
    (subst (λ (q : Turn × TierState). Both (ranked_turn_of tier now (found_with first.fetched uses)) q) (sym also)
    (ranked_one tier now (is_lowest w k) (GivesBelow w a.chain.tiers k) source first.fetched second.fetched uses rest more))
    first.gives second.gives outcomes in
    record {
      answer = one.answer;
      state = ap blank_state first.is ∙ moved_one a k x y first.after second.after one.answer one.after ∙ sym (ap blank_state second.is);
    }

-- so it is from states that are one but for bytes of bodies
pub turn_one_like : (w : World) (bodies : List BodyLists) → w.bodies ≡ Some bodies → (a a' b c : State) (k : ℕ) (x y : Turn) (rest more : List StoreOutcome) → length a.chain.tiers ≡ length w.budgets → blank_state a ≡ blank_state a' → TurnsTo w k a x b → TurnsTo w k a' y c
    → turn_outcome w (k, x) ++ rest ≡ turn_outcome w (k, y) ++ more → IsOneMove x y b c
turn_one_like w bodies told a a' b c k x y rest more many like first second outcomes =
    let one = turn_one w bodies told (blank_state a) (blank_state b) (blank_state c) k x y rest more (blank_many a ∙ many) (blank_turns_to w k a b x first)
    (subst (λ (s : State). TurnsTo w k s y (blank_state c)) (sym like) (blank_turns_to w k a' c y second)) outcomes in
    record { answer = one.answer; state = sym (blank_state_twice b) ∙ one.state ∙ blank_state_twice c }
