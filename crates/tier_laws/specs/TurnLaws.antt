-- What a turn keeps and changes: it leaves a tier, of the same setup, and each body is still the file's.
use Rattle.std.proofs.Common.{◌≡◌, ℕ, ◌<◌, true, eqb, List, ◌++◌, length, Option, Some, None, refl, sym, ap, subst, ◌∙◌, arith, append-nil}
use Rattle.std.specs.Prelude.{slice_index, slice_index_or}
use Rattle.std.specs.Option.{unwrap_or}
use Rattle.std.proofs.lemmas.Bool.{cond_both, cond-true, eq-eqb, eqb-true}
use Rattle.std.proofs.lemmas.List.{get_or-set_same}
use Rattle.std.proofs.lemmas.Option.{same_Some}
use Rattle.file_model.specs.Lists.{SeenBody, no_body}
use Rattle.tier_model.specs.declared.turns.Abort.{Abort}
use Rattle.tier_model.specs.declared.turns.Abort.TheVariants as reasons
use Rattle.tier_model.specs.declared.turns.Turn.{Turn}
use Rattle.tier_model.specs.Places.{is_coming}
use Rattle.tier_model.specs.Tiers.{TierState, count, kept_wish, body_at, IsBodyFor, IsTier, IsOfFile}
use Rattle.tier_model.specs.Changes.{reserved, arrived, abort_entry, aborted, committed, dropped, passed_over, calmed, renewed, ranked}
use Rattle.tier_model.specs.Choices.{Told}
use Rattle.tier_model.specs.Answers.{IfGot}
use Rattle.tier_model.specs.Turns.{Outcome, Board, begun, paired, turn_of, outcome_in, IsRankedTurn, IsTurn, BringsBody}
use Rattle.tier_model.specs.Counts.{entries_of}
use Rattle.tier_laws.specs.ComingLaws.{bare_comes}
use Rattle.tier_laws.specs.BodyLaws.{each-set, there_is_marked, there_is_body, not_there_is_away, away_is_unmarked}
use Rattle.tier_laws.specs.TierLaws.{comes_within, ranked_wish, IsTier-reserved, IsTier-arrived, IsTier-aborted, IsTier-committed, IsTier-dropped, IsTier-passed_over, IsTier-calmed, IsTier-begun}
use Rattle.tier_laws.specs.Follows.{Enters, Leaves, Follows, Reserves, Gets, Loses, Fails, Breaks, Commits, Evicts, Keeps, Rests, follows}
use Rattle.tier_model.specs.Keeping.{IsAlike, HasSamePlaces, KeepsWishes, KeepsSetup}

-- ---- a turn leaves a tier

pub IsTier-entered : (told : Told) (s : TierState) (c : ℕ) → IsTier s → Enters told s c → IsTier (reserved s c)
IsTier-entered told s c tier enters =
    let candidate = enters.is_candidate in
    let within = candidate.within in
    let sized = tier.sized.held in
    IsTier-reserved s c tier (enters.place, away_is_unmarked s.held c (not_there_is_away s.held c (omega arith) candidate.eligible.not_held), candidate.eligible.not_coming) enters.room

pub IsTier-left : (told : Told) (s : TierState) (v : ℕ) → IsTier s → Leaves told s v → IsTier (dropped s v)
IsTier-left told s v tier leaves =
    IsTier-dropped s v tier (leaves.none_comes, there_is_marked s.held v leaves.is_victim.may.held, leaves.is_victim.may.not_pinned)

-- the body that came is at hand
pub body_arrived : (s : TierState) (p : ℕ) (body : SeenBody) → IsTier s → is_coming s.coming p ≡ true → body_at (arrived s p body) p ≡ body
unfolding arrived
body_arrived s p body tier comes =
    let within = comes_within s p tier comes in
    let sized = tier.sized.came in
    ap (λ (o : Option SeenBody). unwrap_or o no_body) (get_or-set_same s.came p (Some body) None (omega arith))

pub tier-followed : (told : Told) (s : TierState) (o : Outcome) (x : Turn × TierState) → IsTier s → Follows told s o x → BringsBody s.sizes x.0 x.1 → IsTier x.1
tier-followed told s o x tier (Reserves c enters) brings = IsTier-entered told s c tier enters
tier-followed told s o x tier (Gets p body none bare has is) brings =
    IsTier-arrived s p body tier bare (subst (IsBodyFor s.sizes p) (body_arrived s p body tier (bare_comes s.coming p bare)) brings)
tier-followed told s o x tier (Loses p none bare has) brings = IsTier-aborted s p reasons.Lost tier bare
tier-followed told s o x tier (Fails p none bare has is) brings = IsTier-aborted s p reasons.Fault tier bare
tier-followed told s o x tier (Breaks p fault none bare has is) brings = IsTier-aborted s p (reasons.Changed fault) tier bare
tier-followed told s o x tier (Commits p none bare first) brings = IsTier-committed s p tier (first, bare)
tier-followed told s o x tier (Evicts v none victim leaves unused) brings = IsTier-left told s v tier leaves
tier-followed told s o x tier (Keeps v uses none victim leaves top is) brings = IsTier-passed_over s v tier
tier-followed told s o x tier (Rests rest) brings = IsTier-calmed s tier

-- ---- what no turn changes

pub alike-followed : (told : Told) (s : TierState) (o : Outcome) (x : Turn × TierState) → Follows told s o x → IsAlike s x.1
unfolding reserved arrived aborted committed dropped passed_over calmed
alike-followed told s o x (Reserves c enters) = record { budget = refl; width = refl; version = refl; sizes = refl; wishes = refl; base = refl; pinned = refl }
alike-followed told s o x (Gets p body none bare has is) = record { budget = refl; width = refl; version = refl; sizes = refl; wishes = refl; base = refl; pinned = refl }
alike-followed told s o x (Loses p none bare has) = record { budget = refl; width = refl; version = refl; sizes = refl; wishes = refl; base = refl; pinned = refl }
alike-followed told s o x (Fails p none bare has is) = record { budget = refl; width = refl; version = refl; sizes = refl; wishes = refl; base = refl; pinned = refl }
alike-followed told s o x (Breaks p fault none bare has is) = record { budget = refl; width = refl; version = refl; sizes = refl; wishes = refl; base = refl; pinned = refl }
alike-followed told s o x (Commits p none bare first) = record { budget = refl; width = refl; version = refl; sizes = refl; wishes = refl; base = refl; pinned = refl }
alike-followed told s o x (Evicts v none victim leaves unused) = record { budget = refl; width = refl; version = refl; sizes = refl; wishes = refl; base = refl; pinned = refl }
alike-followed told s o x (Keeps v uses none victim leaves top is) = record { budget = refl; width = refl; version = refl; sizes = refl; wishes = refl; base = refl; pinned = refl }
alike-followed told s o x (Rests rest) = record { budget = refl; width = refl; version = refl; sizes = refl; wishes = refl; base = refl; pinned = refl }

-- the journal has the turn's entry more
pub journal-followed : (told : Told) (s : TierState) (o : Outcome) (x : Turn × TierState) → Follows told s o x → x.1.journal ≡ s.journal ++ entries_of x.0
unfolding reserved arrived abort_entry aborted committed dropped passed_over calmed entries_of
journal-followed told s o x (Reserves c enters) = refl
journal-followed told s o x (Gets p body none bare has is) = refl
journal-followed told s o x (Loses p none bare has) = refl
journal-followed told s o x (Fails p none bare has is) = refl
journal-followed told s o x (Breaks p fault none bare has is) = refl
journal-followed told s o x (Commits p none bare first) = refl
journal-followed told s o x (Evicts v none victim leaves unused) = refl
journal-followed told s o x (Keeps v uses none victim leaves top is) = sym (append-nil s.journal)
journal-followed told s o x (Rests rest) = sym (append-nil s.journal)

-- ---- each body is still the file's

pub file-reserved : (body : ℕ → SeenBody) (s : TierState) (p : ℕ) → IsOfFile body s → IsOfFile body (reserved s p)
unfolding reserved
file-reserved body s p of_file = record { held = of_file.held; came = of_file.came }

pub file-arrived : (body : ℕ → SeenBody) (s : TierState) (p : ℕ) (b : SeenBody) → b ≡ body p → IsOfFile body s → IsOfFile body (arrived s p b)
unfolding arrived
file-arrived body s p b right of_file = record {
  held = of_file.held;
  came = each-set (λ q c. c ≡ body q) s.came p (Some b) of_file.came (λ c is. sym (same_Some b c is) ∙ right);
}

pub file-aborted : (body : ℕ → SeenBody) (s : TierState) (p : ℕ) (why : Abort) → IsOfFile body s → IsOfFile body (aborted s p why)
unfolding aborted
file-aborted body s p why of_file = record { held = of_file.held; came = of_file.came }

pub file-committed : (body : ℕ → SeenBody) (s : TierState) (p : ℕ) → IsOfFile body s → IsOfFile body (committed s p)
unfolding committed
file-committed body s p of_file = record {
  held = each-set (λ q c. c ≡ body q) s.held p (slice_index_or s.came p None) of_file.held (λ c is. of_file.came p c (there_is_body s.came p c is));
  came = each-set (λ q c. c ≡ body q) s.came p None of_file.came (λ c is. absurd (cc));
}

pub file-dropped : (body : ℕ → SeenBody) (s : TierState) (p : ℕ) → IsOfFile body s → IsOfFile body (dropped s p)
unfolding dropped
file-dropped body s p of_file = record {
  held = each-set (λ q c. c ≡ body q) s.held p None of_file.held (λ c is. absurd (cc));
  came = of_file.came;
}

pub file-passed_over : (body : ℕ → SeenBody) (s : TierState) (p : ℕ) → IsOfFile body s → IsOfFile body (passed_over s p)
unfolding passed_over
file-passed_over body s p of_file = record { held = of_file.held; came = of_file.came }

pub file-calmed : (body : ℕ → SeenBody) (s : TierState) → IsOfFile body s → IsOfFile body (calmed s)
unfolding calmed
file-calmed body s of_file = record { held = of_file.held; came = of_file.came }

pub file-followed : (body : ℕ → SeenBody) (told : Told) (s : TierState) (o : Outcome) (x : Turn × TierState) → IsTier s → Follows told s o x → IfGot x.0 (λ p. body_at x.1 p ≡ body p) → IsOfFile body s → IsOfFile body x.1
file-followed body told s o x tier (Reserves c enters) brings of_file = file-reserved body s c of_file
file-followed body told s o x tier (Gets p b none bare has is) brings of_file = file-arrived body s p b (sym (body_arrived s p b tier (bare_comes s.coming p bare)) ∙ brings) of_file
file-followed body told s o x tier (Loses p none bare has) brings of_file = file-aborted body s p reasons.Lost of_file
file-followed body told s o x tier (Fails p none bare has is) brings of_file = file-aborted body s p reasons.Fault of_file
file-followed body told s o x tier (Breaks p fault none bare has is) brings of_file = file-aborted body s p (reasons.Changed fault) of_file
file-followed body told s o x tier (Commits p none bare first) brings of_file = file-committed body s p of_file
file-followed body told s o x tier (Evicts v none victim leaves unused) brings of_file = file-dropped body s v of_file
file-followed body told s o x tier (Keeps v uses none victim leaves top is) brings of_file = file-passed_over body s v of_file
file-followed body told s o x tier (Rests rest) brings of_file = file-calmed body s of_file

-- ---- how a turn begins

pub begun_same : (board : Board) (s : TierState) → board.version ≡ s.version → begun board s ≡ s
unfolding begun
begun_same board s same = cond-true (eqb board.version s.version) s (renewed (ranked s board.wish) board.version) (eq-eqb board.version s.version same)

pub begun_places : (board : Board) (s : TierState) → HasSamePlaces s (begun board s)
unfolding begun ranked renewed
begun_places board s =
    cond_both (eqb board.version s.version) s (renewed (ranked s board.wish) board.version) (HasSamePlaces s)
    (λ same. record { budget = refl; width = refl; sizes = refl; base = refl; pinned = refl; held = refl; came = refl; coming = refl; journal = refl })
    (λ differs. record { budget = refl; width = refl; sizes = refl; base = refl; pinned = refl; held = refl; came = refl; coming = refl; journal = refl })

pub begun_version : (board : Board) (s : TierState) → (begun board s).version ≡ board.version
unfolding begun renewed
begun_version board s =
    cond_both (eqb board.version s.version) s (renewed (ranked s board.wish) board.version) (λ (t : TierState). t.version ≡ board.version)
    (λ same. sym (eqb-true board.version s.version same))
    (λ differs. refl)

-- a turn that has begun doesn't begin again
pub begun_twice : (board : Board) (s : TierState) → begun board (begun board s) ≡ begun board s
begun_twice board s = begun_same board (begun board s) (sym (begun_version board s))

renewed_wish : (s : TierState) (version p : ℕ) → kept_wish (renewed s version) p ≡ kept_wish s p
unfolding renewed
renewed_wish s version p = refl

renewed_ranked_count : (s : TierState) (wish : ℕ → ℕ) (version : ℕ) → count (renewed (ranked s wish) version) ≡ count s
unfolding renewed ranked
renewed_ranked_count s wish version = refl

-- once a turn has begun the kept wishes are the board's
pub begun_wishes : (board : Board) (s : TierState) → KeepsWishes board s → (p : ℕ) → p < count s → kept_wish (begun board s) p ≡ board.wish p
unfolding begun
begun_wishes board s keeps p within =
    cond_both (eqb board.version s.version) s (renewed (ranked s board.wish) board.version) (λ (t : TierState). kept_wish t p ≡ board.wish p)
    (λ same. keeps.wishes (eqb-true board.version s.version same) p within)
    (λ differs. renewed_wish (ranked s board.wish) board.version p ∙ ranked_wish s board.wish p within)

pub file-begun : (body : ℕ → SeenBody) (board : Board) (s : TierState) → IsOfFile body s → IsOfFile body (begun board s)
unfolding begun ranked renewed
file-begun body board s of_file =
    cond_both (eqb board.version s.version) s (renewed (ranked s board.wish) board.version) (IsOfFile body)
    (λ same. of_file)
    (λ differs. record { held = of_file.held; came = of_file.came })

-- ---- the turn

-- a turn of the kept wishes follows a rule
pub ranked_follows : (told : Told) (s : TierState) (answer : Turn) (after : TierState) → IsRankedTurn told s answer after → Follows told s (outcome_in answer after) (paired answer after)
ranked_follows told s answer after is = subst (Follows told s (outcome_in answer after)) (sym is) (follows told s (outcome_in answer after))

-- a turn is one of the kept wishes, once it has begun
pub turn_is_ranked : (board : Board) (told : Told) (s : TierState) (answer : Turn) (after : TierState) → IsTurn board told s answer after → IsRankedTurn told (begun board s) answer after
unfolding turn_of
turn_is_ranked board told s answer after is = is

pub turn-from_ranked : (board : Board) (told : Told) (s : TierState) (answer : Turn) (after : TierState) → IsRankedTurn told (begun board s) answer after → IsTurn board told s answer after
unfolding turn_of
turn-from_ranked board told s answer after is = is

pub turn_follows : (board : Board) (told : Told) (s : TierState) (answer : Turn) (after : TierState) → IsTurn board told s answer after → Follows told (begun board s) (outcome_in answer after) (paired answer after)
turn_follows board told s answer after is = ranked_follows told (begun board s) answer after (turn_is_ranked board told s answer after is)

pub IsTier-turned : (board : Board) (told : Told) (s : TierState) (answer : Turn) (after : TierState) → IsTier s → IsTurn board told s answer after → BringsBody s.sizes answer after → IsTier after
IsTier-turned board told s answer after tier is brings =
    tier-followed told (begun board s) (outcome_in answer after) (paired answer after) (IsTier-begun board s tier) (turn_follows board told s answer after is)
    (subst (λ (sizes : List ℕ). BringsBody sizes answer after) (sym (begun_places board s).sizes) brings)

pub setup-turned : (board : Board) (told : Told) (s : TierState) (answer : Turn) (after : TierState) → IsTurn board told s answer after → KeepsSetup s after
setup-turned board told s answer after is =
    let places = begun_places board s in
    let alike = alike-followed told (begun board s) (outcome_in answer after) (paired answer after) (turn_follows board told s answer after is) in
    record { budget = alike.budget ∙ places.budget; width = alike.width ∙ places.width; sizes = alike.sizes ∙ places.sizes; base = alike.base ∙ places.base; pinned = alike.pinned ∙ places.pinned }

pub version-turned : (board : Board) (told : Told) (s : TierState) (answer : Turn) (after : TierState) → IsTurn board told s answer after → after.version ≡ board.version
version-turned board told s answer after is =
    (alike-followed told (begun board s) (outcome_in answer after) (paired answer after) (turn_follows board told s answer after is)).version ∙ begun_version board s

pub journal-turned : (board : Board) (told : Told) (s : TierState) (answer : Turn) (after : TierState) → IsTurn board told s answer after → after.journal ≡ s.journal ++ entries_of answer
journal-turned board told s answer after is =
    journal-followed told (begun board s) (outcome_in answer after) (paired answer after) (turn_follows board told s answer after is)
    ∙ ap (λ (journal : List Turn). journal ++ entries_of answer) (begun_places board s).journal

pub file-turned : (body : ℕ → SeenBody) (board : Board) (told : Told) (s : TierState) (answer : Turn) (after : TierState) → IsTier s → IsTurn board told s answer after → IfGot answer (λ p. body_at after p ≡ body p) → IsOfFile body s → IsOfFile body after
file-turned body board told s answer after tier is brings of_file =
    file-followed body told (begun board s) (outcome_in answer after) (paired answer after) (IsTier-begun board s tier) (turn_follows board told s answer after is) brings (file-begun body board s of_file)

-- at the end of a turn the kept wishes are the board's
pub wishes-turned : (board : Board) (told : Told) (s : TierState) (answer : Turn) (after : TierState) → KeepsWishes board s → IsTurn board told s answer after → KeepsWishes board after
wishes-turned board told s answer after keeps is =
    let alike = alike-followed told (begun board s) (outcome_in answer after) (paired answer after) (turn_follows board told s answer after is) in
    let places = begun_places board s in
    record {
      wishes = λ same p within. ap (λ (wishes : List ℕ). slice_index wishes p) alike.wishes
          ∙ begun_wishes board s keeps p (subst (λ (n : ℕ). p < n) (ap (λ (sizes : List ℕ). length sizes) (alike.sizes ∙ places.sizes)) within);
    }
