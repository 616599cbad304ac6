-- From what a turn of a tier promises to what it does in a state.
use Rattle.std.proofs.Common.{◌≡◌, ℕ, zero, suc, Bool, true, List, Option, Some, None, refl, ap, ◌∙◌}
use Rattle.std.specs.Prelude.{slice_get}
use Rattle.tier_model.specs.declared.turns.Turn.{Turn}
use Rattle.tier_model.specs.declared.turns.Turn.TheVariants.{Reserve, Evict, Kept, Got, Lost, Fault, Changed, Commit, Idle}
use Rattle.tier_model.specs.Tiers.{TierState, body_at}
use Rattle.tier_model.specs.Choices.{Told}
use Rattle.tier_model.specs.Answers.{IfGot, IfFault, IfChanged, IfEvict, IfKept}
use Rattle.tier_model.specs.Turns.{Came, Outcome, paired, fetched_in, outcome_in, leaving, begun, turn_of, IsTurn}
use Rattle.tier_model.specs.Chains.{is_top, told_at}
use Rattle.tier_laws.specs.Follows.{Follows, Reserves, Gets, Loses, Fails, Breaks, Commits, Evicts, Keeps, Rests, followed-is}
use Rattle.tier_laws.specs.TurnLaws.{turn_follows}
use Rattle.token_words.specs.Sessions.{session_count}
use Rattle.run_model.specs.Worlds.{World}
use Rattle.run_model.specs.States.{State, board_of, moved}
use Rattle.run_model.specs.Turning.{GivesBelow, IfFetched, uses_of, found_by, TurnsTo}

-- what the answer of a turn of tier k says of what lies outside the tier
pub record IsAnswer (w : World) (a : State) (k : ℕ) (answer : Turn) (after : TierState) : Type 0 where
  -- the body that came is given by what lies below
  pub body : IfGot answer (λ p. GivesBelow w a.chain.tiers k p (Came (body_at after p)))
  -- a patch that left the top tier had no use, and one that was kept there had as many as were found
  pub free : k ≡ 0 → IfEvict answer (λ v. session_count (λ i. a.users i v) ≡ 0)
  pub used : k ≡ 0 → IfKept answer (λ v uses. session_count (λ i. a.users i v) ≡ uses)
  -- only the store fails, or has bytes that break the rule of bodies
  pub fault : IfFault answer (λ p. slice_get a.chain.tiers (suc k) ≡ None)
  pub changed : IfChanged answer (λ p fault. slice_get a.chain.tiers (suc k) ≡ None)

-- a turn that finds as much follows the same rule
found_followed : (told : Told) (s : TierState) (o : Outcome) (x : Turn × TierState) → Follows told s (outcome_in x.0 x.1) x → o.fetched ≡ fetched_in x.0 x.1
    → (told.top ≡ true → IfEvict x.0 (λ v. leaving told s ≡ Some v → o.uses ≡ 0)) → (told.top ≡ true → IfKept x.0 (λ v uses. leaving told s ≡ Some v → o.uses ≡ uses)) → Follows told s o x
found_followed told s o x (Reserves c enters) same free used = Reserves c enters
found_followed told s o x (Gets p body none bare has is) same free used = Gets p body none bare has (same ∙ is)
found_followed told s o x (Loses p none bare has) same free used = Loses p none bare has
found_followed told s o x (Fails p none bare has is) same free used = Fails p none bare has (same ∙ is)
found_followed told s o x (Breaks p fault none bare has is) same free used = Breaks p fault none bare has (same ∙ is)
found_followed told s o x (Commits p none bare first) same free used = Commits p none bare first
found_followed told s o x (Evicts v none victim leaves unused) same free used = Evicts v none victim leaves (λ top. free top victim)
found_followed told s o x (Keeps v uses none victim leaves top is) same free used = Keeps v uses none victim leaves top (used top victim)
found_followed told s o x (Rests rest) same free used = Rests rest

free_found : (users : ℕ → ℕ → Bool) (victim : Option ℕ) (answer : Turn) → IfEvict answer (λ v. session_count (λ i. users i v) ≡ 0) → IfEvict answer (λ v. victim ≡ Some v → uses_of users victim ≡ 0)
free_found users victim (Evict v) free = λ is. ap (uses_of users) is ∙ free
free_found users victim (Reserve p) free = tt
free_found users victim (Kept p uses) free = tt
free_found users victim (Got p) free = tt
free_found users victim (Lost p) free = tt
free_found users victim (Fault p) free = tt
free_found users victim (Changed p fault) free = tt
free_found users victim (Commit p) free = tt
free_found users victim Idle free = tt

used_found : (users : ℕ → ℕ → Bool) (victim : Option ℕ) (answer : Turn) → IfKept answer (λ v uses. session_count (λ i. users i v) ≡ uses) → IfKept answer (λ v uses. victim ≡ Some v → uses_of users victim ≡ uses)
used_found users victim (Kept v uses) used = λ is. ap (uses_of users) is ∙ used
used_found users victim (Evict p) used = tt
used_found users victim (Reserve p) used = tt
used_found users victim (Got p) used = tt
used_found users victim (Lost p) used = tt
used_found users victim (Fault p) used = tt
used_found users victim (Changed p fault) used = tt
used_found users victim (Commit p) used = tt
used_found users victim Idle used = tt

top_is_zero : (k : ℕ) → is_top k ≡ true → k ≡ 0
unfolding is_top
top_is_zero zero is = refl
top_is_zero (suc k) is = absurd (cc)

gives_fetched : (w : World) (tiers : List TierState) (k : ℕ) (answer : Turn) (after : TierState) → IfGot answer (λ p. GivesBelow w tiers k p (Came (body_at after p))) → IfFault answer (λ p. slice_get tiers (suc k) ≡ None) → IfChanged answer (λ p fault. slice_get tiers (suc k) ≡ None)
    → IfFetched answer (λ p. GivesBelow w tiers k p (fetched_in answer after))
unfolding fetched_in
gives_fetched w tiers k (Got p) after body none_below broken = body
gives_fetched w tiers k (Fault p) after body none_below broken = rw none_below tt
gives_fetched w tiers k (Changed p fault) after body none_below broken = rw broken tt
gives_fetched w tiers k (Reserve p) after body none_below broken = tt
gives_fetched w tiers k (Evict p) after body none_below broken = tt
gives_fetched w tiers k (Kept p uses) after body none_below broken = tt
gives_fetched w tiers k (Lost p) after body none_below broken = tt
gives_fetched w tiers k (Commit p) after body none_below broken = tt
gives_fetched w tiers k Idle after body none_below broken = tt

found_turn : (w : World) (a : State) (k : ℕ) (before : TierState) (answer : Turn) (after : TierState) → IsAnswer w a k answer after → IsTurn (board_of w a) (told_at a.chain k) before answer after
    → paired answer after ≡ turn_of (board_of w a) (told_at a.chain k) before (found_by w a k before (fetched_in answer after))
unfolding turn_of found_by
found_turn w a k before answer after is turns =
    let told = told_at a.chain k in
    let now = begun (board_of w a) before in
    let victim = leaving told now in
    let o = found_by w a k before (fetched_in answer after) in
    followed-is told now o (paired answer after)
    (found_followed told now o (paired answer after) (turn_follows (board_of w a) told before answer after turns) refl
    (λ top. free_found a.users victim answer (is.free (top_is_zero k top)))
    (λ top. used_found a.users victim answer (is.used (top_is_zero k top))))

-- the tier makes the turn in the state
pub turns_to : (w : World) (a b : State) (k : ℕ) (before : TierState) (answer : Turn) (after : TierState) → slice_get a.chain.tiers k ≡ Some before → IsTurn (board_of w a) (told_at a.chain k) before answer after → IsAnswer w a k answer after → b ≡ moved a k answer after → TurnsTo w k a answer b
turns_to w a b k before answer after was turns is same = record {
  before = before;
  was = was;
  fetched = fetched_in answer after;
  gives = gives_fetched w a.chain.tiers k answer after is.body is.fault is.changed;
  after = after;
  turns = found_turn w a k before answer after is turns;
  is = same;
}
