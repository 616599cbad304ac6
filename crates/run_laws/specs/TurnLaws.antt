-- A turn of a tier keeps a state sound.
use Rattle.std.proofs.Common.{◌≡◌, ◌≢◌, ◌⊎◌, ℕ, zero, suc, ◌<◌, Bool, true, false, List, length, Option, Some, None, refl, sym, ap, subst, ◌∙◌, inl, inr}
use Rattle.std.specs.Prelude.{slice_get, slice_set, MatchOption}
use Rattle.std.specs.Option.{option_map_or}
use Rattle.std.proofs.lemmas.Bool.{cases_eq, or_left}
use Rattle.std.proofs.lemmas.List.{length-set}
use Rattle.file_model.specs.Lists.{SeenBody}
use Rattle.file_model.specs.Tries.{is_odd}
use Rattle.session_model.specs.Sessions.{SessionState, locks, is_in_flight, uses}
use Rattle.tier_model.specs.declared.turns.Turn.{Turn}
use Rattle.tier_model.specs.Places.{is_marked}
use Rattle.tier_model.specs.Tiers.{TierState, count, is_held, body_at, IsBodyFor, IsTier}
use Rattle.tier_model.specs.Choices.{Told}
use Rattle.tier_model.specs.Answers.{IfGot}
use Rattle.tier_model.specs.Turns.{Fetched, Came, Outcome, Board, paired, fetched_in, uses_in, outcome_in, leaving, begun, turn_of, IsTurn}
use Rattle.tier_model.specs.Ties.{epochs_after, IsTied}
use Rattle.tier_model.specs.Chains.{has_below, is_top, told_at, epochs_then}
use Rattle.tier_model.specs.Settling.{TurnsAt}
use Rattle.tier_laws.specs.Follows.{Leaves, Follows, Reserves, Gets, Loses, Fails, Breaks, Commits, Evicts, Keeps, Rests, follows, followed-is}
use Rattle.tier_laws.specs.ComingLaws.{bare_comes, first_comes}
use Rattle.tier_laws.specs.BodyLaws.{get-set_same, get-set_other, away_not_there}
use Rattle.tier_laws.specs.TierLaws.{IsTier-begun}
use Rattle.tier_laws.specs.TurnLaws.{body_arrived, begun_places, turn-from_ranked, IsTier-turned, setup-turned}
use Rattle.tier_laws.specs.TieLaws.{risen_other, tied-begun}
use Rattle.tier_laws.specs.ChainLaws.{tied_turned}
use Rattle.token_words.specs.Sessions.{IsSession, session_count, none-session_count}
use Rattle.run_model.specs.Worlds.{World, is_base, IsFileBody}
use Rattle.run_model.specs.States.{State, board_of, seat_uses, moved}
use Rattle.run_model.specs.Turning.{GivesHeld, GivesStored, GivesBelow, IfFetched, uses_of, found_by, TurnsTo}
use Rattle.run_laws.specs.Sound.{IsTierOf, IsSound, many_patches, base_within, locked_within}
use Rattle.run_laws.specs.BodyLaws.{bodies-turned}

-- ---- what a turn found is read off its answer and the tier behind it

own_followed : (told : Told) (s : TierState) (o : Outcome) (x : Turn × TierState) → IsTier s → Follows told s o x → Follows told s (outcome_in x.0 x.1) x
unfolding fetched_in uses_in
own_followed told s o x tier (Reserves c enters) = Reserves c enters
own_followed told s o x tier (Gets p body none bare has is) = Gets p body none bare has (ap Came (body_arrived s p body tier (bare_comes s.coming p bare)))
own_followed told s o x tier (Loses p none bare has) = Loses p none bare has
own_followed told s o x tier (Fails p none bare has is) = Fails p none bare has refl
own_followed told s o x tier (Breaks p fault none bare has is) = Breaks p fault none bare has refl
own_followed told s o x tier (Commits p none bare first) = Commits p none bare first
own_followed told s o x tier (Evicts v none victim leaves unused) = Evicts v none victim leaves (λ _. refl)
own_followed told s o x tier (Keeps v uses none victim leaves top is) = Keeps v uses none victim leaves top refl
own_followed told s o x tier (Rests rest) = Rests rest

turn_rule : (board : Board) (told : Told) (s : TierState) (o : Outcome) (x : Turn × TierState) → x ≡ turn_of board told s o → Follows told (begun board s) o x
unfolding turn_of
turn_rule board told s o x is = subst (Follows told (begun board s) o) (sym is) (follows told (begun board s) o)

pub own_turn : (board : Board) (told : Told) (s : TierState) (o : Outcome) (answer : Turn) (after : TierState) → IsTier s → paired answer after ≡ turn_of board told s o → IsTurn board told s answer after
own_turn board told s o answer after tier is =
    turn-from_ranked board told s answer after
    (followed-is told (begun board s) (outcome_in answer after) (paired answer after)
    (own_followed told (begun board s) o (paired answer after) (IsTier-begun board s tier) (turn_rule board told s o (paired answer after) is)))

-- ---- the body that comes

got_followed : (P : ℕ → SeenBody → Type 0) (Q : ℕ → Fetched → Type 0) (told : Told) (s : TierState) (o : Outcome) (x : Turn × TierState) → IsTier s → Follows told s o x → IfFetched x.0 (λ p. Q p o.fetched) → ((p : ℕ) (body : SeenBody) → told.has p ≡ true → Q p (Came body) → P p body) → IfGot x.0 (λ p. P p (body_at x.1 p))
got_followed P Q told s o x tier (Gets p body none bare has is) gives right = subst (P p) (sym (body_arrived s p body tier (bare_comes s.coming p bare))) (right p body has (subst (Q p) is gives))
got_followed P Q told s o x tier (Reserves c enters) gives right = tt
got_followed P Q told s o x tier (Loses p none bare has) gives right = tt
got_followed P Q told s o x tier (Fails p none bare has is) gives right = tt
got_followed P Q told s o x tier (Breaks p fault none bare has is) gives right = tt
got_followed P Q told s o x tier (Commits p none bare first) gives right = tt
got_followed P Q told s o x tier (Evicts v none victim leaves unused) gives right = tt
got_followed P Q told s o x tier (Keeps v uses none victim leaves top is) gives right = tt
got_followed P Q told s o x tier (Rests rest) gives right = tt

-- the tier below gives a body of the file, and so does the store
file_from_below : (w : World) (a : State) (k p : ℕ) (body : SeenBody) → IsSound w a → has_below a.chain.tiers k p ≡ true → GivesBelow w a.chain.tiers k p (Came body) → IsFileBody w p body
unfolding has_below
file_from_below w a k p body sound has given = by (slice_get a.chain.tiers (suc k)) refl has given
  where
    by : (below : Option TierState) → slice_get a.chain.tiers (suc k) ≡ below → option_map_or (λ (t : TierState). is_held t p) below true ≡ true → MatchOption below (GivesStored w p (Came body)) (λ (t : TierState). is_held t p ≡ true → GivesHeld t p (Came body)) → IsFileBody w p body
    by None at has given = given
    by (Some t) at has given = (sound.tiers (suc k) t at).bodies.held p body (given has)

module _ (w : World) (a b : State) (k : ℕ) (answer : Turn) (sound : IsSound w a) (turn : TurnsTo w k a answer b) where
  abbrev was_tier : IsTierOf w k turn.before
  was_tier = sound.tiers k turn.before turn.was

  abbrev now : TierState
  now = begun (board_of w a) turn.before

  now_tier : IsTier now
  now_tier = IsTier-begun (board_of w a) turn.before was_tier.tier

  abbrev found : Outcome
  found = found_by w a k turn.before turn.fetched

  rule : Follows (told_at a.chain k) now found (paired answer turn.after)
  rule = turn_rule (board_of w a) (told_at a.chain k) turn.before found (paired answer turn.after) turn.turns

  gives_found : IfFetched answer (λ p. GivesBelow w a.chain.tiers k p found.fetched)
  unfolding found_by
  gives_found = turn.gives

  pub got_file_body : IfGot answer (λ p. IsFileBody w p (body_at turn.after p))
  got_file_body = got_followed (IsFileBody w) (GivesBelow w a.chain.tiers k) (told_at a.chain k) now found (paired answer turn.after) now_tier rule gives_found
      (λ p body has given. file_from_below w a k p body sound has given)

  got_right_body : IfGot answer (λ p. IsBodyFor turn.before.sizes p (body_at turn.after p))
  got_right_body =
      got_followed (IsBodyFor turn.before.sizes) (GivesBelow w a.chain.tiers k) (told_at a.chain k) now found (paired answer turn.after) now_tier rule gives_found
      (λ p body has given. subst (λ (sizes : List ℕ). IsBodyFor sizes p body) (sym was_tier.set_up.made.sizes) (file_from_below w a k p body sound has given).of_patch)

  pub is_turn : IsTurn (board_of w a) (told_at a.chain k) turn.before answer turn.after
  is_turn = own_turn (board_of w a) (told_at a.chain k) turn.before found answer turn.after was_tier.tier turn.turns

  -- the chain makes the turn
  pub moved_chain : TurnsAt (board_of w a) k answer a.chain (moved a k answer turn.after).chain
  unfolding moved
  moved_chain = record { before = turn.before; after = turn.after; was = turn.was; is = refl; turns = is_turn; body = got_right_body; epochs = λ p. refl }

  pub after_tier : IsTierOf w k turn.after
  after_tier =
      let same = setup-turned (board_of w a) (told_at a.chain k) turn.before answer turn.after is_turn in
      record {
        tier = IsTier-turned (board_of w a) (told_at a.chain k) turn.before answer turn.after was_tier.tier is_turn got_right_body;
        set_up = record {
          made = record { sizes = same.sizes ∙ was_tier.set_up.made.sizes; base = same.base ∙ was_tier.set_up.made.base };
          budget = was_tier.set_up.budget ∙ ap Some (sym same.budget);
          width = same.width ∙ was_tier.set_up.width;
        };
        bodies = bodies-turned w (board_of w a) (told_at a.chain k) turn.before answer turn.after was_tier.tier is_turn got_file_body was_tier.bodies;
      }

-- ---- what is odd stays odd, unless it leaves

odd_followed : (told : Told) (s : TierState) (o : Outcome) (x : Turn × TierState) (pinned : ℕ → Bool) (p : ℕ) → IsTier s → Follows told s o x → IsTied s told.epochs pinned → p < count s → is_odd (told.epochs p) ≡ true
    → ((v : ℕ) → leaving told s ≡ Some v → Leaves told s v → (told.top ≡ true → o.uses ≡ 0) → p ≢ v) → is_odd (epochs_after x.0 told.epochs p) ≡ true
unfolding epochs_after
odd_followed told s o x pinned p tier (Commits q none bare first) tied within odd stays =
    ap is_odd (risen_other q told.epochs p (λ same.
    let away = subst (λ (n : ℕ). is_held s n ≡ false) (sym same) (away_not_there s.held q (tier.coming.away q (first_comes s.coming q first))) in
    let held = tied.held p within in cc)) ∙ odd
odd_followed told s o x pinned p tier (Evicts v none victim leaves unused) tied within odd stays = ap is_odd (risen_other v told.epochs p (stays v victim leaves unused)) ∙ odd
odd_followed told s o x pinned p tier (Reserves c enters) tied within odd stays = odd
odd_followed told s o x pinned p tier (Gets q body none bare has is) tied within odd stays = odd
odd_followed told s o x pinned p tier (Loses q none bare has) tied within odd stays = odd
odd_followed told s o x pinned p tier (Fails q none bare has is) tied within odd stays = odd
odd_followed told s o x pinned p tier (Breaks q fault none bare has is) tied within odd stays = odd
odd_followed told s o x pinned p tier (Keeps v uses none victim leaves top is) tied within odd stays = odd
odd_followed told s o x pinned p tier (Rests rest) tied within odd stays = odd

-- the patch is a base patch, or a session uses it
abbrev MayNotLeave : World → State → ℕ → Type 0
MayNotLeave w a p = (is_base w p ≡ true) ⊎ ((i : ℕ) × (number : IsSession i) × (a.users i p ≡ true))

-- so it isn't the patch that leaves
not_leaving : (w : World) (a : State) (t : TierState) (fetched : Fetched) (p v : ℕ) → IsTied (begun (board_of w a) t) a.chain.epochs (is_base w) → p < count (begun (board_of w a) t) → MayNotLeave w a p
    → leaving (told_at a.chain 0) (begun (board_of w a) t) ≡ Some v → Leaves (told_at a.chain 0) (begun (board_of w a) t) v → (found_by w a 0 t fetched).uses ≡ 0 → p ≢ v
unfolding found_by
not_leaving w a t fetched p v tied within (inl base) victim leaves unused same =
    let pinned = tied.pins p within in
    let free = subst (λ (n : ℕ). is_marked (begun (board_of w a) t).pinned n ≡ false) (sym same) leaves.is_victim.may.not_pinned in
    cc
not_leaving w a t fetched p v tied within (inr used) victim leaves unused same =
    let none : session_count (λ i. a.users i v) ≡ 0 = ap (uses_of a.users) (sym victim) ∙ unused in
    let free = none-session_count (λ i. a.users i v) none used.0 used.1 in
    let uses_it = subst (λ (n : ℕ). a.users used.0 n ≡ true) same used.2 in
    cc

top_stays_odd : (w : World) (a b : State) (answer : Turn) → IsSound w a → (turn : TurnsTo w 0 a answer b) → (p : ℕ) → p < count turn.before → is_odd (a.chain.epochs p) ≡ true → MayNotLeave w a p → is_odd (epochs_after answer a.chain.epochs p) ≡ true
unfolding is_top
top_stays_odd w a b answer sound turn p within odd stays =
    let now = begun (board_of w a) turn.before in
    let tied = tied-begun (board_of w a) turn.before a.chain.epochs (is_base w) (sound.tied.top turn.before turn.was) in
    let counted = subst (λ (n : ℕ). p < n) (ap length (sym (begun_places (board_of w a) turn.before).sizes)) within in
    odd_followed (told_at a.chain 0) now (found_by w a 0 turn.before turn.fetched) (paired answer turn.after) (is_base w) p
    (IsTier-begun (board_of w a) turn.before (sound.tiers 0 turn.before turn.was).tier)
    (turn_rule (board_of w a) (told_at a.chain 0) turn.before (found_by w a 0 turn.before turn.fetched) (paired answer turn.after) turn.turns)
    tied counted odd
    (λ v victim leaves unused. not_leaving w a turn.before turn.fetched p v tied counted stays victim leaves (unused refl))

stays_odd : (w : World) (a b : State) (k : ℕ) (answer : Turn) → IsSound w a → (turn : TurnsTo w k a answer b) → (p : ℕ) → p < count turn.before → is_odd (a.chain.epochs p) ≡ true → MayNotLeave w a p → is_odd (epochs_then k answer a.chain.epochs p) ≡ true
unfolding epochs_then
stays_odd w a b zero answer sound turn p within odd stays = top_stays_odd w a b answer sound turn p within odd stays
stays_odd w a b (suc k) answer sound turn p within odd stays = odd

-- ---- a turn keeps a state sound

-- what holds of each tier, holds still after one is changed of which it holds
pub each_set_tier : (P : ℕ → TierState → Type 0) (tiers : List TierState) (k : ℕ) (after : TierState) → ((j : ℕ) (t : TierState) → slice_get tiers j ≡ Some t → P j t) → P k after → (j : ℕ) (t : TierState) → slice_get (slice_set tiers k after) j ≡ Some t → P j t
each_set_tier P tiers k after each here j t at =
    elim (cases_eq j k) [
      | inl same ↦ subst (λ (n : ℕ). P n t) (sym same) (subst (P k) (get-set_same tiers k after t (subst (λ (n : ℕ). slice_get (slice_set tiers k after) n ≡ Some t) same at)) here)
      | inr ne ↦ each j t (sym (get-set_other tiers k j after ne) ∙ at)
    ]

uses_locked : (w : World) (a : State) (i p : ℕ) (s : SessionState) → IsSound w a → a.sessions i ≡ Some s → locks s p ≡ true → a.users i p ≡ true
uses_locked w a i p s sound at locked =
    sound.sets i p ∙ ap (λ (o : Option SessionState). seat_uses o p) at ∙ or_left (locks s p) (is_in_flight s.flight p) locked

moved_sound : (w : World) (a b : State) (k : ℕ) (answer : Turn) (sound : IsSound w a) (turn : TurnsTo w k a answer b) → IsSound w (moved a k answer turn.after)
unfolding moved
moved_sound w a b k answer sound turn =
    let many = many_patches w k turn.before (sound.tiers k turn.before turn.was).set_up in
    let same = setup-turned (board_of w a) (told_at a.chain k) turn.before answer turn.after (is_turn w a b k answer sound turn) in
    record {
      many = length-set a.chain.tiers k turn.after ∙ sound.many;
      tiers = each_set_tier (IsTierOf w) a.chain.tiers k turn.after sound.tiers (after_tier w a b k answer sound turn);
      tied = tied_turned (board_of w a) k answer a.chain (moved a k answer turn.after).chain (is_base w) (record { each = λ j t at. (sound.tiers j t at).tier }) (moved_chain w a b k answer sound turn) sound.tied;
      no_pins = λ j t p at. each_set_tier (λ i s. i ≡ suc j → is_marked s.pinned p ≡ false) a.chain.tiers k turn.after
          (λ i s here lower. sound.no_pins j s p (subst (λ (n : ℕ). slice_get a.chain.tiers n ≡ Some s) lower here))
          (λ lower. ap (λ (marks : List Bool). is_marked marks p) same.pinned ∙ sound.no_pins j turn.before p (subst (λ (n : ℕ). slice_get a.chain.tiers n ≡ Some turn.before) lower turn.was))
          (suc j) t at refl;
      base_odd = λ p base. stays_odd w a b k answer sound turn p (subst (λ (n : ℕ). p < n) (sym many) (base_within w p base)) (sound.base_odd p base) (inl base);
      seats = λ i s at. let seat = sound.seats i s at in record {
        number = seat.number;
        is = seat.is;
        locked = λ p locked.
            stays_odd w a b k answer sound turn p (subst (λ (n : ℕ). p < n) (sym many) (locked_within w s p seat.is locked)) (seat.locked p locked)
            (inr (i, seat.number, uses_locked w a i p s sound at locked));
      };
      sets = sound.sets;
    }

pub turned_sound : (w : World) (a b : State) (k : ℕ) (answer : Turn) → IsSound w a → TurnsTo w k a answer b → IsSound w b
turned_sound w a b k answer sound turn = subst (IsSound w) (sym turn.is) (moved_sound w a b k answer sound turn)
