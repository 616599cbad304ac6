-- What holds of each body of a tier, holds after a turn if it holds of the body that came.
use Rattle.std.proofs.Common.{◌≡◌, ℕ, List, Option, Some, None, refl, sym, subst, ◌∙◌}
use Rattle.std.specs.Prelude.{slice_get, slice_index_or}
use Rattle.std.proofs.lemmas.Option.{same_Some}
use Rattle.file_model.specs.Lists.{SeenBody}
use Rattle.tier_model.specs.declared.turns.Abort.{Abort}
use Rattle.tier_model.specs.declared.turns.Abort.TheVariants as reasons
use Rattle.tier_model.specs.declared.turns.Turn.{Turn}
use Rattle.tier_model.specs.Tiers.{TierState, body_at, IsTier}
use Rattle.tier_model.specs.Changes.{reserved, arrived, aborted, committed, dropped, passed_over, calmed}
use Rattle.tier_model.specs.Choices.{Told}
use Rattle.tier_model.specs.Answers.{IfGot}
use Rattle.tier_model.specs.Turns.{Outcome, Board, begun, paired, outcome_in, IsTurn}
use Rattle.tier_laws.specs.ComingLaws.{bare_comes}
use Rattle.tier_laws.specs.BodyLaws.{each-set, there_is_body}
use Rattle.tier_laws.specs.TierLaws.{IsTier-begun}
use Rattle.tier_laws.specs.TurnLaws.{body_arrived, begun_places, turn_follows}
use Rattle.tier_laws.specs.Follows.{Follows, Reserves, Gets, Loses, Fails, Breaks, Commits, Evicts, Keeps, Rests}
use Rattle.cache_chain.specs.ChainStates.{HasBodies}

bodies-reserved : (P : ℕ → SeenBody → Type 0) (s : TierState) (p : ℕ) → HasBodies P s → HasBodies P (reserved s p)
unfolding reserved
bodies-reserved P s p has = record { held = has.held; came = has.came }

bodies-arrived : (P : ℕ → SeenBody → Type 0) (s : TierState) (p : ℕ) (b : SeenBody) → P p b → HasBodies P s → HasBodies P (arrived s p b)
unfolding arrived
bodies-arrived P s p b here has = record {
  held = has.held;
  came = each-set P s.came p (Some b) has.came (λ c is. subst (P p) (same_Some b c is) here);
}

bodies-aborted : (P : ℕ → SeenBody → Type 0) (s : TierState) (p : ℕ) (why : Abort) → HasBodies P s → HasBodies P (aborted s p why)
unfolding aborted
bodies-aborted P s p why has = record { held = has.held; came = has.came }

bodies-committed : (P : ℕ → SeenBody → Type 0) (s : TierState) (p : ℕ) → HasBodies P s → HasBodies P (committed s p)
unfolding committed
bodies-committed P s p has = record {
  held = each-set P s.held p (slice_index_or s.came p None) has.held (λ c is. has.came p c (there_is_body s.came p c is));
  came = each-set P s.came p None has.came (λ c is. absurd (cc));
}

bodies-dropped : (P : ℕ → SeenBody → Type 0) (s : TierState) (p : ℕ) → HasBodies P s → HasBodies P (dropped s p)
unfolding dropped
bodies-dropped P s p has = record {
  held = each-set P s.held p None has.held (λ c is. absurd (cc));
  came = has.came;
}

bodies-passed_over : (P : ℕ → SeenBody → Type 0) (s : TierState) (p : ℕ) → HasBodies P s → HasBodies P (passed_over s p)
unfolding passed_over
bodies-passed_over P s p has = record { held = has.held; came = has.came }

bodies-calmed : (P : ℕ → SeenBody → Type 0) (s : TierState) → HasBodies P s → HasBodies P (calmed s)
unfolding calmed
bodies-calmed P s has = record { held = has.held; came = has.came }

bodies-followed : (P : ℕ → SeenBody → Type 0) (told : Told) (s : TierState) (o : Outcome) (x : Turn × TierState) → IsTier s → Follows told s o x → IfGot x.0 (λ p. P p (body_at x.1 p)) → HasBodies P s → HasBodies P x.1
bodies-followed P told s o x tier (Reserves c enters) here has = bodies-reserved P s c has
bodies-followed P told s o x tier (Gets p b none bare there is) here has = bodies-arrived P s p b (subst (P p) (body_arrived s p b tier (bare_comes s.coming p bare)) here) has
bodies-followed P told s o x tier (Loses p none bare there) here has = bodies-aborted P s p reasons.Lost has
bodies-followed P told s o x tier (Fails p none bare there is) here has = bodies-aborted P s p reasons.Fault has
bodies-followed P told s o x tier (Breaks p fault none bare there is) here has = bodies-aborted P s p (reasons.Changed fault) has
bodies-followed P told s o x tier (Commits p none bare first) here has = bodies-committed P s p has
bodies-followed P told s o x tier (Evicts v none victim leaves unused) here has = bodies-dropped P s v has
bodies-followed P told s o x tier (Keeps v uses none victim leaves top is) here has = bodies-passed_over P s v has
bodies-followed P told s o x tier (Rests rest) here has = bodies-calmed P s has

pub bodies-begun : (P : ℕ → SeenBody → Type 0) (board : Board) (s : TierState) → HasBodies P s → HasBodies P (begun board s)
bodies-begun P board s has =
    let same = begun_places board s in
    record {
      held = λ p b at. has.held p b (sym (subst (λ (bs : List (Option SeenBody)). slice_get (begun board s).held p ≡ slice_get bs p) same.held refl) ∙ at);
      came = λ p b at. has.came p b (sym (subst (λ (bs : List (Option SeenBody)). slice_get (begun board s).came p ≡ slice_get bs p) same.came refl) ∙ at);
    }

pub bodies-turned : (P : ℕ → SeenBody → Type 0) (board : Board) (told : Told) (s : TierState) (answer : Turn) (after : TierState) → IsTier s → IsTurn board told s answer after → IfGot answer (λ p. P p (body_at after p)) → HasBodies P s → HasBodies P after
bodies-turned P board told s answer after tier is here has =
    bodies-followed P told (begun board s) (outcome_in answer after) (paired answer after) (IsTier-begun board s tier) (turn_follows board told s answer after is) here (bodies-begun P board s has)
