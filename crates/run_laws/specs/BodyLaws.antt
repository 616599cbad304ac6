-- A turn leaves bodies of the file where the body that came is the file's.
use Rattle.std.proofs.Common.{ℕ, List, Option, Some, None, sym, ap, subst, ◌∙◌}
use Rattle.std.specs.Prelude.{slice_get, slice_index_or}
use Rattle.std.proofs.lemmas.Option.{same_Some}
use Rattle.file_model.specs.Lists.{SeenBody}
use Rattle.tier_model.specs.declared.turns.Abort.{Abort}
use Rattle.tier_model.specs.declared.turns.Abort.TheVariants as reasons
use Rattle.tier_model.specs.declared.turns.Turn.{Turn}
use Rattle.tier_model.specs.Tiers.{TierState, body_at, IsTier}
use Rattle.tier_model.specs.Changes.{reserved, arrived, aborted, committed, dropped, passed_over, calmed}
use Rattle.tier_model.specs.Choices.{Told}
use Rattle.tier_model.specs.Answers.{IfGot}
use Rattle.tier_model.specs.Turns.{Outcome, Board, begun, paired, outcome_in, IsTurn}
use Rattle.tier_laws.specs.ComingLaws.{bare_comes}
use Rattle.tier_laws.specs.BodyLaws.{each-set, there_is_body}
use Rattle.tier_laws.specs.TierLaws.{IsTier-begun}
use Rattle.tier_laws.specs.TurnLaws.{body_arrived, begun_places, turn_follows}
use Rattle.tier_laws.specs.Follows.{Follows, Reserves, Gets, Loses, Fails, Breaks, Commits, Evicts, Keeps, Rests}
use Rattle.run_model.specs.Worlds.{World, IsFileBody, HasFileBodies}

module _ (w : World) where
  bodies-reserved : (s : TierState) (p : ℕ) → HasFileBodies w s → HasFileBodies w (reserved s p)
  unfolding reserved
  bodies-reserved s p has = record { held = has.held; came = has.came }

  bodies-arrived : (s : TierState) (p : ℕ) (b : SeenBody) → IsFileBody w p b → HasFileBodies w s → HasFileBodies w (arrived s p b)
  unfolding arrived
  bodies-arrived s p b here has = record {
    held = has.held;
    came = each-set (IsFileBody w) s.came p (Some b) has.came (λ c is. subst (IsFileBody w p) (same_Some b c is) here);
  }

  bodies-aborted : (s : TierState) (p : ℕ) (why : Abort) → HasFileBodies w s → HasFileBodies w (aborted s p why)
  unfolding aborted
  bodies-aborted s p why has = record { held = has.held; came = has.came }

  bodies-committed : (s : TierState) (p : ℕ) → HasFileBodies w s → HasFileBodies w (committed s p)
  unfolding committed
  bodies-committed s p has = record {
    held = each-set (IsFileBody w) s.held p (slice_index_or s.came p None) has.held (λ c is. has.came p c (there_is_body s.came p c is));
    came = each-set (IsFileBody w) s.came p None has.came (λ c is. absurd (cc));
  }

  bodies-dropped : (s : TierState) (p : ℕ) → HasFileBodies w s → HasFileBodies w (dropped s p)
  unfolding dropped
  bodies-dropped s p has = record {
    held = each-set (IsFileBody w) s.held p None has.held (λ c is. absurd (cc));
    came = has.came;
  }

  bodies-passed_over : (s : TierState) (p : ℕ) → HasFileBodies w s → HasFileBodies w (passed_over s p)
  unfolding passed_over
  bodies-passed_over s p has = record { held = has.held; came = has.came }

  bodies-calmed : (s : TierState) → HasFileBodies w s → HasFileBodies w (calmed s)
  unfolding calmed
  bodies-calmed s has = record { held = has.held; came = has.came }

  bodies-followed : (told : Told) (s : TierState) (o : Outcome) (x : Turn × TierState) → IsTier s → Follows told s o x → IfGot x.0 (λ p. IsFileBody w p (body_at x.1 p)) → HasFileBodies w s → HasFileBodies w x.1
  bodies-followed told s o x tier (Reserves c enters) here has = bodies-reserved s c has
  bodies-followed told s o x tier (Gets p b none bare there is) here has = bodies-arrived s p b (subst (IsFileBody w p) (body_arrived s p b tier (bare_comes s.coming p bare)) here) has
  bodies-followed told s o x tier (Loses p none bare there) here has = bodies-aborted s p reasons.Lost has
  bodies-followed told s o x tier (Fails p none bare there is) here has = bodies-aborted s p reasons.Fault has
  bodies-followed told s o x tier (Breaks p fault none bare there is) here has = bodies-aborted s p (reasons.Changed fault) has
  bodies-followed told s o x tier (Commits p none bare first) here has = bodies-committed s p has
  bodies-followed told s o x tier (Evicts v none victim leaves unused) here has = bodies-dropped s v has
  bodies-followed told s o x tier (Keeps v uses none victim leaves top is) here has = bodies-passed_over s v has
  bodies-followed told s o x tier (Rests rest) here has = bodies-calmed s has

  pub bodies-begun : (board : Board) (s : TierState) → HasFileBodies w s → HasFileBodies w (begun board s)
  bodies-begun board s has =
      let same = begun_places board s in
      record {
        held = λ p b at. has.held p b (ap (λ (bs : List (Option SeenBody)). slice_get bs p) (sym same.held) ∙ at);
        came = λ p b at. has.came p b (ap (λ (bs : List (Option SeenBody)). slice_get bs p) (sym same.came) ∙ at);
      }

  pub bodies-turned : (board : Board) (told : Told) (s : TierState) (answer : Turn) (after : TierState) → IsTier s → IsTurn board told s answer after → IfGot answer (λ p. IsFileBody w p (body_at after p)) → HasFileBodies w s → HasFileBodies w after
  bodies-turned board told s answer after tier is here has =
      bodies-followed told (begun board s) (outcome_in answer after) (paired answer after) (IsTier-begun board s tier) (turn_follows board told s answer after is) here (bodies-begun board s has)
