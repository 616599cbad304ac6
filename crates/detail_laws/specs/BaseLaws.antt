-- In a run base patches stay where the opening puts them.
use Rattle.std.proofs.Common.{◌≡◌, ℕ, zero, suc, Bool, false, List, ◌∷◌, length, replicate, Option, Some, None, is_some, refl, ◌∙◌}
use Rattle.std.specs.Prelude.{slice_get, slice_index_or}
use Rattle.std.proofs.lemmas.Bool.{both_ways}
use Rattle.file_model.specs.Lists.{IndexLists, SeenBody}
use Rattle.tier_model.specs.declared.turns.Abort.{Abort}
use Rattle.tier_model.specs.declared.turns.Abort.TheVariants as reasons
use Rattle.tier_model.specs.declared.turns.Turn.{Turn}
use Rattle.tier_model.specs.Places.{is_marked, is_coming}
use Rattle.tier_model.specs.Tiers.{TierState, is_held, IsTier}
use Rattle.tier_model.specs.Changes.{arrived, aborted, passed_over, calmed, fresh}
use Rattle.tier_model.specs.Choices.{Told}
use Rattle.tier_model.specs.Turns.{Outcome, Board, begun, paired, outcome_in, IsTurn}
use Rattle.tier_model.specs.Chains.{opened_top, opened_tiers}
use Rattle.tier_laws.specs.ComingLaws.{arrived_comes}
use Rattle.tier_laws.specs.Follows.{Follows, Reserves, Gets, Loses, Fails, Breaks, Commits, Evicts, Keeps, Rests}
use Rattle.tier_laws.specs.TierLaws.{IsTier-begun}
use Rattle.tier_laws.specs.TurnLaws.{turn_follows}
use Rattle.tier_laws.specs.OpeningLaws.{each-opened}
use Rattle.settling_laws.specs.ChangeLaws.{ready_from}
use Rattle.detail_laws.specs.Needs.{KeepsBase, IsCalm}
use Rattle.detail_laws.specs.GatherLaws.{base-reserved, base-committed, base-dropped, gone_stays_away}
use Rattle.detail_laws.specs.Settled.{nothing_marked, base-begun}

-- ---- each turn

base-arrived : (s : TierState) (p : ℕ) (body : SeenBody) → KeepsBase s → KeepsBase (arrived s p body)
unfolding arrived
base-arrived s p body keeps = record { pins = keeps.pins; held = keeps.held; coming = λ q base. arrived_comes p s.coming q ∙ keeps.coming q base }

base-aborted : (s : TierState) (p : ℕ) (why : Abort) → KeepsBase s → KeepsBase (aborted s p why)
unfolding aborted
base-aborted s p why keeps = record { pins = keeps.pins; held = keeps.held; coming = λ q base. gone_stays_away p s.coming q (keeps.coming q base) }

base-passed_over : (s : TierState) (p : ℕ) → KeepsBase s → KeepsBase (passed_over s p)
unfolding passed_over
base-passed_over s p keeps = record { pins = keeps.pins; held = keeps.held; coming = keeps.coming }

base-calmed : (s : TierState) → KeepsBase s → KeepsBase (calmed s)
unfolding calmed
base-calmed s keeps = record { pins = keeps.pins; held = keeps.held; coming = keeps.coming }

base-followed : (told : Told) (s : TierState) (o : Outcome) (x : Turn × TierState) → IsTier s → Follows told s o x → KeepsBase s → KeepsBase x.1
base-followed told s o x tier (Reserves c enters) keeps = base-reserved told s c enters keeps
base-followed told s o x tier (Gets p body none bare has came) keeps = base-arrived s p body keeps
base-followed told s o x tier (Loses p none bare has) keeps = base-aborted s p reasons.Lost keeps
base-followed told s o x tier (Fails p none bare has failed) keeps = base-aborted s p reasons.Fault keeps
base-followed told s o x tier (Breaks p fault none bare has broken) keeps = base-aborted s p (reasons.Changed fault) keeps
base-followed told s o x tier (Commits p none bare first) keeps = base-committed s p (ready_from s p tier bare first) keeps
base-followed told s o x tier (Evicts v none victim leaves unused) keeps = base-dropped told s v leaves keeps
base-followed told s o x tier (Keeps v uses none victim leaves top found) keeps = base-passed_over s v keeps
base-followed told s o x tier (Rests rest) keeps = base-calmed s keeps

pub base-turned : (board : Board) (told : Told) (s : TierState) (answer : Turn) (after : TierState) → IsTier s → IsTurn board told s answer after → KeepsBase s → KeepsBase after
base-turned board told s answer after tier turn keeps =
    base-followed told (begun board s) (outcome_in answer after) (paired answer after) (IsTier-begun board s tier) (turn_follows board told s answer after turn) (base-begun board s keeps)

-- ---- the opening

nothing_held : (n p : ℕ) → is_some (slice_index_or (replicate {A = Option SeenBody} n None) p None) ≡ false
nothing_held zero p = refl
nothing_held (suc n) zero = refl
nothing_held (suc n) (suc p) = nothing_held n p

-- nothing is aside or passed over, and base patches are as they are to stay
abbrev Opens : (ℕ → Bool) → TierState → Type 0
Opens used t = KeepsBase t × IsCalm used t

opens-fresh : (index : IndexLists) (used : ℕ → Bool) (budget width : ℕ) → Opens used (fresh index budget width)
unfolding fresh is_coming
opens-fresh index used budget width = (
  record {
    pins = λ p pinned. absurd (both_ways (is_marked (replicate (length index.fields) false) p) (nothing_marked (length index.fields) p) pinned);
    held = λ p base held. absurd (both_ways (is_held (fresh index budget width) p) (nothing_held (length index.fields) p) held);
    coming = λ p base. refl;
  },
  record {
    none_aside = nothing_marked (length index.fields);
    passed = λ p passed. absurd (both_ways (is_marked (replicate (length index.fields) false) p) (nothing_marked (length index.fields) p) passed);
  },
)

opens-top : (index : IndexLists) (body : ℕ → SeenBody) (used : ℕ → Bool) (budget width : ℕ) → Opens used (opened_top index body budget width)
unfolding opened_top fresh is_coming
opens-top index body used budget width = (
  record { pins = λ p pinned. pinned; held = λ p base held. base; coming = λ p base. refl },
  record {
    none_aside = nothing_marked (length index.fields);
    passed = λ p passed. absurd (both_ways (is_marked (replicate (length index.fields) false) p) (nothing_marked (length index.fields) p) passed);
  },
)

pub base-opened : (index : IndexLists) (body : ℕ → SeenBody) (budget : ℕ) (budgets : List ℕ) (width k : ℕ) (t : TierState) → slice_get (opened_tiers index body (budget ∷ budgets) width) k ≡ Some t → (used : ℕ → Bool) → KeepsBase t × IsCalm used t
base-opened index body budget budgets width k t at used =
    each-opened index body (Opens used) budget budgets width (opens-top index body used budget width) (λ b. opens-fresh index used b width) k t at
