-- What is known of a turn's answer by where the tier stands.
use Rattle.std.proofs.Common.{◌≡◌, ℕ, ◌≤◌, false, [], Option, Some, None, Result, IfOk, refl, arith}
use Rattle.file_model.specs.declared.faults.FileFault.{FileFault}
use Rattle.tier_model.specs.declared.turns.Turn.{Turn}
use Rattle.tier_model.specs.Tiers.{TierState}
use Rattle.tier_model.specs.Answers.{IfFault, IfChanged, IfKept}
use Rattle.tier_model.specs.Choices.{Told}
use Rattle.tier_model.specs.Turns.{Outcome, Board, begun, paired, outcome_in, IsTurn}
use Rattle.tier_laws.specs.Follows.{Follows, Reserves, Gets, Loses, Fails, Breaks, Commits, Evicts, Keeps, Rests}
use Rattle.tier_laws.specs.TurnLaws.{turn_follows}
use Rattle.transfer_step.specs.TurnWords.{misses_in}
use Rattle.cache_chain.specs.AnswerMaps.{result_fault_more, result_changed_more}
use Rattle.cache_chain.specs.WordTurns.{NeverFails}

-- ---- below the top each eviction goes through

never_keeps : (P : ℕ → ℕ → Type 0) (told : Told) (s : TierState) (o : Outcome) (x : Turn × TierState) → told.top ≡ false → Follows told s o x → IfKept x.0 P × (misses_in x.0 ≡ [])
unfolding misses_in
never_keeps P told s o x lower (Reserves c enters) = (tt, refl)
never_keeps P told s o x lower (Gets p b none bare there is) = (tt, refl)
never_keeps P told s o x lower (Loses p none bare there) = (tt, refl)
never_keeps P told s o x lower (Fails p none bare there is) = (tt, refl)
never_keeps P told s o x lower (Breaks p fault none bare there is) = (tt, refl)
never_keeps P told s o x lower (Commits p none bare first) = (tt, refl)
never_keeps P told s o x lower (Evicts v none victim leaves unused) = (tt, refl)
never_keeps P told s o x lower (Keeps v uses none victim leaves top is) = absurd (cc)
never_keeps P told s o x lower (Rests rest) = (tt, refl)

pub lower_keeps_none : (P : ℕ → ℕ → Type 0) (board : Board) (told : Told) (s : TierState) (answer : Turn) (after : TierState) → told.top ≡ false → IsTurn board told s answer after → IfKept answer P
lower_keeps_none P board told s answer after lower is = (never_keeps P told (begun board s) (outcome_in answer after) (paired answer after) lower (turn_follows board told s answer after is)).0

pub lower_misses_none : (board : Board) (told : Told) (s : TierState) (answer : Turn) (after : TierState) → told.top ≡ false → IsTurn board told s answer after → misses_in answer ≡ []
lower_misses_none board told s answer after lower is = (never_keeps (λ p uses. Unit {0}) told (begun board s) (outcome_in answer after) (paired answer after) lower (turn_follows board told s answer after is)).1

-- ---- a tier over another never fails

-- where no tier is next, the cause holds; where one is, the answer never comes
pub fault_at_lowest : {E : Type 0} (cause : Type 0) (result : Result Turn E) (next : Option TierState) → (next ≡ None → IfOk result (λ answer. IfFault answer (λ _. cause))) → ((t : TierState) → next ≡ Some t → NeverFails result) → IfOk result (λ answer. IfFault answer (λ _. (next ≡ None) × cause))
fault_at_lowest cause result None lowest upper = result_fault_more (λ _. cause) (λ _. (None ≡ None) × cause) (λ p is. (refl, is)) result (lowest refl)
fault_at_lowest cause result (Some t) lowest upper = result_fault_more (λ _. ⊥) (λ _. (Some t ≡ None) × cause) (λ p is. absurd is) result (upper t refl).fault

pub changed_at_lowest : {E : Type 0} (finds : ℕ → FileFault → Type 0) (result : Result Turn E) (next : Option TierState) → (next ≡ None → IfOk result (λ answer. IfChanged answer finds)) → ((t : TierState) → next ≡ Some t → NeverFails result) → IfOk result (λ answer. IfChanged answer (λ p fault. (next ≡ None) × finds p fault))
changed_at_lowest finds result None lowest upper = result_changed_more finds (λ p fault. (None ≡ None) × finds p fault) (λ p fault is. (refl, is)) result (lowest refl)
changed_at_lowest finds result (Some t) lowest upper = result_changed_more (λ _ _. ⊥) (λ p fault. (Some t ≡ None) × finds p fault) (λ p fault is. absurd is) result (upper t refl).changed

-- a count that stays over another tier, and doesn't fall in the lowest, doesn't fall
pub later_anywhere : (faults later : ℕ) (next : Option TierState) → (next ≡ None → faults ≤ later) → ((t : TierState) → next ≡ Some t → later ≡ faults) → faults ≤ later
later_anywhere faults later None lowest upper = lowest refl
later_anywhere faults later (Some t) lowest upper = let same = upper t refl in omega arith
