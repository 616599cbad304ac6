-- An outcome is read exactly where it is one of the tier and the patch.
use Rattle.std.proofs.Common.{◌≡◌, ℕ, ◌^◌, ◌≤◌, ◌==◌, true, ◌&&◌, ◌∷◌, Option, Some, None, Result, Ok, Err, refl, ap, subst, ◌∙◌}
use Rattle.std.specs.Prelude.{codes}
use Rattle.std.specs.Fmt.{decimal}
use Rattle.std.proofs.lemmas.Bool.{cond_both, cond-true, and_parts, and_from, eqb-true, eq-eqb}
use Rattle.run_model.specs.LineTexts.{turn_words, turn_line}
use Rattle.audit_lines.specs.declared.faults.AuditFault.{AuditFault}
use Rattle.audit_lines.specs.declared.faults.AuditFault.TheVariants.{Differs}
use Rattle.audit_lines.specs.Places.{StandsAhead}
use Rattle.audit_lines.specs.Readers.{due_by_line, IsTold, Reads}
use Rattle.audit_lines.specs.ReaderLaws.{told_reads}
use Rattle.audit_spelling.specs.declared.spelt.TierTurn.{TierTurn}
use Rattle.audit_spelling.specs.Words.{spaced_words, line_with}
use Rattle.audit_spelling.specs.WordLaws.{stands_first, line_with_is}
use Rattle.audit_spelling.specs.Spellings.{outcome_words, outcome_in, IsTierOutcome}
use Rattle.audit_spelling.specs.TurnLaws.{outcome_spells}
use Rattle.audit_spelling.specs.Judging.{judges_spelt}
use Rattle.audit_settling.specs.Settlings.{outcome_patch, is_patch, judged_outcome, judge_outcome, outcome_text, IsOutcomeOf}

patch_from : (p : ℕ) (o : Option ℕ) → is_patch p o ≡ true → o ≡ Some p
patch_from p None is = absurd (cc)
patch_from p (Some q) is = ap Some (eqb-true q p is)

same_outcome : (x y : TierTurn) → ◌≡◌ {A = Result TierTurn AuditFault} (Ok x) (Ok y) → x ≡ y
same_outcome x y is = cc

outcome_line : (outcome : TierTurn) → line_with (outcome_words outcome) ≡ turn_line outcome.tier outcome.turn
unfolding turn_line
outcome_line outcome = line_with_is (codes "turn") (decimal outcome.tier ∷ turn_words outcome.turn)

module _ (patches k p : ℕ) where
  outcome_sound : (line : ℕ) (x y : TierTurn) → IsTierOutcome patches x → judged_outcome k p line x ≡ Ok y
      → IsOutcomeOf patches k p line y
  outcome_sound line x y spelt is =
      cond_both (x.tier == k && is_patch p (outcome_patch x.turn)) (Ok x) (Err (Differs line))
      (λ (o : Result TierTurn AuditFault). o ≡ Ok y → IsOutcomeOf patches k p line y)
      (λ passed same.
      let tests = and_parts (x.tier == k) (is_patch p (outcome_patch x.turn)) passed in
      subst (IsOutcomeOf patches k p line) (same_outcome x y same)
      (record
      { spelt = spelt; tier = eqb-true x.tier k tests.0; patch = patch_from p (outcome_patch x.turn) tests.1 }))
      (λ other same. absurd (cc))
      is

  outcome_complete : (line : ℕ) (y : TierTurn) → IsOutcomeOf patches k p line y → judged_outcome k p line y ≡ Ok y
  outcome_complete line y is =
      cond-true (y.tier == k && is_patch p (outcome_patch y.turn)) (Ok y) (Err (Differs line))
      (and_from (y.tier == k) (is_patch p (outcome_patch y.turn)) (eq-eqb y.tier k is.tier)
      (ap (is_patch p) is.patch ∙ eq-eqb p p refl))

  pub outcome_reads : 1 ≤ patches → patches ≤ 10 ^ 19
      → Reads (due_by_line 0 (judge_outcome patches k p) outcome_text) (IsTold 0 (IsOutcomeOf patches k p) outcome_text)
  outcome_reads some few =
      let spells = outcome_spells patches some few in
      told_reads 0 (judge_outcome patches k p) (λ outcome. spaced_words (outcome_words outcome)) outcome_text
      (IsOutcomeOf patches k p)
      (judges_spelt (outcome_in patches) outcome_words (IsTierOutcome patches) spells (λ outcome is. tt)
      (judged_outcome k p) (λ outcome. outcome) (IsOutcomeOf patches k p)
      (record { sound = outcome_sound; complete = outcome_complete; spelt = λ line y is. is.spelt }))
      (λ line outcome is. subst (StandsAhead 0 (spaced_words (outcome_words outcome))) (outcome_line outcome)
      (stands_first (outcome_words outcome) (record { first = tt; plain = spells.plain outcome is.spelt })))
