-- A frame is read exactly where its answers make a whole round and don't fall.
use Rattle.std.proofs.Common.{◌≡◌, ℕ, ◌^◌, ◌≤◌, true, List, Option, Some, None, Result, Ok, Err, refl, sym, ap, subst, ◌∙◌}
use Rattle.std.proofs.lemmas.Bool.{cond_both, cond-true}
use Rattle.file_model.specs.declared.fields.Try.{Try}
use Rattle.round_model.specs.Order.{Rules}
use Rattle.token_words.specs.Tries.{Rise}
use Rattle.session_model.specs.Finishes.{pairs_of}
use Rattle.audit_lines.specs.declared.faults.AuditFault.{AuditFault}
use Rattle.audit_lines.specs.declared.faults.AuditFault.TheVariants.{Round}
use Rattle.audit_lines.specs.Readers.{Reads}
use Rattle.audit_lines.specs.ReaderLaws.{told_reads}
use Rattle.audit_spelling.specs.Words.{spaced_words}
use Rattle.audit_spelling.specs.Spellings.{tries_words, tries_in, AreTries}
use Rattle.audit_spelling.specs.TryLaws.{tries_spell}
use Rattle.audit_spelling.specs.Judging.{JudgesSpelt, judges_spelt}
use Rattle.audit_frames.specs.Answers.{Answers, is_whole, first_fall, unless_falls, judged_answers, judge_answers, AreAnswers, FrameSeen, answers_frame, answers_text, read_frame, IsReadFrame, IsPrintable}
use Rattle.audit_frames.specs.WholeRounds.{whole_is, whole_from}
use Rattle.audit_frames.specs.RisingAnswers.{rises_from, rises_to}
use Rattle.audit_frames.specs.FrameLines.{third_line}

same_answers : (x y : Answers) → ◌≡◌ {A = Result Answers AuditFault} (Ok x) (Ok y) → x ≡ y
same_answers x y is = cc

module _ (patches : ℕ) (rules : Rules) (earlier : List Try) (rise : Rise (pairs_of earlier)) where
  fall_sound : (line : ℕ) (tries : List Try) (y : Answers) (o : Option ℕ) → AreTries patches tries
      → is_whole rules tries ≡ true → first_fall earlier tries ≡ o → unless_falls line tries o ≡ Ok y
      → AreAnswers patches rules earlier line y
  fall_sound line tries y (Some p) spelt whole fall is = absurd (cc)
  fall_sound line tries y None spelt whole fall is =
      subst (AreAnswers patches rules earlier line) (same_answers (record { line = line; tries = tries }) y is)
      (record {
        line_is = refl;
        spelt = spelt;
        whole = whole_is rules tries whole;
        rise =
            rises_from earlier tries rise fall;
      })

  answers_sound : (line : ℕ) (tries : List Try) (y : Answers) → AreTries patches tries
      → judged_answers rules earlier line tries ≡ Ok y → AreAnswers patches rules earlier line y
  answers_sound line tries y spelt is =
      cond_both (is_whole rules tries) (unless_falls line tries (first_fall earlier tries)) (Err (Round line))
      (λ (o : Result Answers AuditFault). o ≡ Ok y → AreAnswers patches rules earlier line y)
      (λ whole same. fall_sound line tries y (first_fall earlier tries) spelt whole refl same)
      (λ none same. absurd (cc))
      is

  answers_complete : (line : ℕ) (y : Answers) → AreAnswers patches rules earlier line y
      → judged_answers rules earlier line y.tries ≡ Ok y
  answers_complete line y are =
      let same : record { line = line; tries = y.tries } ≡ y = λ i. record
      { line = sym are.line_is i; tries = y.tries } in
      cond-true (is_whole rules y.tries) (unless_falls line y.tries (first_fall earlier y.tries)) (Err (Round line))
      (whole_from rules y.tries are.whole)
      ∙ ap (unless_falls line y.tries) (rises_to earlier y.tries are.rise)
      ∙ ap Ok same

  answers_judge : JudgesSpelt (AreTries patches) (judged_answers rules earlier) (λ y. y.tries)
      (AreAnswers patches rules earlier)
  answers_judge = record { sound = answers_sound; complete = answers_complete; spelt = λ line y are. are.spelt }

-- where the numbers of its first lines are printed whole, a frame is read exactly where its answers are such
pub frame_reads : (f : FrameSeen) → 1 ≤ f.patches → f.patches ≤ 10 ^ 19 → Rise (pairs_of f.earlier)
    → ((line : ℕ) (answers : Answers) → AreAnswers f.patches f.rules f.earlier line answers
    → IsPrintable f.open_edges (answers_frame f answers))
    → Reads (read_frame f) (IsReadFrame f)
frame_reads f some few rise printable =
    told_reads 2 (judge_answers f.patches f.rules f.earlier) (λ answers. spaced_words (tries_words answers.tries))
    (answers_text f) (AreAnswers f.patches f.rules f.earlier)
    (judges_spelt (tries_in f.patches) tries_words (AreTries f.patches) (tries_spell f.patches some few)
    (λ tries spelt. tt) (judged_answers f.rules f.earlier) (λ answers. answers.tries)
    (AreAnswers f.patches f.rules f.earlier) (answers_judge f.patches f.rules f.earlier rise))
    (λ line answers are. third_line f.open_edges (answers_frame f answers)
    (printable line answers are) f.patches some few are.spelt)
