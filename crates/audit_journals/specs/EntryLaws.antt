-- An entry, and a head, are read exactly where they can stand there.
use Rattle.std.proofs.Common.{List, [], ◌∷◌, ◌≡◌, ℕ, ◌^◌, ◌≤◌, ◌==◌, Result, Ok, Err, subst, ◌∙◌, arith}
use Rattle.std.specs.Prelude.{nat_le, if◌then◌else◌}
use Rattle.std.proofs.lemmas.Bool.{cond_both, cond-true, cond-false, eqb-true, eq-eqb, leb-true, leb-false, le-leb, lt-leb}
use Rattle.tier_model.specs.declared.turns.Turn.{Turn}
use Rattle.tier_model.specs.declared.turns.Turn.TheVariants.{Reserve, Evict, Kept, Got, Lost, Fault, Changed, Commit, Idle}
use Rattle.tier_model.specs.Places.{load_of, after}
use Rattle.run_model.specs.LineTexts.{turn_words}
use Rattle.serve_model.specs.Journals.{words_line, entry_line}
use Rattle.audit_lines.specs.declared.faults.AuditFault.{AuditFault}
use Rattle.audit_lines.specs.declared.faults.AuditFault.TheVariants.{Differs, Journal, Load, Count}
use Rattle.audit_lines.specs.Places.{StandsAhead}
use Rattle.audit_lines.specs.Readers.{due_by_line, nothing, IsTold, IsNothing, Reads}
use Rattle.audit_lines.specs.ReaderLaws.{nothing_reads, told_reads}
use Rattle.audit_lines.specs.SequenceLaws.{then_reads}
use Rattle.audit_spelling.specs.declared.spelt.Head.{Head}
use Rattle.audit_spelling.specs.Words.{spaced_words, line_with, HasFirst}
use Rattle.audit_spelling.specs.WordLaws.{stands_first, line_with_is}
use Rattle.audit_spelling.specs.Spellings.{most_32, head_words, head_in, IsHead, entry_in, IsEntry}
use Rattle.audit_spelling.specs.TryLaws.{head_spells}
use Rattle.audit_spelling.specs.TurnLaws.{entry_spells}
use Rattle.audit_spelling.specs.Judging.{JudgesSpelt, judges_spelt}
use Rattle.audit_journals.specs.Journals.{Book, Replayed, with_entry, meets_needs, judged_entry, judge_entry, read_entry, IsNextEntry, IsReadEntry, too_many, judged_head, judge_head, head_text, IsHeadOf}
use Rattle.audit_journals.specs.NeedLaws.{needs_from, needs_to}

same_turn : (x y : Turn) → ◌≡◌ {A = Result Turn AuditFault} (Ok x) (Ok y) → x ≡ y
same_turn x y is = cc

same_head : (x y : Head) → ◌≡◌ {A = Result Head AuditFault} (Ok x) (Ok y) → x ≡ y
same_head x y is = cc

-- ---- entries

module _ (book : Book) (r : Replayed) where
  entry_sound : (line : ℕ) (x y : Turn) → IsEntry book.patches x → judged_entry book r line x ≡ Ok y
      → IsNextEntry book r line y
  entry_sound line x y spelt is =
      let fits_then : Result Turn AuditFault = if nat_le
      (load_of book.sizes (after r.places x)) book.budget then Ok x else Err (Load line) in
      cond_both (meets_needs book.width book.pinned r.places x) fits_then (Err (Journal line))
      (λ (o : Result Turn AuditFault). o ≡ Ok y → IsNextEntry book r line y)
      (λ met.
      cond_both (nat_le (load_of book.sizes (after r.places x)) book.budget) (Ok x) (Err (Load line))
      (λ (o : Result Turn AuditFault). o ≡ Ok y → IsNextEntry book r line y)
      (λ fits same. subst (IsNextEntry book r line) (same_turn x y same) (record {
        spelt = spelt;
        needs = needs_from book.width book.pinned r.places x met;
        fits = leb-true (load_of book.sizes (after r.places x)) book.budget fits;
      }))
      (λ over same. absurd (cc)))
      (λ unmet same. absurd (cc))
      is

  entry_complete : (line : ℕ) (y : Turn) → IsNextEntry book r line y → judged_entry book r line y ≡ Ok y
  entry_complete line y next =
      let fits_then : Result Turn AuditFault = if nat_le
      (load_of book.sizes (after r.places y)) book.budget then Ok y else Err (Load line) in
      cond-true (meets_needs book.width book.pinned r.places y) fits_then (Err (Journal line))
      (needs_to book.width book.pinned r.places y next.needs)
      ∙ cond-true (nat_le (load_of book.sizes (after r.places y)) book.budget) (Ok y) (Err (Load line))
      (le-leb (load_of book.sizes (after r.places y)) book.budget next.fits)

  entry_judges : JudgesSpelt (IsEntry book.patches) (judged_entry book r) (λ entry. entry) (IsNextEntry book r)
  entry_judges = record { sound = entry_sound; complete = entry_complete; spelt = λ line y next. next.spelt }

has_words : (patches : ℕ) (entry : Turn) → IsEntry patches entry → HasFirst (turn_words entry)
has_words patches (Reserve p) is = tt
has_words patches (Evict p) is = tt
has_words patches (Kept p uses) is = tt
has_words patches (Got p) is = tt
has_words patches (Lost p) is = tt
has_words patches (Fault p) is = tt
has_words patches (Changed p fault) is = tt
has_words patches (Commit p) is = tt
has_words patches Idle is = tt

-- words that are put together are the line that is printed of them
printed_line : (words : List (List ℕ)) → HasFirst words → line_with words ≡ words_line words
printed_line [] none = absurd none
printed_line (word ∷ words) first = line_with_is word words

printed_entry : (patches : ℕ) (entry : Turn) → IsEntry patches entry → line_with (turn_words entry) ≡ entry_line entry
unfolding entry_line
printed_entry patches entry is = printed_line (turn_words entry) (has_words patches entry is)

module _ (book : Book) (some : 1 ≤ book.patches) (few : book.patches ≤ 10 ^ 19) where
  entry_line_reads : (r : Replayed) → Reads (due_by_line 0 (judge_entry book r) entry_line)
      (IsTold 0 (IsNextEntry book r) entry_line)
  entry_line_reads r =
      let spells = entry_spells book.patches some few in
      told_reads 0 (judge_entry book r) (λ entry. spaced_words (turn_words entry)) entry_line (IsNextEntry book r)
      (judges_spelt (entry_in book.patches) turn_words (IsEntry book.patches) spells (has_words book.patches)
      (judged_entry book r) (λ entry. entry) (IsNextEntry book r) (entry_judges book r))
      (λ line entry next. subst (StandsAhead 0 (spaced_words (turn_words entry)))
      (printed_entry book.patches entry next.spelt)
      (stands_first (turn_words entry)
      (record { first = has_words book.patches entry next.spelt; plain = spells.plain entry next.spelt })))

  pub entry_reads : (r : Replayed) → Reads (read_entry book r) (IsReadEntry book r)
  entry_reads r =
      then_reads (due_by_line 0 (judge_entry book r) entry_line) (λ entry. nothing (with_entry r entry))
      (IsTold 0 (IsNextEntry book r) entry_line) (λ entry. IsNothing (with_entry r entry))
      (entry_line_reads r) (λ line entry text is. nothing_reads (with_entry r entry))

-- ---- heads

module _ (k : ℕ) (small : k ≤ most_32) where
  head_sound : (line : ℕ) (x y : Head) → IsHead x → judged_head k line x ≡ Ok y → IsHeadOf k line y
  head_sound line x y spelt is =
      let of_tier : Result Head AuditFault = if x.tier == k then Ok x else Err (Differs line) in
      cond_both (nat_le too_many x.entries) (Err (Count line)) of_tier
      (λ (o : Result Head AuditFault). o ≡ Ok y → IsHeadOf k line y)
      (λ many same. absurd (cc))
      (λ few.
      cond_both (x.tier == k) (Ok x) (Err (Differs line))
      (λ (o : Result Head AuditFault). o ≡ Ok y → IsHeadOf k line y)
      (λ of_k same. subst (IsHeadOf k line) (same_head x y same)
      (record { tier = eqb-true x.tier k of_k; few = leb-false too_many x.entries few }))
      (λ other same. absurd (cc)))
      is

  head_complete : (line : ℕ) (y : Head) → IsHeadOf k line y → judged_head k line y ≡ Ok y
  head_complete line y head =
      let of_tier : Result Head AuditFault = if y.tier == k then Ok y else Err (Differs line) in
      cond-false (nat_le too_many y.entries) (Err (Count line)) of_tier (lt-leb too_many y.entries head.few)
      ∙ cond-true (y.tier == k) (Ok y) (Err (Differs line)) (eq-eqb y.tier k head.tier)

  head_spelt : (line : ℕ) (y : Head) → IsHeadOf k line y → IsHead y
  head_spelt line y head = let tier = head.tier in let few = head.few in record
      { tier = omega arith; entries = omega arith }

  pub head_reads : Reads (due_by_line 0 (judge_head k) head_text) (IsTold 0 (IsHeadOf k) head_text)
  head_reads =
      told_reads 0 (judge_head k) (λ head. spaced_words (head_words head)) head_text (IsHeadOf k)
      (judges_spelt head_in head_words IsHead head_spells (λ head is. tt) (judged_head k) (λ head. head) (IsHeadOf k)
      (record { sound = head_sound; complete = head_complete; spelt = head_spelt }))
      (λ line head is. stands_first (head_words head)
      (record { first = tt; plain = head_spells.plain head (head_spelt line head is) }))
