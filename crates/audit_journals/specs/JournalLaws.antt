-- A journal is read exactly where it can be replayed.
use Rattle.std.proofs.Common.{◌≡◌, ℕ, zero, suc, ◌+◌, ◌^◌, ◌≤◌, List, [], ◌∷◌, ◌++◌, length, refl, sym, ap, subst, ◌∙◌, append_assoc, append-nil, length-append, arith}
use Rattle.std.specs.Prelude.{codes}
use Rattle.std.specs.Fmt.{decimal}
use Rattle.std.specs.List.{AllByRecursion, flat_map}
use Rattle.std.proofs.lemmas.Grind.{flat_map-append}
use Rattle.tier_model.specs.declared.turns.Turn.{Turn}
use Rattle.tier_model.specs.Places.{Places, Replays, Begins, Goes}
use Rattle.serve_model.specs.Journals.{entry_line, journal_head, journal_text}
use Rattle.audit_lines.specs.Places.{line_feeds}
use Rattle.audit_lines.specs.Readers.{due_by_line, read_times, IsNothing, IsTold, AreTimes, Reads}
use Rattle.audit_lines.specs.SequenceLaws.{then_reads, times_reads, times_one_more, reads_as}
use Rattle.audit_spelling.specs.WordLaws.{line_with_is}
use Rattle.audit_spelling.specs.declared.spelt.Head.{Head}
use Rattle.audit_spelling.specs.Spellings.{most_32, head_of, IsEntry}
use Rattle.audit_journals.specs.Journals.{Book, Replayed, opened_book, with_entry, read_entry, IsNextEntry, IsReadEntry, judge_head, head_text, IsHeadOf, read_journal, IsReadJournal, IsJournal}
use Rattle.audit_journals.specs.EntryLaws.{entry_reads, head_reads}

-- ---- entries on from a replayed journal

abbrev IsReplay : Book → Replayed → Type 0
IsReplay book r = Replays book.budget book.width book.sizes book.pinned r.journal r.places

-- so many entries lead from one replayed journal to another
record LeadsTo (book : Book) (times : ℕ) (r s : Replayed) (text : List ℕ) : Type 0 where
  more : List Turn
  journal : s.journal ≡ r.journal ++ more
  count : length more ≡ times
  replay : IsReplay book s
  entries : AllByRecursion (IsEntry book.patches) more
  is : text ≡ flat_map entry_line more

leads_nowhere : (book : Book) (r s : Replayed) (line : ℕ) (text : List ℕ) → IsReplay book r → IsNothing r line s text
    → LeadsTo book 0 r s text
leads_nowhere book r s line text replay none = record {
  more = [];
  journal = ap (λ (t : Replayed). t.journal) none.value ∙ sym (append-nil r.journal);
  count = refl;
  replay = subst (IsReplay book) (sym none.value) replay;
  entries = tt;
  is = none.is;
}

leads_on : (book : Book) (times : ℕ) (r : Replayed) (line : ℕ) (s : Replayed) (text : List ℕ) → IsReplay book r
    → AreTimes (IsReadEntry book) times r line s text → LeadsTo book times r s text
leads_on book zero r line s text replay are = leads_nowhere book r s line text replay are
leads_on book (suc times) r line s text replay are =
    let first = are.first in
    let entry = first.value in
    let told = first.first in
    let next_is = first.next in
    let next : Replayed = with_entry r entry in
    let same : are.value ≡ next = next_is.value in
    let replayed : IsReplay book next = Goes entry replay told.allowed.needs told.allowed.fits in
    let rest = leads_on book times are.value (line_feeds are.front + line) s are.back
    (subst (IsReplay book) (sym same) replayed) are.next in
    record {
      more = entry ∷ rest.more;
      journal = rest.journal ∙ ap (λ (t : Replayed). t.journal ++ rest.more) same
          ∙ append_assoc r.journal (entry ∷ []) rest.more;
      count = ap suc rest.count;
      replay = rest.replay;
      entries = (told.allowed.spelt, rest.entries);
      is =
          are.is
          ∙ ap (λ (front : List ℕ). front ++ are.back)
          (first.is ∙ ap (λ (back : List ℕ). first.front ++ back) next_is.is ∙ append-nil first.front ∙ told.is)
          ∙ ap (λ (back : List ℕ). entry_line entry ++ back) rest.is;
    }

-- ---- a replayed journal is read

all_split : (P : Turn → Type 0) (front : List Turn) (last : Turn) → AllByRecursion P (front ++ (last ∷ []))
    → AllByRecursion P front × P last
all_split P [] last all = (tt, all.0)
all_split P (t ∷ ts) last all = let rest = all_split P ts last all.1 in ((all.0, rest.0), rest.1)

text_one_more : (journal : List Turn) (entry : Turn)
    → flat_map entry_line (journal ++ (entry ∷ [])) ≡ flat_map entry_line journal ++ entry_line entry
text_one_more journal entry =
    flat_map-append entry_line journal (entry ∷ [])
    ∙ ap (λ (rest : List ℕ). flat_map entry_line journal ++ rest) (append-nil (entry_line entry))

read_one : (book : Book) (r : Replayed) (entry : Turn) (line : ℕ) → IsNextEntry book r line entry
    → IsReadEntry book r line (with_entry r entry) (entry_line entry)
read_one book r entry line next = record {
  value = entry;
  front = entry_line entry;
  back = [];
  first = record { allowed = next_at; is = refl };
  next = record { value = refl; is = refl };
  is = sym (append-nil (entry_line entry));
}
  where
    next_at : IsNextEntry book r (0 + line) entry
    next_at = record { spelt = next.spelt; needs = next.needs; fits = next.fits }

replay_reads : (book : Book) (journal : List Turn) (a : Places) (line : ℕ)
    → Replays book.budget book.width book.sizes book.pinned journal a → AllByRecursion (IsEntry book.patches) journal
    → AreTimes (IsReadEntry book) (length journal) (opened_book book) line (record { places = a; journal = journal })
    (flat_map entry_line journal)
replay_reads book _ _ line Begins entries = record { value = refl; is = refl }
replay_reads book _ _ line (Goes {journal} {a} entry before needs fits) entries =
    let split = all_split (IsEntry book.patches) journal entry entries in
    let r : Replayed = record { places = a; journal = journal } in
    let front = replay_reads book journal a line before split.0 in
    let one = read_one book r entry (line_feeds (flat_map entry_line journal) + line)
    (record { spelt = split.1; needs = needs; fits = fits }) in
    let all = times_one_more (IsReadEntry book) (length journal) (opened_book book) r (with_entry r entry) line
    (flat_map entry_line journal) (entry_line entry) front one in
    let count : suc (length journal) ≡ length (journal ++ (entry ∷ [])) = let both = length-append journal
    (entry ∷ []) in omega arith in
    subst (λ (text : List ℕ). AreTimes (IsReadEntry book) (length (journal ++ (entry ∷ []))) (opened_book book) line
    (with_entry r entry) text) (sym (text_one_more journal entry))
    (subst (λ (times : ℕ). AreTimes (IsReadEntry book) times (opened_book book) line (with_entry r entry)
    (flat_map entry_line journal ++ entry_line entry)) count all)

-- ---- whole journals

-- the head of a journal is the line that is printed of it
printed_head : (k : ℕ) (journal : List Turn) → head_text (head_of k (length journal)) ≡ journal_head k journal
unfolding journal_head
printed_head k journal = line_with_is (codes "journal") (decimal k ∷ decimal (length journal) ∷ [])

printed_journal : (k : ℕ) (journal : List Turn)
    → head_text (head_of k (length journal)) ++ flat_map entry_line journal ≡ journal_text k journal
unfolding journal_text
printed_journal k journal = ap (λ (head : List ℕ). head ++ flat_map entry_line journal) (printed_head k journal)

module _ (k : ℕ) (small : k ≤ most_32) (book : Book) (some : 1 ≤ book.patches)
    (patches_few : book.patches ≤ 10 ^ 19) where
  journal_read : (line : ℕ) (r : Replayed) (text : List ℕ) → IsReadJournal k book line r text
      → IsJournal k book line r text
  journal_read line r text are =
      let head = are.value in
      let of_head = are.first in
      let on = leads_on book head.entries (opened_book book) (line_feeds are.front + line) r are.back Begins are.next in
      let few = of_head.allowed.few in
      let count : length r.journal ≡ head.entries = ap length on.journal ∙ on.count in
      let same : head ≡ head_of k (length r.journal) = λ i. record
      { tier = of_head.allowed.tier i; entries = sym count i } in
      record {
        replays = on.replay;
        entries = subst (AllByRecursion (IsEntry book.patches)) (sym on.journal) on.entries;
        few = omega arith;
        is =
            are.is
            ∙ ap (λ (front : List ℕ). front ++ are.back) (of_head.is ∙ ap head_text same)
            ∙ ap (λ (back : List ℕ). head_text (head_of k (length r.journal)) ++ back)
            (on.is ∙ ap (flat_map entry_line) (sym on.journal))
            ∙ printed_journal k r.journal;
      }

  journal_is_read : (line : ℕ) (r : Replayed) (text : List ℕ) → IsJournal k book line r text
      → IsReadJournal k book line r text
  journal_is_read line r text is =
      let head : Head = head_of k (length r.journal) in
      record {
        value = head;
        front = head_text head;
        back = flat_map entry_line r.journal;
        first = record { allowed = record { tier = refl; few = is.few }; is = refl };
        next = replay_reads book r.journal r.places (line_feeds (head_text head) + line) is.replays is.entries;
        is = is.is ∙ sym (printed_journal k r.journal);
      }

  -- a reader takes a journal exactly where it can be replayed, with the places that it leads to
  pub journal_reads : Reads (read_journal k book) (IsJournal k book)
  journal_reads =
      reads_as (read_journal k book) (IsReadJournal k book) (IsJournal k book)
      (then_reads (due_by_line 0 (judge_head k) head_text)
      (λ head. read_times (read_entry book) head.entries (opened_book book)) (IsTold 0 (IsHeadOf k) head_text)
      (λ head. AreTimes (IsReadEntry book) head.entries (opened_book book))
      (head_reads k small)
      (λ line head front is. times_reads (read_entry book) (IsReadEntry book) (λ r. Unit {0})
      (λ r good. entry_reads book some patches_few r) (λ r s n text good read. tt) head.entries
      (opened_book book) tt))
      journal_read journal_is_read
