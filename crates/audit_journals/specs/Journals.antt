-- Journals read entry by entry: each has to meet its needs, and the load behind it the budget.
use Rattle.std.specs.Prelude.{◌≡◌, ℕ, ◌<◌, ◌≤◌, ◌==◌, Bool, true, false, not, ◌&&◌, List, [], ◌∷◌, ◌++◌, length, Option, Some, None, Result, Ok, Err, slice_get, nat_le, nat_lt, if◌then◌else◌}
use Rattle.std.specs.List.{AllByRecursion}
use Rattle.tier_model.specs.declared.turns.Turn.{Turn}
use Rattle.tier_model.specs.declared.turns.Turn.TheVariants.{Reserve, Evict, Kept, Got, Lost, Fault, Changed, Commit, Idle}
use Rattle.tier_model.specs.declared.turns.Coming.{Coming}
use Rattle.tier_model.specs.Places.{Places, is_marked, is_coming, first_coming, first_bare, load_of, Needs, after, Replays}
use Rattle.serve_model.specs.Journals.{entry_line, journal_text}
use Rattle.audit_lines.specs.declared.faults.AuditFault.{AuditFault}
use Rattle.audit_lines.specs.declared.faults.AuditFault.TheVariants.{Differs, Journal, Load, Count}
use Rattle.audit_lines.specs.Readers.{Reader, nothing, due_by_line, then_read, read_times, Relation, IsNothing, IsTold, IsThen, AreTimes}
use Rattle.audit_spelling.specs.declared.spelt.Head.{Head}
use Rattle.audit_spelling.specs.Words.{line_with}
use Rattle.audit_spelling.specs.Spellings.{head_words, head_in, entry_in, IsEntry}
use Rattle.audit_spelling.specs.Judging.{judge_spelt}

-- a journal's tier: how many patches there are and their sizes, how many may come at once, which patches are pinned,
-- and the budget
pub record Book : Type 0 where
  pub patches : ℕ
  pub sizes : List ℕ
  pub width : ℕ
  pub pinned : List Bool
  pub budget : ℕ

-- how far a journal is gone through: its entries, and the places that they lead to
pub record Replayed : Type 0 where
  pub places : Places
  pub journal : List Turn

abbrev pub opened_book : Book → Replayed
opened_book book = record { places = record { held = book.pinned; coming = [] }; journal = [] }

abbrev pub with_entry : Replayed → Turn → Replayed
with_entry r entry = record { places = after r.places entry; journal = r.journal ++ (entry ∷ []) }

-- ---- needs, as tests

abbrev pub is_away : Option Bool → Bool
is_away None = false
is_away (Some held) = not held

abbrev pub is_there : Option Bool → Bool
is_there None = false
is_there (Some held) = held

abbrev pub is_patch : ℕ → Option ℕ → Bool
is_patch p None = false
is_patch p (Some q) = q == p

abbrev pub is_no_patch : Option ℕ → Bool
is_no_patch None = true
is_no_patch (Some q) = false

abbrev pub none_comes : List Coming → Bool
none_comes [] = true
none_comes (c ∷ cs) = false

-- whether an entry's needs are met
abbrev pub meets_needs : ℕ → List Bool → Places → Turn → Bool
meets_needs width pinned a (Reserve p) = nat_lt (length a.coming) width &&
    (is_away (slice_get a.held p) && not (is_coming a.coming p))
meets_needs width pinned a (Got p) = is_patch p (first_bare a.coming)
meets_needs width pinned a (Lost p) = is_patch p (first_bare a.coming)
meets_needs width pinned a (Fault p) = is_patch p (first_bare a.coming)
meets_needs width pinned a (Changed p fault) = is_patch p (first_bare a.coming)
meets_needs width pinned a (Commit p) = is_patch p (first_coming a.coming) && is_no_patch (first_bare a.coming)
meets_needs width pinned a (Evict p) = none_comes a.coming &&
    (is_there (slice_get a.held p) && not (is_marked pinned p))
meets_needs width pinned a (Kept p uses) = false
meets_needs width pinned a Idle = false

-- ---- entries

-- an entry is judged by its needs first, and then by the load behind it
abbrev pub judged_entry : Book → Replayed → ℕ → Turn → Result Turn AuditFault
judged_entry book r line entry =
    if meets_needs book.width book.pinned r.places entry then
    (if nat_le (load_of book.sizes (after r.places entry)) book.budget then Ok entry else Err (Load line))
    else Err (Journal line)

abbrev pub judge_entry : Book → Replayed → ℕ → List ℕ → Result Turn AuditFault
judge_entry book r = judge_spelt (entry_in book.patches) (judged_entry book r)

abbrev pub read_entry : Book → Replayed → Reader Replayed
read_entry book r = then_read (due_by_line 0 (judge_entry book r) entry_line) (λ entry. nothing (with_entry r entry))

-- an entry that can come next
pub record IsNextEntry (book : Book) (r : Replayed) (line : ℕ) (entry : Turn) : Type 0 where
  pub spelt : IsEntry book.patches entry
  pub needs : Needs book.width book.pinned r.places entry
  pub fits : load_of book.sizes (after r.places entry) ≤ book.budget

abbrev pub IsReadEntry : Book → Replayed → Relation Replayed
IsReadEntry book r = IsThen (IsTold 0 (IsNextEntry book r) entry_line) (λ entry. IsNothing (with_entry r entry))

-- ---- heads

-- as many entries as this, or more, are too many
abbrev pub too_many : ℕ
too_many = 4294967294

-- a head is judged by its number of entries first, and then by its tier
abbrev pub judged_head : ℕ → ℕ → Head → Result Head AuditFault
judged_head k line head = if nat_le too_many head.entries then Err
    (Count line) else if head.tier == k then Ok head else Err (Differs line)

abbrev pub judge_head : ℕ → ℕ → List ℕ → Result Head AuditFault
judge_head k = judge_spelt head_in (judged_head k)

abbrev pub head_text : Head → List ℕ
head_text head = line_with (head_words head)

-- the head of tier k's journal
pub record IsHeadOf (k line : ℕ) (head : Head) : Type 0 where
  pub tier : head.tier ≡ k
  pub few : head.entries < too_many

-- ---- journals

abbrev pub read_journal : ℕ → Book → Reader Replayed
read_journal k book = then_read (due_by_line 0 (judge_head k) head_text)
    (λ head. read_times (read_entry book) head.entries (opened_book book))

abbrev pub IsReadJournal : ℕ → Book → Relation Replayed
IsReadJournal k book = IsThen (IsTold 0 (IsHeadOf k) head_text)
    (λ head. AreTimes (IsReadEntry book) head.entries (opened_book book))

-- the text is that of a journal of tier k, which leads to these places and has fewer entries than too many
pub record IsJournal (k : ℕ) (book : Book) (line : ℕ) (r : Replayed) (text : List ℕ) : Type 0 where
  pub replays : Replays book.budget book.width book.sizes book.pinned r.journal r.places
  pub entries : AllByRecursion (IsEntry book.patches) r.journal
  pub few : length r.journal < too_many
  pub is : text ≡ journal_text k r.journal
