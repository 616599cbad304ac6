-- The lines of a journal's entries, half written.
use Rattle.std.proofs.Common.{◌≡◌, ◌+◌, ◌<◌, ◌≤◌, ℕ, true, List, [], ◌∷◌, ◌++◌, take, get_or, length, ap, sym, ◌∙◌, append_assoc, append-nil}
use Rattle.std.specs.List.{flat_map}
use Rattle.std.proofs.lemmas.List.{take_more, take_all}
use Rattle.text_model.specs.Lines.{Adds, begins_line}
use Rattle.frame_writer.specs.Appending.{Adds-nil, Adds-then}
use Rattle.tier_model.specs.declared.turns.Turn.{Turn}
use Rattle.serve_model.specs.Journals.{entry_line, journal_head, journal_text}

-- the lines of the first entries were added
pub record AddsEntries (before now : List ℕ) (journal : List Turn) (i : ℕ) : Type 0 where
  pub adds : Adds before now (flat_map entry_line (take i journal))
  pub ended : begins_line now ≡ true

pub no_entries : (a : List ℕ) (journal : List Turn) → begins_line a ≡ true → AddsEntries a a journal 0
no_entries a journal ended = record { adds = Adds-nil a; ended = ended }

lines_more : (xs : List Turn) (x : Turn) → flat_map entry_line (xs ++ x ∷ []) ≡ flat_map entry_line xs ++ entry_line x
lines_more [] x = append-nil (entry_line x)
lines_more (y ∷ ys) x = ap (λ (t : List ℕ). entry_line y ++ t) (lines_more ys x) ∙ sym (append_assoc (entry_line y) (flat_map entry_line ys) (entry_line x))

pub one_entry : (a b c : List ℕ) (journal : List Turn) (i : ℕ) (d : Turn) → i < length journal → AddsEntries a b journal i
    → Adds b c (entry_line (get_or journal i d)) → begins_line c ≡ true → AddsEntries a c journal (i + 1)
one_entry a b c journal i d within so_far adds ended =
    let line = entry_line (get_or journal i d) in
    record {
      adds = record {
        is = (Adds-then so_far.adds adds).is
            ∙ ap (λ (t : List ℕ). a ++ t) (sym (lines_more (take i journal) (get_or journal i d)) ∙ ap (flat_map entry_line) (sym (take_more journal i d within)));
      };
      ended = ended;
    }

pub all_entries : (a b c : List ℕ) (tier : ℕ) (journal : List Turn) (i : ℕ) → length journal ≤ i
    → Adds a b (journal_head tier journal) → AddsEntries b c journal i → Adds a c (journal_text tier journal)
unfolding journal_text
all_entries a b c tier journal i over head entries = record {
  is = (Adds-then head entries.adds).is ∙ ap (λ (js : List Turn). a ++ (journal_head tier journal ++ flat_map entry_line js)) (take_all i journal over);
}
