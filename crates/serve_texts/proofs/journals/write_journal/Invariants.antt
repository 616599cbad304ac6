-- The lines of the entries before this one were added.
use Rattle.serve_texts.specs.Written.{AddsEntries}
use Rattle.serve_texts.proofs.journals.write_journal.Given as goal

abbrev pub invariant-loop-entry : goal.invariant-loop-entry
invariant-loop-entry l = AddsEntries l.initial.out.items l.out.items l.journal l.entry-index
