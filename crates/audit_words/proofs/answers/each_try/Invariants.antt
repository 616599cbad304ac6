use Rattle.std.proofs.Common.{◌≡◌, map, drop}
use Rattle.audit_spelling.specs.Words.{each_in}
use Rattle.audit_spelling.specs.Spellings.{try_in}
use Rattle.audit_words.proofs.EachWord.{behind}
use Rattle.audit_words.proofs.answers.each_try.Given as goal

abbrev pub invariant-loop-word : goal.invariant-loop-word
invariant-loop-word l =
    each_in (try_in l.patches) (map (λ word. word.now) l.words) ≡ behind l.tries.items
    (each_in (try_in l.patches) (drop l.word-index (map (λ word. word.now) l.words)))
