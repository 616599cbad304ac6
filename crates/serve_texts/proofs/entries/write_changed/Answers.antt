use Rattle.std.proofs.Common.{◌≡◌, ℕ, List, [], ◌∷◌, codes}
use Rattle.std.specs.Fmt.{decimal}
use Rattle.std.proofs.lemmas.Result.{on_ok_weaker}
use Rattle.text_model.specs.Lines.{Adds, spaced, line_of}
use Rattle.text_model.specs.StatusText.{file_fault_words}
use Rattle.frame_writer.specs.Appending.{Adds-line, Adds-words}
use Rattle.serve_texts.proofs.entries.write_changed.Goals as goal

changed_line : {a b c d e : List ℕ} (patch : ℕ) (words : List (List ℕ)) (p : ℕ) → p ≡ patch → Adds a b (codes "changed") → Adds b c (spaced (decimal p ∷ [])) → Adds c d (spaced words) → Adds d e (10 ∷ [])
    → Adds a e (line_of (codes "changed") (decimal patch ∷ words))
changed_line patch words p same first parts fault end =
    rw (← same) (Adds-line (decimal p ∷ words) first (Adds-words (decimal p ∷ []) words parts fault) end)

pub returns-clause-ok : goal.returns-clause-ok
returns-clause-ok c =
    on_ok_weaker c.end_line.result (changed_line c.args.patch (file_fault_words c.args.fault) c.from.result c.from.ensures c.in_ok-begin_line.ensures.ok c.in_ok-add_parts.ensures.ok c.in_ok-add_file_fault.ensures.ok) c.end_line.ensures.ok
