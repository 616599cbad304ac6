use Rattle.std.proofs.Common.{◌∷◌}
use Rattle.std.specs.Fmt.{decimal}
use Rattle.std.proofs.lemmas.Result.{on_ok_weaker}
use Rattle.text_model.specs.StatusText.{file_fault_words}
use Rattle.frame_writer.specs.Appending.{Adds-line, Adds-word}
use Rattle.viewer_program.proofs.statuses.add_changed_line.Goals as goal

pub returns-clause-ok : goal.returns-clause-ok
returns-clause-ok c =
    let patch_added = rw c.from.ensures at c.in_ok-add_part.ensures.ok in
    on_ok_weaker c.end_line.result
    (Adds-line (decimal c.args.patch ∷ file_fault_words c.args.fault) c.in_ok-begin_line.ensures.ok
    (Adds-word (decimal c.args.patch) (file_fault_words c.args.fault) patch_added c.in_ok-add_file_fault.ensures.ok))
    c.end_line.ensures.ok
