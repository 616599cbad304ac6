use Rattle.std.proofs.lemmas.Result.{on_ok_weaker}
use Rattle.text_model.specs.StatusText.{file_fault_words}
use Rattle.frame_writer.specs.Appending.{Adds-line}
use Rattle.viewer_program.proofs.statuses.add_file_line.Goals as goal

pub returns-clause-ok : goal.returns-clause-ok
returns-clause-ok c = on_ok_weaker c.end_line.result (Adds-line (file_fault_words c.args.fault) c.in_ok-begin_line.ensures.ok c.in_ok-add_file_fault.ensures.ok) c.end_line.ensures.ok
