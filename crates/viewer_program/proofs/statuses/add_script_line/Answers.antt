use Rattle.std.proofs.lemmas.Result.{on_ok_weaker}
use Rattle.text_model.specs.Lines.{decimals}
use Rattle.text_model.specs.StatusText.{script_fault_numbers}
use Rattle.frame_writer.specs.Appending.{Adds-line}
use Rattle.viewer_program.proofs.statuses.add_script_line.Goals as goal

pub returns-clause-ok : goal.returns-clause-ok
returns-clause-ok c = on_ok_weaker c.end_line.result (Adds-line (decimals (script_fault_numbers c.args.fault)) c.in_ok-begin_line.ensures.ok c.in_ok-add_script_fault.ensures.ok) c.end_line.ensures.ok
