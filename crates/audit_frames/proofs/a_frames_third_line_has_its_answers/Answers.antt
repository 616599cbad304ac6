use Rattle.audit_frames.specs.FrameLines.{third_line}
use Rattle.audit_frames.proofs.a_frames_third_line_has_its_answers.Goals as goal

pub returns : goal.returns
returns c = third_line
