use Rattle.audit_frames.specs.FrameLaws.{frame_reads}
use Rattle.audit_frames.proofs.a_frame_is_read_by_its_answers.Goals as goal

pub returns : goal.returns
returns c = frame_reads
