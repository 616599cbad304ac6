use Rattle.text_laws.specs.FrameTexts.{frame_text_is_one}
use Rattle.text_laws.proofs.a_frame_has_one_text.Goals as goal

pub returns : goal.returns
returns c = frame_text_is_one
