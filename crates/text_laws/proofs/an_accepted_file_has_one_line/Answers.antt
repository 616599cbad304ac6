use Rattle.text_laws.specs.FrameTexts.{accepted_text_is_one}
use Rattle.text_laws.proofs.an_accepted_file_has_one_line.Goals as goal

pub returns : goal.returns
returns c = accepted_text_is_one
