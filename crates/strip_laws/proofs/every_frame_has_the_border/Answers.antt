use Rattle.strip_laws.specs.StripBorder.{every_frame_open, frame_has_open}
use Rattle.strip_laws.proofs.every_frame_has_the_border.Goals as goal

pub returns-clause-edges : goal.returns-clause-edges
returns-clause-edges c = every_frame_open

pub returns-clause-number : goal.returns-clause-number
returns-clause-number c = frame_has_open
