use Rattle.session_laws.specs.FrameLocks.{frame_is_base_or_locked, done_frame_is_locked}
use Rattle.session_laws.proofs.patches_of_a_frame_are_locked.Goals as goal

pub returns-clause-round : goal.returns-clause-round
returns-clause-round c = frame_is_base_or_locked

pub returns-clause-session : goal.returns-clause-session
returns-clause-session c = done_frame_is_locked
