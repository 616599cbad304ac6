use Rattle.mesh_laws.specs.Boundary.{boundary}
use Rattle.mesh_laws.specs.Frames.{frames_one_net, frames_one_open}
use Rattle.mesh_laws.proofs.frames.frames_have_one_boundary.Goals as goal

pub returns-clause-of_root : goal.returns-clause-of_root
returns-clause-of_root c = boundary

pub returns-clause-of_frames : goal.returns-clause-of_frames
returns-clause-of_frames c = frames_one_net

pub returns-clause-open_edges : goal.returns-clause-open_edges
returns-clause-open_edges c = frames_one_open
