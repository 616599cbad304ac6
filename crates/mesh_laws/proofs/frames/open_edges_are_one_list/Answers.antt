use Rattle.mesh_laws.specs.OpenEdges.{open_of_one_net, open_is_one}
use Rattle.mesh_laws.proofs.frames.open_edges_are_one_list.Goals as goal

pub returns-clause-of_triangles : goal.returns-clause-of_triangles
returns-clause-of_triangles c = open_is_one

pub returns-clause-of_net : goal.returns-clause-of_net
returns-clause-of_net c = open_of_one_net
