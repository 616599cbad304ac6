use Rattle.body_loads.specs.LoadLaws.{loads_body, loads_no_fault, loads_triangles}
use Rattle.body_loads.proofs.loads_give_the_files_bodies.Goals as goal

pub returns-clause-bodies : goal.returns-clause-bodies
returns-clause-bodies c = loads_body

pub returns-clause-no_fault : goal.returns-clause-no_fault
returns-clause-no_fault c = loads_no_fault

pub returns-clause-triangles : goal.returns-clause-triangles
returns-clause-triangles c = loads_triangles
