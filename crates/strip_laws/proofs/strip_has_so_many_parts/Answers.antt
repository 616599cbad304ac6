use Rattle.strip_laws.specs.StripNodes.{node_count}
use Rattle.strip_laws.specs.StripCounts.{patch_count, triangle_count}
use Rattle.strip_laws.proofs.strip_has_so_many_parts.Goals as goal

pub returns-clause-nodes : goal.returns-clause-nodes
returns-clause-nodes c = node_count

pub returns-clause-patches : goal.returns-clause-patches
returns-clause-patches c = patch_count

pub returns-clause-triangles : goal.returns-clause-triangles
returns-clause-triangles c = triangle_count
