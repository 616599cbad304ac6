-- The least node whose nets differ, among those that are compared.
use Rattle.std.specs.Prelude.{ℕ, ◌<◌, nat_lt, Option, Some, None, Result, Ok, Err, IsTrue, if◌then◌else◌}
use Rattle.file_model.specs.Lists.{FileLists}
use Rattle.mesh_model.specs.declared.refusals.DagFault.{DagFault}
use Rattle.mesh_model.specs.declared.refusals.DagFault.TheVariants.{Border}
use Rattle.mesh_model.specs.Accepted.{KeepsNets, is_inner, triangles_to, triangles_out_of}
use Rattle.edge_chain.specs.declared.differences.Difference.{Difference}
use Rattle.edge_chain.specs.Chains.{IsFirstNetDifference}
use Rattle.dag_check.specs.declared.borders.BorderDifference.{BorderDifference}

-- the border difference at a node, unless the one that was found is of a lesser node
abbrev pub border_before : BorderDifference → BorderDifference → BorderDifference
border_before found border_found = if nat_lt found.node border_found.node then found else border_found

-- the border difference of the lesser node
abbrev pub lesser_border : Option BorderDifference → ℕ → Option Difference → Option BorderDifference
lesser_border found node None = found
lesser_border None node (Some difference) = Some (record { node = node; difference = difference })
lesser_border (Some border_found) node (Some difference) = Some (border_before border_found (record { node = node; difference = difference }))

-- the fault of the border difference, where there is one
abbrev pub border_of : Option BorderDifference → Result (Unit {0}) DagFault
border_of None = Ok tt
border_of (Some border_found) = Err (Border border_found.node border_found.difference.a border_found.difference.b border_found.difference.here border_found.difference.there)

-- the border difference is that of the least node of those compared whose nets differ
pub record IsLeastBorder (file : FileLists) (IsCompared : ℕ → Type 0) (border_found : BorderDifference) : Type 0 where
  pub compared : IsCompared border_found.node
  pub inner : IsTrue (is_inner file.index.fields border_found.node)
  pub differs : IsFirstNetDifference (triangles_to file border_found.node) (triangles_out_of file border_found.node) border_found.difference
  pub least : (v : ℕ) → v < border_found.node → IsCompared v → KeepsNets file v

-- the border difference is the least of those compared, or there is none, and each node that was compared keeps its nets
abbrev pub HasBorderDifference : FileLists → (ℕ → Type 0) → Option BorderDifference → Type 0
HasBorderDifference file IsCompared None = (v : ℕ) → IsCompared v → KeepsNets file v
HasBorderDifference file IsCompared (Some border_found) = IsLeastBorder file IsCompared border_found
