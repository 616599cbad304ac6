-- The accepted mesh, and the first fault of one that isn't.
use Rattle.std.specs.Prelude.{◌≡◌, ◌≢◌, ℕ, ◌<◌, Bool, true, false, not, ◌||◌, List, [], ◌∷◌, length, slice_get, Option, Some, None, nat_le, IsTrue}
use Rattle.grid_vertex.specs.declared.triangles.Triangle.{Triangle}
use Rattle.grid_vertex.specs.Balls.{is_ball_within}
use Rattle.file_model.specs.declared.fields.Node.{Node}
use Rattle.file_model.specs.declared.fields.PatchField.{PatchField}
use Rattle.file_model.specs.Lists.{IndexLists, FileLists}
use Rattle.mesh_model.specs.declared.refusals.DagFault.{DagFault}
use Rattle.mesh_model.specs.declared.refusals.DagFault.TheVariants.{NoRoot, TwoRoots, Cycle, ErrorNotNested, BallNotNested, Border}
use Rattle.mesh_model.specs.Graph.{is_root, is_sink, roots, leads_to, leads_from}
use Rattle.mesh_model.specs.Walks.{IsGrounded}
use Rattle.mesh_model.specs.Nets.{net, Pair, is_forward, is_pair_before, HaveOneNet}
use Rattle.mesh_model.specs.Frames.{triangles_where}

-- the nodes of a patch's tail and head pass a test, or the head is a sink
abbrev pub nested_by : (Node → Node → Bool) → List PatchField → Option Node → Option Node → ℕ → Bool
nested_by test fields (Some tail) (Some head) v = is_sink fields v || test tail head
nested_by test fields (Some tail) None v = true
nested_by test fields None head v = true

abbrev pub is_nested : (Node → Node → Bool) → IndexLists → PatchField → Bool
is_nested test index f = nested_by test index.fields (slice_get index.nodes f.tail) (slice_get index.nodes f.head) f.head

-- the head's error isn't above the tail's
abbrev pub has_no_more_error : Node → Node → Bool
has_no_more_error tail head = nat_le head.error tail.error

-- the tail's ball contains the head's
abbrev pub has_ball_within : Node → Node → Bool
has_ball_within tail head = is_ball_within tail.ball head.ball

-- each patch passes the test
abbrev pub AllNested : (Node → Node → Bool) → IndexLists → Type 0
AllNested test index = (p : ℕ) (f : PatchField) → slice_get index.fields p ≡ Some f → IsTrue (is_nested test index f)

-- the patch is the least that fails the test
pub record IsLeastUnnested (test : Node → Node → Bool) (index : IndexLists) (patch : ℕ) : Type 0 where
  pub fails : (f : PatchField) × (slice_get index.fields patch ≡ Some f) × (is_nested test index f ≡ false)
  pub least : (p : ℕ) (f : PatchField) → p < patch → slice_get index.fields p ≡ Some f → IsTrue (is_nested test index f)

-- the triangles of the patches that lead to a node, and from it
abbrev pub triangles_to : FileLists → ℕ → List Triangle
triangles_to file v = triangles_where (leads_to v) file.index.fields file.bodies

abbrev pub triangles_out_of : FileLists → ℕ → List Triangle
triangles_out_of file v = triangles_where (leads_from v) file.index.fields file.bodies

-- the node is neither root nor sink
abbrev pub is_inner : List PatchField → ℕ → Bool
is_inner fields v = not (is_root fields v || is_sink fields v)

-- an inner node's incoming and outgoing triangles have one net
abbrev pub KeepsNets : FileLists → ℕ → Type 0
KeepsNets file v = IsTrue (is_inner file.index.fields v) → HaveOneNet (triangles_to file v) (triangles_out_of file v)

abbrev pub AllGrounded : IndexLists → Type 0
AllGrounded index = (v : ℕ) → v < length index.nodes → IsGrounded index.fields v

-- what acceptance says of nodes and arcs alone
pub record IsNestedGraph (index : IndexLists) (root : ℕ) : Type 0 where
  pub one_root : roots (length index.nodes) index.fields ≡ root ∷ []
  pub grounded : AllGrounded index
  pub errors : AllNested has_no_more_error index
  pub balls : AllNested has_ball_within index

-- an accepted mesh
pub record IsAccepted (file : FileLists) (root : ℕ) : Type 0 where
  pub graph : IsNestedGraph file.index root
  pub nets : (v : ℕ) → v < length file.index.nodes → KeepsNets file v

-- the pair is the least, the lesser point first, at which the nets of the node's triangles differ
pub record IsLeastDifference (file : FileLists) (v : ℕ) (pair : Pair) : Type 0 where
  pub forward : IsTrue (is_forward pair)
  pub differs : net (triangles_to file v) pair.a pair.b ≢ net (triangles_out_of file v) pair.a pair.b
  pub least : (q : Pair) → IsTrue (is_forward q) → IsTrue (is_pair_before q pair) → net (triangles_to file v) q.a q.b ≡ net (triangles_out_of file v) q.a q.b

-- the node is the least whose walks have no bound
pub record IsLeastUngrounded (index : IndexLists) (v : ℕ) : Type 0 where
  pub node : v < length index.nodes
  pub ungrounded : IsGrounded index.fields v → ⊥
  pub least : (u : ℕ) → u < v → IsGrounded index.fields u

-- the fault is the first of the graph alone; those of one kind come before the next kind
abbrev pub IsGraphFault : IndexLists → DagFault → Type 0
IsGraphFault index NoRoot = roots (length index.nodes) index.fields ≡ []
IsGraphFault index (TwoRoots a b) = (others : List ℕ) × (roots (length index.nodes) index.fields ≡ a ∷ b ∷ others)
IsGraphFault index (Cycle v) = (root : ℕ) × (roots (length index.nodes) index.fields ≡ root ∷ []) × IsLeastUngrounded index v
IsGraphFault index (ErrorNotNested p) = (root : ℕ) × (roots (length index.nodes) index.fields ≡ root ∷ []) × AllGrounded index × IsLeastUnnested has_no_more_error index p
IsGraphFault index (BallNotNested p) = (root : ℕ) × (roots (length index.nodes) index.fields ≡ root ∷ []) × AllGrounded index × AllNested has_no_more_error index × IsLeastUnnested has_ball_within index p
IsGraphFault index (Border v a b net_in net_out) = ⊥

-- the least inner node whose nets differ, with the least pair and both nets
pub record IsBorderFault (file : FileLists) (v : ℕ) (pair : Pair) : Type 0 where
  pub node : v < length file.index.nodes
  pub inner : IsTrue (is_inner file.index.fields v)
  pub earlier : (u : ℕ) → u < v → KeepsNets file u
  pub differs : IsLeastDifference file v pair

-- the fault is the first of the mesh
abbrev pub IsMeshFault : FileLists → DagFault → Type 0
IsMeshFault file NoRoot = IsGraphFault file.index NoRoot
IsMeshFault file (TwoRoots a b) = IsGraphFault file.index (TwoRoots a b)
IsMeshFault file (Cycle v) = IsGraphFault file.index (Cycle v)
IsMeshFault file (ErrorNotNested p) = IsGraphFault file.index (ErrorNotNested p)
IsMeshFault file (BallNotNested p) = IsGraphFault file.index (BallNotNested p)
IsMeshFault file (Border v a b net_in net_out) = (root : ℕ) × IsNestedGraph file.index root × IsBorderFault file v (record { a = a; b = b }) × (net (triangles_to file v) a b ≡ net_in) × (net (triangles_out_of file v) a b ≡ net_out)
