-- The graph of a patch file: which patches lead to a node and from it, roots and sinks.
use Rattle.std.specs.Prelude.{ℕ, zero, suc, ◌+◌, ◌==◌, Bool, not, List, [], ◌∷◌, Result, Ok, Err, if◌then◌else◌}
use Rattle.std.specs.List.{list_any}
use Rattle.file_model.specs.declared.fields.PatchField.{PatchField}
use Rattle.mesh_model.specs.declared.refusals.DagFault.{DagFault}
use Rattle.mesh_model.specs.declared.refusals.DagFault.TheVariants.{NoRoot, TwoRoots}

-- the patch's head is the node
abbrev pub leads_to : ℕ → PatchField → Bool
leads_to v f = f.head == v

-- the patch's tail is the node
abbrev pub leads_from : ℕ → PatchField → Bool
leads_from v f = f.tail == v

-- no patch leads to the node
abbrev pub is_root : List PatchField → ℕ → Bool
is_root fields v = not (list_any (leads_to v) fields)

-- no patch leads from the node
abbrev pub is_sink : List PatchField → ℕ → Bool
is_sink fields v = not (list_any (leads_from v) fields)

-- the patches from number `first` on whose fields pass the test, ascending
unfoldable pub patches_from : ℕ → (PatchField → Bool) → List PatchField → List ℕ
patches_from first test [] = []
patches_from first test (f ∷ fs) = if test f then first ∷ patches_from (first + 1) test fs else patches_from (first + 1) test fs

-- the patches whose fields pass the test, ascending
abbrev pub patches_where : (PatchField → Bool) → List PatchField → List ℕ
patches_where test fields = patches_from 0 test fields

-- the patches that lead to a node
abbrev pub incoming : List PatchField → ℕ → List ℕ
incoming fields v = patches_where (leads_to v) fields

-- the patches that lead from a node
abbrev pub outgoing : List PatchField → ℕ → List ℕ
outgoing fields v = patches_where (leads_from v) fields

-- those of n numbers from `first` on that pass the test, ascending
unfoldable pub numbers_from : ℕ → ℕ → (ℕ → Bool) → List ℕ
numbers_from first zero test = []
numbers_from first (suc n) test = if test first then first ∷ numbers_from (first + 1) n test else numbers_from (first + 1) n test

-- the nodes of n that pass the test, ascending
abbrev pub nodes_where : ℕ → (ℕ → Bool) → List ℕ
nodes_where n test = numbers_from 0 n test

-- the nodes to which no patch leads, of n nodes, ascending
abbrev pub roots : ℕ → List PatchField → List ℕ
roots n fields = nodes_where n (is_root fields)

-- the one root of the list, or what is wrong with it
abbrev pub only_root : List ℕ → Result ℕ DagFault
only_root [] = Err NoRoot
only_root (a ∷ []) = Ok a
only_root (a ∷ b ∷ others) = Err (TwoRoots a b)
