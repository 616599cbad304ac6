-- What a check of a file's bytes answers.
use Rattle.std.specs.Prelude.{◌≡◌, ℕ, List, Result, Ok, Err}
use Rattle.file_model.specs.declared.faults.FileFault.{FileFault}
use Rattle.file_model.specs.declared.refusals.ReadRefusal.{ReadRefusal}
use Rattle.file_model.specs.Answers.{Refuses}
use Rattle.file_model.specs.Lists.{BodyLists, IndexLists, FileLists, bodies_offset}
use Rattle.file_model.specs.Reading.{bodies_in, file_in}
use Rattle.file_model.specs.Rules.{IsPatchFile}
use Rattle.mesh_model.specs.declared.refusals.Refusal.TheVariants.{File, Dag}
use Rattle.mesh_model.specs.Accepted.{IsMeshFault}
use Rattle.accepted_mesh.specs.MeshView.{MeshSeen, IsMeshOf}
use Rattle.dag_check.specs.declared.refusals.CheckRefusal.{CheckRefusal}
use Rattle.dag_check.specs.declared.refusals.CheckRefusal.TheVariants.{Refused, ReadFault, Memory}
use Rattle.dag_check.specs.Added.{file_with}
use Rattle.dag_check.specs.Checkers.{CheckerSeen, Follows}

-- the bodies that stand behind an index
abbrev pub bodies_behind : IndexLists → List ℕ → Result (List BodyLists) FileFault
bodies_behind index bytes = bodies_in index.version 0 (bodies_offset index) index.fields bytes

-- the checker follows the bodies that are read, and a refusal is theirs
abbrev pub FollowsBodies : Result CheckerSeen ReadRefusal → Result (List BodyLists) FileFault → Type 0
FollowsBodies (Ok checker) read = (bodies : List BodyLists) × (read ≡ Ok bodies) × Follows checker bodies
FollowsBodies (Err refusal) read = Refuses refusal read

-- the checker follows the file that is read, and a refusal is the file's
abbrev pub FollowsFile : Result CheckerSeen ReadRefusal → Result FileLists FileFault → Type 0
FollowsFile (Ok checker) read = (bodies : List BodyLists) × (read ≡ Ok (file_with checker.index bodies)) × Follows checker bodies
FollowsFile (Err refusal) read = Refuses refusal read

-- what a check answers for a file of these bytes: where it gives a mesh, they are the patch file that it is of
abbrev pub Checks : List ℕ → Result MeshSeen CheckRefusal → Type 0
Checks bytes (Ok mesh) = (file : FileLists) × (file_in bytes ≡ Ok file) × IsMeshOf file mesh × IsPatchFile file bytes
Checks bytes (Err (Refused (File fault))) = file_in bytes ≡ Err fault
Checks bytes (Err (Refused (Dag fault))) = (file : FileLists) × (file_in bytes ≡ Ok file) × IsMeshFault file fault
Checks bytes (Err ReadFault) = Unit {0}
Checks bytes (Err Memory) = Unit {0}
