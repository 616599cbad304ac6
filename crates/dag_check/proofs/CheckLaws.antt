-- What is read behind an index, and what it says of the whole file.
use Rattle.std.proofs.Common.{◌≡◌, ℕ, List, Option, Some, None, Ok, Err, refl}
use Rattle.std.specs.Prelude.{IfSome}
use Rattle.file_model.specs.declared.faults.FileFault.{FileFault}
use Rattle.file_model.specs.declared.refusals.ReadRefusal.{ReadRefusal}
use Rattle.file_model.specs.declared.refusals.ReadRefusal.TheVariants as reads
use Rattle.file_model.specs.Answers.{Refuses}
use Rattle.file_model.specs.Lists.{BodyLists, IndexLists}
use Rattle.file_model.specs.Reading.{index_in, end_in, file_in}
use Rattle.file_laws.specs.Files.{file_text-in}
use Rattle.mesh_model.specs.declared.refusals.DagFault.{DagFault}
use Rattle.mesh_model.specs.declared.refusals.Refusal.TheVariants.{Dag}
use Rattle.mesh_model.specs.Accepted.{IsMeshFault}
use Rattle.view_outside.specs.Files.{AreBytes}
use Rattle.dag_check.specs.declared.refusals.CheckRefusal.TheVariants.{Refused}
use Rattle.dag_check.specs.Added.{file_with}
use Rattle.dag_check.specs.Checkers.{CheckerSeen, Follows}
use Rattle.dag_check.specs.Checks.{bodies_behind, FollowsBodies, FollowsFile, Checks}
use Rattle.accepted_mesh.specs.MeshView.{MeshSeen, IsMeshOf}
use Rattle.dag_check.specs.Refusals.{check_refusal}

whole : (index : IndexLists) (bodies : List BodyLists) (bytes : List ℕ) → index_in bytes ≡ Ok index → bodies_behind index bytes ≡ Ok bodies → end_in index bytes ≡ Ok tt → file_in bytes ≡ Ok (file_with index bodies)
unfolding file_in
whole index bodies bytes is read ends = rw (is, read, ends) refl

faulty_bodies : (index : IndexLists) (fault : FileFault) (bytes : List ℕ) → index_in bytes ≡ Ok index → bodies_behind index bytes ≡ Err fault → file_in bytes ≡ Err fault
unfolding file_in
faulty_bodies index fault bytes is read = rw (is, read) refl

faulty_end : (index : IndexLists) (bodies : List BodyLists) (fault : FileFault) (bytes : List ℕ) → index_in bytes ≡ Ok index → bodies_behind index bytes ≡ Ok bodies → end_in index bytes ≡ Err fault → file_in bytes ≡ Err fault
unfolding file_in
faulty_end index bodies fault bytes is read ends = rw (is, read, ends) refl

bodies_refused : (index : IndexLists) (refusal : ReadRefusal) (bytes : List ℕ) → index_in bytes ≡ Ok index → Refuses refusal (bodies_behind index bytes) → Refuses refusal (file_in bytes)
bodies_refused index (reads.File fault) bytes is read = faulty_bodies index fault bytes is read
bodies_refused index reads.ReadFault bytes is read = tt
bodies_refused index reads.Memory bytes is read = tt

-- what refuses the bodies refuses the file
pub file-bodies_refused : (told : Option (List ℕ)) (index : IndexLists) (refusal : ReadRefusal) → IfSome told (λ bytes. index_in bytes ≡ Ok index)
    → IfSome told (λ bytes. Refuses refusal (bodies_behind index bytes)) → IfSome told (λ bytes. Refuses refusal (file_in bytes))
file-bodies_refused None index refusal is read = tt
file-bodies_refused (Some bytes) index refusal is read = bodies_refused index refusal bytes is read

end_refused : (index : IndexLists) (bodies : List BodyLists) (refusal : ReadRefusal) (bytes : List ℕ) → index_in bytes ≡ Ok index → bodies_behind index bytes ≡ Ok bodies → Refuses refusal (end_in index bytes) → Refuses refusal (file_in bytes)
end_refused index bodies (reads.File fault) bytes is read ends = faulty_end index bodies fault bytes is read ends
end_refused index bodies reads.ReadFault bytes is read ends = tt
end_refused index bodies reads.Memory bytes is read ends = tt

-- what refuses the end behind the bodies refuses the file
pub file-end_refused : (told : Option (List ℕ)) (index : IndexLists) (checker : CheckerSeen) (refusal : ReadRefusal) → IfSome told (λ bytes. index_in bytes ≡ Ok index)
    → IfSome told (λ bytes. FollowsBodies (Ok checker) (bodies_behind index bytes)) → IfSome told (λ bytes. Refuses refusal (end_in index bytes)) → IfSome told (λ bytes. Refuses refusal (file_in bytes))
file-end_refused None index checker refusal is read ends = tt
file-end_refused (Some bytes) index checker refusal is read ends = end_refused index read.0 refusal bytes is read.1 ends

-- the bodies and the end make the file
pub file-whole : (told : Option (List ℕ)) (index : IndexLists) (checker : CheckerSeen) → checker.index ≡ index → IfSome told (λ bytes. index_in bytes ≡ Ok index)
    → IfSome told (λ bytes. FollowsBodies (Ok checker) (bodies_behind index bytes)) → IfSome told (λ bytes. end_in index bytes ≡ Ok tt) → IfSome told (λ bytes. FollowsFile (Ok checker) (file_in bytes))
file-whole None index checker same is read ends = tt
file-whole (Some bytes) index checker same is read ends = (read.0, rw same (whole index read.0 bytes is read.1 ends), read.2)

refused : (refusal : ReadRefusal) (bytes : List ℕ) → Refuses refusal (file_in bytes) → Checks bytes (Err (check_refusal refusal))
refused (reads.File fault) bytes read = read
refused reads.ReadFault bytes read = tt
refused reads.Memory bytes read = tt

-- what refuses the file ends the check
pub check-refused : (told : Option (List ℕ)) (refusal : ReadRefusal) → IfSome told (λ bytes. Refuses refusal (file_in bytes)) → IfSome told (λ bytes. Checks bytes (Err (check_refusal refusal)))
check-refused None refusal read = tt
check-refused (Some bytes) refusal read = refused refusal bytes read

-- a fault of the mesh ends the check
pub check-faulty : (told : Option (List ℕ)) (checker : CheckerSeen) (fault : DagFault) → IfSome told (λ bytes. FollowsFile (Ok checker) (file_in bytes))
    → ((bodies : List BodyLists) → Follows checker bodies → IsMeshFault (file_with checker.index bodies) fault) → IfSome told (λ bytes. Checks bytes (Err (Refused (Dag fault))))
check-faulty None checker fault read verdict = tt
check-faulty (Some bytes) checker fault read verdict = (file_with checker.index read.0, read.1, verdict read.0 read.2)

-- the check gives the file's mesh
pub check-accepted : (told : Option (List ℕ)) (checker : CheckerSeen) (mesh : MeshSeen) → IfSome told AreBytes → IfSome told (λ bytes. FollowsFile (Ok checker) (file_in bytes))
    → ((bodies : List BodyLists) → Follows checker bodies → IsMeshOf (file_with checker.index bodies) mesh) → IfSome told (λ bytes. Checks bytes (Ok mesh))
check-accepted None checker mesh are read verdict = tt
check-accepted (Some bytes) checker mesh are read verdict =
    let file = file_with checker.index read.0 in
    (file, read.1, verdict read.0 read.2, file_text-in file bytes are read.1)
