-- What the bodies that were loaded again tell of the file, where it is told.
use Rattle.std.proofs.Common.{◌≡◌, ℕ, List, Option, Some, None, Ok, Err, sym, ap, subst, ◌∙◌}
use Rattle.std.specs.Prelude.{IfSome}
use Rattle.file_model.specs.Lists.{IndexLists, FileLists, SeenBody}
use Rattle.file_model.specs.Spelling.{file_text}
use Rattle.file_model.specs.Reading.{file_in}
use Rattle.file_model.specs.Rules.{IsPatchFile}
use Rattle.accepted_mesh.specs.MeshView.{MeshSeen, IsMeshOf}
use Rattle.body_loads.specs.declared.refusals.LoadRefusal.{LoadRefusal}
use Rattle.body_loads.specs.declared.refusals.LoadRefusal.TheVariants.{Changed, ReadFault, Memory}
use Rattle.body_loads.specs.Loads.{body_at, AreBodiesAt, RefusesLoad}
use Rattle.body_loads.specs.LoadLaws.{loads_no_fault}
use Rattle.file_convert.specs.Converted.{with_version}
use Rattle.file_convert.specs.declared.refusals.ConvertRefusal.{ConvertRefusal}
use Rattle.file_convert.specs.declared.refusals.ConvertRefusal.TheVariants as converts
use Rattle.file_convert.specs.Held.{lists_of, held_file, RefusesWide}
use Rattle.file_convert.specs.Whole.{all_patches, loaded_is_file}
use Rattle.viewer_program.specs.declared.commands.FileCommand.{FileCommand}
use Rattle.viewer_program.specs.declared.commands.FileCommand.TheVariants.{Convert}
use Rattle.viewer_program.specs.Outputs.{StopsAfter}
use Rattle.viewer_program.specs.Refusals.{load_status, convert_status}

load_stops : (bytes : List ℕ) (file : FileLists) (index : IndexLists) (patches : List ℕ) (command : FileCommand) (refusal : LoadRefusal) → file_in bytes ≡ Ok file → file.index ≡ index → RefusesLoad index bytes patches refusal → StopsAfter command file (load_status refusal)
load_stops bytes file index patches command (Changed patch fault) is of change = absurd (loads_no_fault bytes file patch fault is (subst (λ (i : IndexLists). body_at i bytes patch ≡ Some (Err fault)) (sym of) change.breaks))
load_stops bytes file index patches command ReadFault is of change = tt
load_stops bytes file index patches command Memory is of change = tt

-- a load's refusal, which is no change
pub told_load : (told : Option (List ℕ)) (mesh : MeshSeen) (command : FileCommand) (refusal : LoadRefusal) → IfSome told (λ (bytes : List ℕ). RefusesLoad mesh.lists.index bytes (all_patches mesh.lists.index) refusal)
    → IfSome told (λ (bytes : List ℕ). (file : FileLists) → file_in bytes ≡ Ok file → IsMeshOf file mesh → StopsAfter command file (load_status refusal))
told_load None mesh command refusal change = tt
told_load (Some bytes) mesh command refusal change = λ file is of. load_stops bytes file mesh.lists.index (all_patches mesh.lists.index) command refusal is of.index change

-- what is held of the mesh is its file
held_is : (bytes : List ℕ) (file : FileLists) (mesh : MeshSeen) (bodies : List SeenBody) → file_in bytes ≡ Ok file → IsMeshOf file mesh → AreBodiesAt mesh.lists.index bytes (all_patches mesh.lists.index) bodies → held_file mesh.lists.index bodies ≡ file
held_is bytes file mesh bodies is of are =
    subst (λ (i : IndexLists). AreBodiesAt i bytes (all_patches i) bodies → held_file i bodies ≡ file) of.index (loaded_is_file bytes file bodies is) are

-- the file's parts in a version
pub told_parts : (told : Option (List ℕ)) (mesh : MeshSeen) (bodies : List SeenBody) (version : ℕ) (parts : FileLists) → IfSome told (λ (bytes : List ℕ). AreBodiesAt mesh.lists.index bytes (all_patches mesh.lists.index) bodies)
    → parts ≡ with_version version (held_file mesh.lists.index bodies) → IsPatchFile parts (file_text parts)
    → IfSome told (λ (bytes : List ℕ). (file : FileLists) → file_in bytes ≡ Ok file → IsMeshOf file mesh → IsPatchFile (with_version version file) (file_text parts))
told_parts None mesh bodies version parts are made spelled = tt
told_parts (Some bytes) mesh bodies version parts are made spelled = λ file is of.
    subst (λ (p : FileLists). IsPatchFile p (file_text parts)) (made ∙ ap (with_version version) (held_is bytes file mesh bodies is of are)) spelled

wide_stops : (version : ℕ) (file : FileLists) (refusal : ConvertRefusal) → RefusesWide version file.bodies refusal → StopsAfter (Convert version) file (convert_status refusal)
wide_stops version file (converts.Wide patch) wide = wide
wide_stops version file converts.Memory wide = tt

-- the file's least patch that is too wide
pub told_wide : (told : Option (List ℕ)) (mesh : MeshSeen) (bodies : List SeenBody) (version : ℕ) (refusal : ConvertRefusal) → IfSome told (λ (bytes : List ℕ). AreBodiesAt mesh.lists.index bytes (all_patches mesh.lists.index) bodies)
    → RefusesWide version (lists_of bodies) refusal
    → IfSome told (λ (bytes : List ℕ). (file : FileLists) → file_in bytes ≡ Ok file → IsMeshOf file mesh → StopsAfter (Convert version) file (convert_status refusal))
told_wide None mesh bodies version refusal are wide = tt
told_wide (Some bytes) mesh bodies version refusal are wide = λ file is of.
    wide_stops version file refusal (subst (λ (f : FileLists). RefusesWide version f.bodies refusal) (held_is bytes file mesh bodies is of are) wide)
