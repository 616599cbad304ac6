-- What was taken where a patch is told to be too wide.
use Rattle.std.proofs.Common.{◌≡◌, ◌∙◌, ℕ, ◌+◌, List, length, Option, Some, None, Result, Ok, Err, sym, ap}
use Rattle.std.specs.Prelude.{IfSome, IfErr}
use Rattle.file_model.specs.Lists.{IndexLists, FileLists, bodies_size}
use Rattle.file_model.specs.Reading.{file_size}
use Rattle.file_laws.specs.Files.{length-file_text, same_file}
use Rattle.accepted_mesh.specs.MeshView.{MeshSeen}
use Rattle.dag_check.specs.Checks.{Checks}
use Rattle.view_outside.specs.Taken.{taken_after, taken_after-taken_after}
use Rattle.text_model.specs.declared.statuses.Status.{Status}
use Rattle.text_model.specs.declared.statuses.Status.TheVariants as statuses
use Rattle.viewer_program.specs.WideTold.{IsBehindBodies, IsBehindLoads}

-- the bodies behind the whole file
wide_behind : (told : Option (List ℕ)) (mesh : MeshSeen) (taken between now : ℕ) → IfSome told (λ (bytes : List ℕ). Checks bytes (Ok mesh)) → between ≡ taken_after taken (file_size mesh.lists.index) → now ≡ taken_after between (bodies_size mesh.lists.index.version mesh.lists.index.fields) → IsBehindLoads told taken now (statuses.Wide 0)
wide_behind None mesh taken between now checked took more = tt
wide_behind (Some bytes) mesh taken between now (checked_file, is, of, checked_text) took more = λ file spelled.
    let same : mesh.lists.index ≡ file.index = sym of.index ∙ ap (λ (f : FileLists). f.index) (same_file checked_file file bytes checked_text spelled) in
    let whole : length bytes ≡ file_size file.index = ap length spelled.text ∙ length-file_text file spelled.bodies in
    more
    ∙ ap (λ (t : ℕ). taken_after t (bodies_size mesh.lists.index.version mesh.lists.index.fields)) took
    ∙ taken_after-taken_after taken (file_size mesh.lists.index) (bodies_size mesh.lists.index.version mesh.lists.index.fields)
    ∙ ap (λ (i : IndexLists). taken_after taken (file_size i + bodies_size i.version i.fields)) same
    ∙ ap (λ (n : ℕ). taken_after taken (n + bodies_size file.index.version file.index.fields)) (sym whole)

pub behind_loads : (told : Option (List ℕ)) (mesh : MeshSeen) (taken between now : ℕ) (status : Status) → IfSome told (λ (bytes : List ℕ). Checks bytes (Ok mesh)) → between ≡ taken_after taken (file_size mesh.lists.index) → IsBehindBodies mesh.lists.index between now status → IsBehindLoads told taken now status
behind_loads told mesh taken between now (statuses.Wide patch) checked took more = wide_behind told mesh taken between now checked took more
behind_loads told mesh taken between now statuses.Ok checked took more = tt
behind_loads told mesh taken between now statuses.Usage checked took more = tt
behind_loads told mesh taken between now (statuses.Refused refusal) checked took more = tt
behind_loads told mesh taken between now statuses.ReadFault checked took more = tt
behind_loads told mesh taken between now statuses.WriteFault checked took more = tt
behind_loads told mesh taken between now (statuses.Script fault) checked took more = tt
behind_loads told mesh taken between now (statuses.Budget need given) checked took more = tt
behind_loads told mesh taken between now statuses.Memory checked took more = tt
behind_loads told mesh taken between now (statuses.Changed patch fault) checked took more = tt

pub behind_loads_in : {T : Type 0} (result : Result T Status) (told : Option (List ℕ)) (mesh : MeshSeen) (taken between now : ℕ) → IfSome told (λ (bytes : List ℕ). Checks bytes (Ok mesh)) → between ≡ taken_after taken (file_size mesh.lists.index) → IfErr result (IsBehindBodies mesh.lists.index between now) → IfErr result (IsBehindLoads told taken now)
behind_loads_in (Ok x) told mesh taken between now checked took more = tt
behind_loads_in (Err status) told mesh taken between now checked took more = behind_loads told mesh taken between now status checked took more
