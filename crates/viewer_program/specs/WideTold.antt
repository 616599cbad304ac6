-- A patch that is too wide for version 2 is told only behind the loads.
use Rattle.std.specs.Prelude.{◌≡◌, ℕ, ◌+◌, List, Option, length, IfSome}
use Rattle.file_model.specs.Lists.{IndexLists, FileLists, bodies_size}
use Rattle.file_model.specs.Rules.{IsPatchFile}
use Rattle.view_outside.specs.Taken.{taken_after}
use Rattle.text_model.specs.declared.statuses.Status.{Status}
use Rattle.text_model.specs.declared.statuses.Status.TheVariants as statuses

-- all bodies were taken by then
abbrev pub IsBehindBodies : IndexLists → ℕ → ℕ → Status → Type 0
IsBehindBodies index taken taken_now (statuses.Wide patch) = taken_now ≡ taken_after taken (bodies_size index.version index.fields)
IsBehindBodies index taken taken_now status = Unit {0}

-- the whole file was taken by then, where it is told, and then all its bodies once more
abbrev pub IsBehindLoads : Option (List ℕ) → ℕ → ℕ → Status → Type 0
IsBehindLoads told taken taken_now (statuses.Wide patch) =
    IfSome told (λ bytes. (file : FileLists) → IsPatchFile file bytes → taken_now ≡ taken_after taken (length bytes + bodies_size file.index.version file.index.fields))
IsBehindLoads told taken taken_now status = Unit {0}
