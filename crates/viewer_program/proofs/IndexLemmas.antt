-- A fault of the index is the file's.
use Rattle.std.proofs.Common.{ℕ, List, Option, Some, None, Err, refl}
use Rattle.std.specs.Prelude.{IfSome}
use Rattle.file_model.specs.declared.refusals.ReadRefusal.{ReadRefusal}
use Rattle.file_model.specs.declared.refusals.ReadRefusal.TheVariants as reads
use Rattle.file_model.specs.Answers.{Refuses}
use Rattle.file_model.specs.Reading.{index_in, file_in}
use Rattle.dag_check.specs.declared.refusals.CheckRefusal.TheVariants as checks
use Rattle.dag_check.specs.Refusals.{check_refusal}
use Rattle.dag_check.specs.Checks.{Checks}
use Rattle.patch_file.specs.Taking.{index_size}
use Rattle.view_outside.specs.OnlyRead.{OnlyIf}
use Rattle.view_outside.specs.Taken.{RisesBelow}
use Rattle.viewer_program.specs.Loading.{TakesLess}
use Rattle.viewer_program.proofs.TakenLemmas.{takes_index}

index_fault : (bytes : List ℕ) (refusal : ReadRefusal) → Refuses refusal (index_in bytes) → Checks bytes (Err (check_refusal refusal))
unfolding file_in
index_fault bytes (reads.File fault) is = rw is refl
index_fault bytes reads.ReadFault is = tt
index_fault bytes reads.Memory is = tt

pub index_refused : (told : Option (List ℕ)) (refusal : ReadRefusal) → IfSome told (λ (bytes : List ℕ). Refuses refusal (index_in bytes)) → IfSome told (λ (bytes : List ℕ). Checks bytes (Err (check_refusal refusal)))
index_refused None refusal is = tt
index_refused (Some bytes) refusal is = index_fault bytes refusal is

-- what was taken where the store failed in the index
pub index_cut : (told : Option (List ℕ)) (taken now : ℕ) (refusal : ReadRefusal) → OnlyIf reads.ReadFault (RisesBelow taken now (index_size told)) refusal → OnlyIf checks.ReadFault (TakesLess told taken now) (check_refusal refusal)
index_cut told taken now (reads.File fault) cut is = absurd cc
index_cut told taken now reads.ReadFault cut is = takes_index told taken now (cut refl)
index_cut told taken now reads.Memory cut is = absurd cc
