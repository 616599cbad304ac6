-- What a load's refusal is to a text.
use Rattle.std.proofs.Common.{◌≡◌, ℕ, List, Option, Some, None, Ok, Err, subst, sym}
use Rattle.std.specs.Prelude.{IfSome}
use Rattle.file_model.specs.Lists.{IndexLists, FileLists}
use Rattle.file_model.specs.Reading.{file_in}
use Rattle.body_loads.specs.declared.refusals.LoadRefusal.{LoadRefusal}
use Rattle.body_loads.specs.declared.refusals.LoadRefusal.TheVariants.{Changed, ReadFault, Memory}
use Rattle.body_loads.specs.Loads.{body_at, RefusesLoad}
use Rattle.body_loads.specs.LoadLaws.{loads_no_fault}
use Rattle.still_texts.specs.Texts.{GivesText}

refused_text : (refusal : LoadRefusal) (is_text : List ℕ → Type 0) (bytes : List ℕ) (index : IndexLists) (file : FileLists) (patches : List ℕ) → RefusesLoad index bytes patches refusal → file_in bytes ≡ Ok file → file.index ≡ index → GivesText is_text (Err refusal)
refused_text (Changed patch fault) is_text bytes index file patches breaks is same =
    loads_no_fault bytes file patch fault is (subst (λ (i : IndexLists). body_at i bytes patch ≡ Some (Err fault)) (sym same) breaks.breaks)
refused_text ReadFault is_text bytes index file patches breaks is same = tt
refused_text Memory is_text bytes index file patches breaks is same = tt

-- where the file is told a load never finds a change
pub refused_load : (told : Option (List ℕ)) (refusal : LoadRefusal) (is_text : FileLists → List ℕ → Type 0) (index : IndexLists) (patches : List ℕ) (IsOf : FileLists → Type 0) → ((file : FileLists) → IsOf file → file.index ≡ index) → IfSome told (λ (bytes : List ℕ). RefusesLoad index bytes patches refusal)
    → IfSome told (λ (bytes : List ℕ). (file : FileLists) → file_in bytes ≡ Ok file → IsOf file → GivesText (is_text file) (Err refusal))
refused_load None refusal is_text index patches IsOf same breaks = tt
refused_load (Some bytes) refusal is_text index patches IsOf same breaks = λ file is of. refused_text refusal (is_text file) bytes index file patches breaks is (same file of)
