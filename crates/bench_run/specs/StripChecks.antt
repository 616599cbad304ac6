-- What is read of the strip's file from a store that never fails, and what its check answers: nothing but want of memory
-- stands in their way.
use Rattle.std.proofs.Common.{◌≡◌, ℕ, ◌<◌, ◌≤◌, List, [], ◌∷◌, length, Result, Ok, Err, refl, sym, ap, subst, ◌∙◌, arith}
use Rattle.std.specs.Prelude.{Some, IfErr, IfSome, MatchResult}
use Rattle.std.specs.List.{flat_map}
use Rattle.file_model.specs.declared.refusals.ReadRefusal.{ReadRefusal}
use Rattle.file_model.specs.declared.refusals.ReadRefusal.TheVariants as reads
use Rattle.file_model.specs.Answers.{Gives}
use Rattle.file_model.specs.Lists.{FileLists, IndexLists}
use Rattle.file_model.specs.Reading.{index_in, file_in}
use Rattle.file_model.specs.Spelling.{body_text, file_text}
use Rattle.file_laws.specs.Files.{file_in-text}
use Rattle.file_laws.specs.Indexes.{index_in-text}
use Rattle.mesh_model.specs.declared.refusals.Refusal.TheVariants.{File, Dag}
use Rattle.mesh_model.specs.Accepted.{IsAccepted}
use Rattle.accepted_mesh.specs.MeshView.{MeshSeen, IsMeshOf}
use Rattle.dag_check.specs.Checks.{Checks}
use Rattle.dag_check.specs.declared.refusals.CheckRefusal.{CheckRefusal}
use Rattle.dag_check.specs.declared.refusals.CheckRefusal.TheVariants as checks
use Rattle.strip_laws.specs.StripRules.{strip_index, strip_is_file, strip_is_accepted}
use Rattle.mesh_laws.specs.Verdicts.{not_both}
use Rattle.view_outside.specs.Faults.{Rose}
use Rattle.view_outside.specs.Files.{Named, file_bytes}
use Rattle.view_outside.specs.OnlyRead.{OnlyIf}
use Rattle.bench_laws.specs.BenchRuns.{bench_file}

-- the files of the store: the strip's, which has no name
abbrev pub strip_files : ℕ → List Named
strip_files c = ([], file_text (bench_file c)) ∷ []

module _ (c : ℕ) (some : 2 ≤ c) (few : c ≤ 16384) where
  pub strip_is_read : file_in (file_text (bench_file c)) ≡ Ok (bench_file c)
  strip_is_read = file_in-text (bench_file c) (file_text (bench_file c)) (strip_is_file 1 c refl some few)

  pub index_is_read : index_in (file_text (bench_file c)) ≡ Ok (bench_file c).index
  unfolding file_text
  index_is_read = index_in-text (bench_file c).index (flat_map (body_text 1) (bench_file c).bodies) (strip_index 1 c refl some few)

  index_given : (result : Result IndexLists ReadRefusal) → Gives (λ (index : IndexLists). index) result (index_in (file_text (bench_file c))) → IfErr result (OnlyIf reads.ReadFault (Rose 0 0))
      → MatchResult result (λ index. index ≡ (bench_file c).index) (λ refusal. refusal ≡ reads.Memory)
  index_given (Ok index) gives cause = let is = index_is_read in cc
  index_given (Err (reads.File fault)) gives cause = let is = index_is_read in absurd (cc)
  index_given (Err reads.ReadFault) gives cause = absurd (let rose : Rose 0 0 = cause refl in omega arith)
  index_given (Err reads.Memory) gives cause = refl

  check_given : (result : Result MeshSeen CheckRefusal) → Checks (file_text (bench_file c)) result → IfErr result (OnlyIf checks.ReadFault (Rose 0 0)) → MatchResult result (IsMeshOf (bench_file c)) (λ refusal. refusal ≡ checks.Memory)
  check_given (Ok mesh) (file, is, of, whole) cause = let again = strip_is_read in let same : file ≡ bench_file c = cc in subst (λ (f : FileLists). IsMeshOf f mesh) same of
  check_given (Err (checks.Refused (File fault))) is cause = let again = strip_is_read in absurd (cc)
  check_given (Err (checks.Refused (Dag fault))) (file, is, faulty) cause = let again = strip_is_read in let same : file ≡ bench_file c = cc in absurd (not_both file 0 fault (subst (λ (f : FileLists). IsAccepted f 0) (sym same) (strip_is_accepted 1 c (omega arith))) faulty)
  check_given (Err checks.ReadFault) is cause = absurd (let rose : Rose 0 0 = cause refl in omega arith)
  check_given (Err checks.Memory) is cause = refl

  -- the index of file 0 of the store
  pub index_answer : (files : List Named) → files ≡ strip_files c → (result : Result IndexLists ReadRefusal) → IfSome (file_bytes (Some files) 0) (λ bytes. Gives (λ (index : IndexLists). index) result (index_in bytes))
      → IfErr result (OnlyIf reads.ReadFault (Rose 0 0)) → MatchResult result (λ index. index ≡ (bench_file c).index) (λ refusal. refusal ≡ reads.Memory)
  index_answer files are result gives cause =
      index_given result (subst (λ (fs : List Named). IfSome (file_bytes (Some fs) 0) (λ bytes. Gives (λ (index : IndexLists). index) result (index_in bytes))) are gives) cause

  -- the mesh of that file
  pub check_answer : (files : List Named) → files ≡ strip_files c → (result : Result MeshSeen CheckRefusal) → IfSome (file_bytes (Some files) 0) (λ bytes. Checks bytes result) → IfErr result (OnlyIf checks.ReadFault (Rose 0 0))
      → MatchResult result (IsMeshOf (bench_file c)) (λ refusal. refusal ≡ checks.Memory)
  check_answer files are result gives cause = check_given result (subst (λ (fs : List Named). IfSome (file_bytes (Some fs) 0) (λ bytes. Checks bytes result)) are gives) cause

  -- an index that is the strip's is that of its bytes
  pub index_told : (files : List Named) → files ≡ strip_files c → (index : IndexLists) → index ≡ (bench_file c).index → IfSome (file_bytes (Some files) 0) (λ bytes. index_in bytes ≡ Ok index)
  index_told files are index is =
      subst (λ (fs : List Named). IfSome (file_bytes (Some fs) 0) (λ bytes. index_in bytes ≡ Ok index)) (sym are) (index_is_read ∙ ap (λ (i : IndexLists). Ok i) (sym is))

-- file 0 is there
pub has_strip : (c : ℕ) (files : List Named) → files ≡ strip_files c → 0 < length files
has_strip c files are = let many = ap length are in omega (arith, many)
