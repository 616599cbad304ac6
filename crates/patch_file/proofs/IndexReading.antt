-- Reading what stands before the bodies in two pieces.
use Rattle.std.proofs.Common.{◌≡◌, ℕ, ◌+◌, ◌≤◌, leb, List, take, drop, Option, Some, None, Result, Ok, refl, sym, subst, ◌∙◌, arith}
use Rattle.std.specs.Prelude.{IfSome, IfErr}
use Rattle.std.proofs.lemmas.Bool.{and_parts, leb-true}
use Rattle.std.proofs.lemmas.Result.{IfErr-weaker}
use Rattle.file_model.specs.declared.refusals.ReadRefusal.{ReadRefusal}
use Rattle.file_model.specs.declared.refusals.ReadRefusal.TheVariants.{File, ReadFault, Memory}
use Rattle.file_model.specs.Answers.{Gives, Refuses, IsNotReadFault}
use Rattle.file_model.specs.Lists.{IndexLists}
use Rattle.file_model.specs.Reading.{Header, header_in, fields_size, fields_in, index_in}
use Rattle.view_outside.specs.OnlyRead.{OnlyIf}
use Rattle.view_outside.specs.Taken.{taken_after, RisesBelow, taken_after-taken_after}
use Rattle.patch_file.specs.Headers.{IsHeader}
use Rattle.patch_file.specs.Taking.{index_size}

-- ---- refusals

pub OnlyIf-weaker : {A B E : Type 0} (failure refusal : E) → (A → B) → OnlyIf failure A refusal → OnlyIf failure B refusal
OnlyIf-weaker failure refusal weaker fails is = weaker (fails is)

never_fails : (fact : Type 0) (refusal : ReadRefusal) → IsNotReadFault refusal → OnlyIf ReadFault fact refusal
never_fails fact (File fault) alone is = absurd cc
never_fails fact ReadFault alone is = absurd alone
never_fails fact Memory alone is = absurd cc

-- what reads no store fails only by its bytes and for want of memory
pub fails_never : {X : Type 0} (result : Result X ReadRefusal) (fact : Type 0) → IfErr result IsNotReadFault → IfErr result (OnlyIf ReadFault fact)
fails_never result fact alone = IfErr-weaker result IsNotReadFault (OnlyIf ReadFault fact) (never_fails fact) alone

-- ---- what was read, where the file is told

refused : (refusal : ReadRefusal) (bytes : List ℕ) → Refuses refusal (header_in (take 16 bytes)) → Refuses refusal (index_in bytes)
unfolding index_in
refused (File fault) bytes read = rw read refl
refused ReadFault bytes read = tt
refused Memory bytes read = tt

-- the header is refused
pub index_refused : (refusal : ReadRefusal) (told : Option (List ℕ)) → IfSome told (λ bytes. Refuses refusal (header_in (take 16 bytes))) → IfSome told (λ bytes. Refuses refusal (index_in bytes))
index_refused refusal None read = tt
index_refused refusal (Some bytes) read = refused refusal bytes read

index_in-after : (header : Header) (bytes : List ℕ) → header_in (take 16 bytes) ≡ Ok header → index_in bytes ≡ fields_in header (take (fields_size header) (drop 16 bytes))
unfolding index_in
index_in-after header bytes read = rw read refl

-- the fields are read behind the header
pub index_gives : (header : Header) (result : Result IndexLists ReadRefusal) (told : Option (List ℕ)) → IfSome told (λ bytes. header_in (take 16 bytes) ≡ Ok header)
    → IfSome told (λ bytes. Gives (λ (index : IndexLists). index) result (fields_in header (take (fields_size header) (drop 16 bytes)))) → IfSome told (λ bytes. Gives (λ (index : IndexLists). index) result (index_in bytes))
index_gives header result None read fields = tt
index_gives header result (Some bytes) read fields = subst (Gives (λ (index : IndexLists). index) result) (sym (index_in-after header bytes read)) fields

-- ---- how much was taken

index_size-after : (header : Header) (told : Option (List ℕ)) → IsHeader header → IfSome told (λ bytes. header_in (take 16 bytes) ≡ Ok header) → 16 + fields_size header ≤ index_size told
index_size-after header None is read =
    let nodes = leb-true header.nodes 65536 (and_parts (leb 2 header.nodes) (leb header.nodes 65536) is.nodes).1 in
    let patches = leb-true header.patches 65536 (and_parts (leb 1 header.patches) (leb header.patches 65536) is.patches).1 in
    omega (arith, nodes, patches)
index_size-after header (Some bytes) is read = rw read (omega arith)

-- a read behind the header that failed
pub index_cut : (header : Header) (told : Option (List ℕ)) (before between now : ℕ) → IsHeader header → IfSome told (λ bytes. header_in (take 16 bytes) ≡ Ok header)
    → between ≡ taken_after before 16 → RisesBelow between now (fields_size header) → RisesBelow before now (index_size told)
index_cut header told before between now is read first rises =
    record {
      bytes = 16 + rises.bytes;
      below = omega (arith, rises.below, index_size-after header told is read);
      sum = rises.sum ∙ rw first (taken_after-taken_after before 16 rises.bytes);
    }
