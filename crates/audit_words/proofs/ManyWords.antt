-- No fault has more than four numbers.
use Rattle.std.proofs.Common.{◌≡◌, ℕ, ◌≤◌, List, length, Option, Some, None, refl, ap, arith}
use Rattle.file_model.specs.declared.faults.FileFault.{FileFault}
use Rattle.file_model.specs.declared.faults.FileFault.TheVariants.{Magic, Version, NotZero, NodeCount, PatchCount, Truncated, Trailing, NodeOutOfGrid, ArcEnd, BodyCount, PointOutOfGrid, CornerIndex, Flat, Loose}
use Rattle.text_model.specs.StatusText.{file_fault_words}
use Rattle.audit_spelling.specs.FaultLaws.{fault_spells}
use Rattle.audit_spelling.specs.Spellings.{fault_in}

few_words : (fault : FileFault) → length (file_fault_words fault) ≤ 4
few_words Magic = omega arith
few_words (Version found) = omega arith
few_words NotZero = omega arith
few_words (NodeCount count) = omega arith
few_words (PatchCount count) = omega arith
few_words (Truncated length) = omega arith
few_words (Trailing seen) = omega arith
few_words (NodeOutOfGrid node) = omega arith
few_words (ArcEnd patch) = omega arith
few_words (BodyCount patch) = omega arith
few_words (PointOutOfGrid patch point) = omega arith
few_words (CornerIndex patch triangle corner) = omega arith
few_words (Flat patch triangle) = omega arith
few_words (Loose patch axis) = omega arith

none_in : (words : List (List ℕ)) (o : Option FileFault) → fault_in words ≡ o → 5 ≤ length words → fault_in words ≡ None
none_in words None is many = is
none_in words (Some fault) is many =
    absurd (let few = few_words fault in let same = ap length (fault_spells.sound words fault is).0 in omega arith)

pub many_words : (words : List (List ℕ)) → 5 ≤ length words → fault_in words ≡ None
many_words words many = none_in words (fault_in words) refl many
