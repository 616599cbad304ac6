-- The words before this one share no bit.
use Rattle.std.proofs.Common.{◌≡◌, ◌<◌, ℕ}
use Rattle.std.specs.Prelude.{slice_index}
use Rattle.std.specs.Int.RustNames.{bit_and}
use Rattle.tier_budget.proofs.patch_words.PatchWords.meets.Given as goal

abbrev pub invariant-loop-at : goal.invariant-loop-at
invariant-loop-at l = (i : ℕ) → i < l.at → bit_and (slice_index l.self-inside.words.items i) (slice_index l.other-inside.words.items i) ≡ 0
