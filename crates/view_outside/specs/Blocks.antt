-- What a store that reads ahead is seen as, what its block holds, and how its bytes are handed over once.
use Rattle.std.specs.Prelude.{◌≡◌, ℕ, ◌+◌, ◌≤◌, List, Option, ◌⊎◌}
use Rattle.view_outside.specs.Files.{Named, ReadsFile, TellsBytes}
use Rattle.view_outside.specs.Taken.{taken_after}

-- the bytes of a file, from one offset up to another, that were read ahead and not handed over
pub record Left : Type 0 where
  pub file : ℕ
  pub from : ℕ
  pub upto : ℕ

-- the store behind, how many bytes were handed over, and what is left of those read ahead
pub record Ahead (S : Type 0) : Type 0 where
  pub store : S
  pub taken : ℕ
  pub left : Left

-- the block's first bytes, up to the end, were read from the file at the base
pub record HoldsPart (files : Option (List Named)) (file base : ℕ) (block : List ℕ) (end : ℕ) : Type 0 where
  pub bytes : ReadsFile files file base block end
  pub told : TellsBytes files file

-- no byte is left
abbrev pub LeavesNone : Left → Type 0
LeavesNone left = left.upto ≤ left.from

-- behind a read of n bytes at an offset no byte is left but those behind it, up to an end
pub record LeavesBehind (file offset n upto : ℕ) (left : Left) : Type 0 where
  pub same : left.file ≡ file
  pub behind : offset + n ≤ left.from
  pub within : left.upto ≤ upto

-- n bytes at an offset were handed over that were left, and nobody was asked for them
pub record HandsLeft {S : Type 0} (file offset n : ℕ) (before after : Ahead S) : Type 0 where
  pub unasked : after.store ≡ before.store
  pub same : before.left.file ≡ file
  pub begins : before.left.from ≤ offset
  pub ends : offset + n ≤ before.left.upto
  pub rest : LeavesBehind file offset n before.left.upto after.left

-- n bytes at an offset were handed over that the store behind gave now, and what it gave behind them may be left
pub record HandsGiven {S : Type 0} (taken : S → ℕ) (file offset n : ℕ) (before after : Ahead S) : Type 0 where
  pub given : ℕ
  pub counted : taken after.store ≡ taken_after (taken before.store) given
  pub within : n ≤ given
  pub rest : LeavesBehind file offset n (offset + given) after.left

-- each byte is handed over once at most for each time that the store behind gave it
abbrev pub HandsOnce : {S : Type 0} → (S → ℕ) → ℕ → ℕ → ℕ → Ahead S → Ahead S → Type 0
HandsOnce taken file offset n before after =
    HandsLeft file offset n before after ⊎ HandsGiven taken file offset n before after
