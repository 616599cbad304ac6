-- What a call that only reads leaves of a store, and when it may answer that the store failed.
use Rattle.std.specs.Prelude.{◌≡◌, ℕ, ◌≤◌, List, Option, Result, IfErr}
use Rattle.view_outside.specs.Faults.{Rose}
use Rattle.view_outside.specs.Files.{Named}

-- the answer is this failure only where the fact holds
abbrev pub OnlyIf : {E : Type 0} → E → Type 0 → E → Type 0
OnlyIf failure fact answer = answer ≡ failure → fact

-- the store's files are what they were, its count of faults didn't fall, and it rose where the answer is the store's
-- failure
pub record OnlyRead {T E : Type 0} (failure : E) (before after : Option (List Named))
    (faults now : ℕ) (result : Result T E) : Type 0 where
  pub kept : after ≡ before
  pub later : faults ≤ now
  pub cause : IfErr result (OnlyIf failure (Rose faults now))
