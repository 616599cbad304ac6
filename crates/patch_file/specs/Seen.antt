-- What a reader answers of bytes that are there.
use Rattle.std.specs.Prelude.{◌≡◌, Result, Ok, Err, MatchResult}
use Rattle.file_model.specs.declared.faults.FileFault.{FileFault}

-- what a reader of bytes answered, seen by `view`, is what reading on lists gives
abbrev pub GivesBytes : {X Y : Type 0} → (X → Y) → Result X FileFault → Result Y FileFault → Type 0
GivesBytes view result read = MatchResult result (λ x. read ≡ Ok (view x)) (λ fault. read ≡ Err fault)
