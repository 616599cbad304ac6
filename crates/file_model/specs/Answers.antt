-- What the answers of a reader mean.
use Rattle.std.specs.Prelude.{◌≡◌, Result, Ok, Err}
use Rattle.file_model.specs.declared.faults.FileFault.{FileFault}
use Rattle.file_model.specs.declared.refusals.ReadRefusal.{ReadRefusal}
use Rattle.file_model.specs.declared.refusals.ReadRefusal.TheVariants.{File, ReadFault, Memory}

-- what a refusal says of what reading on lists gives: only a fault of the file says anything
abbrev pub Refuses : {Y : Type 0} → ReadRefusal → Result Y FileFault → Type 0
Refuses (File fault) read = read ≡ Err fault
Refuses ReadFault read = Unit {0}
Refuses Memory read = Unit {0}

-- what a reader answered, seen by `view`, is what reading on lists gives, but for want of memory and a
-- failing store
abbrev pub Gives : {X Y : Type 0} → (X → Y) → Result X ReadRefusal → Result Y FileFault → Type 0
Gives view (Ok x) read = read ≡ Ok (view x)
Gives view (Err refusal) read = Refuses refusal read

-- a refusal that isn't want of memory
abbrev pub IsNotMemory : ReadRefusal → Type 0
IsNotMemory (File fault) = Unit {0}
IsNotMemory ReadFault = Unit {0}
IsNotMemory Memory = ⊥

-- a refusal that isn't the store's failure, of what reads no store
abbrev pub IsNotReadFault : ReadRefusal → Type 0
IsNotReadFault (File fault) = Unit {0}
IsNotReadFault ReadFault = ⊥
IsNotReadFault Memory = Unit {0}

-- a refusal that tells no fault
abbrev pub IsNotFault : ReadRefusal → Type 0
IsNotFault (File fault) = ⊥
IsNotFault ReadFault = Unit {0}
IsNotFault Memory = Unit {0}
