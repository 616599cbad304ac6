-- What the answers of a reader of scripts mean.
use Rattle.std.specs.Prelude.{◌≡◌, Result, Ok, Err}
use Rattle.text_model.specs.declared.faults.ScriptFault.{ScriptFault}
use Rattle.view_script.specs.declared.refusals.ScriptRefusal.{ScriptRefusal}
use Rattle.view_script.specs.declared.refusals.ScriptRefusal.TheVariants.{Script, ReadFault, Memory}

-- what a refusal says of what reading on lists gives: only a fault of the script says anything
abbrev pub Refuses : {Y : Type 0} → ScriptRefusal → Result Y ScriptFault → Type 0
Refuses (Script fault) read = read ≡ Err fault
Refuses ReadFault read = Unit {0}
Refuses Memory read = Unit {0}

-- what a reader answered, seen by `view`, is what reading on lists gives, but for want of memory and a
-- failing source
abbrev pub Gives : {X Y : Type 0} → (X → Y) → Result X ScriptRefusal → Result Y ScriptFault → Type 0
Gives view (Ok x) read = read ≡ Ok (view x)
Gives view (Err refusal) read = Refuses refusal read

-- the fact holds where the refusal is a fault of the script
abbrev pub IfJudged : Type 0 → ScriptRefusal → Type 0
IfJudged fact (Script fault) = fact
IfJudged fact ReadFault = Unit {0}
IfJudged fact Memory = Unit {0}

-- the refusal is no fault of the script
abbrev pub IsUnjudged : ScriptRefusal → Type 0
IsUnjudged refusal = IfJudged ⊥ refusal

-- the refusal isn't the source's failure, of what reads no source
abbrev pub IsNotReadFault : ScriptRefusal → Type 0
IsNotReadFault (Script fault) = Unit {0}
IsNotReadFault ReadFault = ⊥
IsNotReadFault Memory = Unit {0}
