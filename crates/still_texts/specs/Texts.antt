-- What is given of a file that was checked: a text, or why there is none.
use Rattle.std.specs.Prelude.{ℕ, List, Result, Ok, Err}
use Rattle.std.specs.Global.{Vec}
use Rattle.body_loads.specs.declared.refusals.LoadRefusal.{LoadRefusal}
use Rattle.body_loads.specs.declared.refusals.LoadRefusal.TheVariants.{Changed, ReadFault, Memory}

-- the text is as it should be. A file whose bytes are told doesn't change
abbrev pub GivesText : (List ℕ → Type 0) → Result (Vec ℕ) LoadRefusal → Type 0
GivesText is_text (Ok text) = is_text text.items
GivesText is_text (Err (Changed patch fault)) = ⊥
GivesText is_text (Err ReadFault) = Unit {0}
GivesText is_text (Err Memory) = Unit {0}
