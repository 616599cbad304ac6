-- Why there is no script where a source could not be read.
use Rattle.line_reader.specs.declared.refusals.LineRefusal.{LineRefusal}
use Rattle.line_reader.specs.declared.refusals.LineRefusal.TheVariants as readings
use Rattle.view_script.specs.declared.refusals.ScriptRefusal.{ScriptRefusal}
use Rattle.view_script.specs.declared.refusals.ScriptRefusal.TheVariants.{ReadFault, Memory}

-- the refusal of a reading
abbrev pub of_reading : LineRefusal → ScriptRefusal
of_reading readings.ReadFault = ReadFault
of_reading readings.Memory = Memory
