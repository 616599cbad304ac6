-- Why driving stops where a line could not be read.
use Rattle.line_reader.specs.declared.refusals.LineRefusal.{LineRefusal}
use Rattle.line_reader.specs.declared.refusals.LineRefusal.TheVariants as readings
use Rattle.live_machine.specs.declared.refusals.DriveRefusal.{DriveRefusal}
use Rattle.live_machine.specs.declared.refusals.DriveRefusal.TheVariants.{ReadFault, Memory}

-- the refusal of a reading
abbrev pub of_reading : LineRefusal → DriveRefusal
of_reading readings.ReadFault = ReadFault
of_reading readings.Memory = Memory
