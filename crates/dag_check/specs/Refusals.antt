-- What a reader's refusal is to a check.
use Rattle.file_model.specs.declared.refusals.ReadRefusal.{ReadRefusal}
use Rattle.file_model.specs.declared.refusals.ReadRefusal.TheVariants as reads
use Rattle.mesh_model.specs.declared.refusals.Refusal.TheVariants.{File}
use Rattle.dag_check.specs.declared.refusals.CheckRefusal.{CheckRefusal}
use Rattle.dag_check.specs.declared.refusals.CheckRefusal.TheVariants.{Refused, ReadFault, Memory}

-- a fault of the file refuses it; a failing store and want of memory are refusals of their own
abbrev pub check_refusal : ReadRefusal → CheckRefusal
check_refusal (reads.File fault) = Refused (File fault)
check_refusal reads.ReadFault = ReadFault
check_refusal reads.Memory = Memory
