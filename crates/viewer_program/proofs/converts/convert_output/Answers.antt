-- All bodies are loaded again, and make the file in another version.
use Rattle.std.proofs.Common.{map}
use Rattle.std.specs.Arc.{arc_value}
use Rattle.viewer_program.specs.declared.commands.FileCommand.TheVariants.{Convert}
use Rattle.viewer_program.proofs.ConvertLemmas.{told_load, told_parts, told_wide}
use Rattle.viewer_program.proofs.converts.convert_output.Goals as goal

pub returns-in-Err-clause-told : goal.returns-in-Err-clause-told
returns-in-Err-clause-told g c =
    rw c.status_of_load.ensures (told_load _ c.args.mesh.now (Convert c.args.version) c.in-Err.refusal (rw c.index.ensures.value at c.in-Err.ensures.told))

pub returns-in-Ok-convert_parts-clause-told : goal.returns-in-Ok-convert_parts-clause-told
returns-in-Ok-convert_parts-clause-told g c =
    told_parts _ c.args.mesh.now (map arc_value c.in-Ok.bodies.items) c.args.version c.in-Ok-convert_parts.parts (rw c.index.ensures.value at c.in-Ok.ensures.told)
    (rw (c.index-2.ensures.value, c.deref.ensures.value) at c.in-Ok-convert_parts.ensures.lists) c.in-Ok-convert_parts.ensures.file

pub returns-clause-told : goal.returns-clause-told
returns-clause-told g c =
    rw c.status_of_convert.ensures (told_wide _ c.args.mesh.now (map arc_value c.in-Ok.bodies.items) c.args.version c.in-Err-convert_parts.refusal (rw c.index.ensures.value at c.in-Ok.ensures.told)
    (rw c.deref.ensures.value at c.in-Err-convert_parts.ensures.wide))
