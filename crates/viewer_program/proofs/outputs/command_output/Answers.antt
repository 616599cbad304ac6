-- A patch that is too wide is told behind the whole file and its bodies.
use Rattle.viewer_program.proofs.WideLemmas.{behind_loads_in}
use Rattle.viewer_program.proofs.outputs.command_output.Goals as goal

pub returns-in-Ok-clause-wide : goal.returns-in-Ok-clause-wide
returns-in-Ok-clause-wide g c = behind_loads_in c.output_of.result _ c.in-Ok.mesh _ _ _ c.in-Ok.ensures.told c.in-Ok.ensures.taken c.output_of.ensures.wide
