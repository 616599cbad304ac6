use Rattle.script_model.specs.ScriptLaws.{script_are_lines, first_stands}
use Rattle.script_model.proofs.scripts_have_allowed_lines.Goals as goal

pub returns-clause-lines : goal.returns-clause-lines
returns-clause-lines c = script_are_lines

pub returns-clause-first : goal.returns-clause-first
returns-clause-first c = first_stands
