use Rattle.std.specs.Prelude.{string_bytes}
use Rattle.viewer_program.proofs.SpeltLemmas.{too_few_for_pick}
use Rattle.viewer_program.proofs.commands.reading.read_pick.Goals as goal

pub returns-in_default-clause-value : goal.returns-in_default-clause-value
returns-in_default-clause-value c = too_few_for_pick string_bytes c.args.words.now c.in_default.len_below
