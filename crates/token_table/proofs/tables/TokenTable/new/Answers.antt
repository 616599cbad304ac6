use Rattle.token_table.proofs.Openings.{result_at_zero}
use Rattle.token_table.proofs.tables.TokenTable.new.Goals as goal

pub returns : goal.returns
returns c = result_at_zero c.args.patches c.args.base.now c.args.sessions c.starting_at.result c.requires.base c.starting_at.ensures
