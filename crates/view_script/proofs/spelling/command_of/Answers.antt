use Rattle.std.proofs.Common.{◌≡◌, rules, ap, sym, arith}
use Rattle.std.specs.Prelude.{codes}
use Rattle.std.proofs.lemmas.Slice.Eq.{text_from_reads}
use Rattle.script_model.specs.Orders.{command_in}
use Rattle.view_script.proofs.spelling.command_of.Goals as goal

pub returns-in-settle : goal.returns-in-settle
unfolding command_in
returns-in-settle c = let e : c.args.word.now ≡ codes "settle" = text_from_reads c.args.word.now (codes "settle") (omega arith) (search rules) in ap command_in (sym e)

pub returns-in-status : goal.returns-in-status
unfolding command_in
returns-in-status c = let e : c.args.word.now ≡ codes "status" = text_from_reads c.args.word.now (codes "status") (omega arith) (search rules) in ap command_in (sym e)
