use Rattle.token_table.proofs.Uses.{idle_again}
use Rattle.token_table.proofs.tests.lists.refuse_shared.Goals as goal

pub returns : goal.returns
returns g c =
    idle_again c.args.table.now c.args.seat.now c.try_lock-seen.new.seat _ c.args.patch c.try_lock-seen.result.epoch c.requires.seat c.withdraw.ensures.seat c.try_lock-seen.ensures.tried c.withdraw.ensures.left
