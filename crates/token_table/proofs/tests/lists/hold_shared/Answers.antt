use Rattle.token_table.proofs.Uses.{idle_again}
use Rattle.token_table.proofs.tests.lists.hold_shared.Goals as goal

pub returns-clause-seat : goal.returns-clause-seat
returns-clause-seat g c =
    idle_again c.args.table.now c.args.seat.now c.try_lock-seen.new.seat _ c.args.patch c.try_lock-seen.result.epoch c.requires.seat c.unlock.ensures.seat c.try_lock-seen.ensures.tried c.unlock.ensures.left
