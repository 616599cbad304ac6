use Rattle.token_table.proofs.Uses.{idle_again}
use Rattle.token_table.proofs.tests.lock_once.Goals as goal

pub returns-then-is_granted : goal.returns-then-is_granted
returns-then-is_granted c = record {
  seat = idle_again c.args.table.now c.args.seat.now c.try_lock.new.seat _ c.args.patch c.try_lock.result.epoch c.requires.seat c.unlock.ensures.seat c.try_lock.ensures.tried c.unlock.ensures.left;
}

pub returns-else-is_granted : goal.returns-else-is_granted
returns-else-is_granted c = record {
  seat = idle_again c.args.table.now c.args.seat.now c.try_lock.new.seat _ c.args.patch c.try_lock.result.epoch c.requires.seat c.withdraw.ensures.seat c.try_lock.ensures.tried c.withdraw.ensures.left;
}
