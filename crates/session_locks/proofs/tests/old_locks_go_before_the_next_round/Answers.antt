-- The second view was set.
use Rattle.session_locks.proofs.TestLaws.{viewed}
use Rattle.session_locks.proofs.tests.old_locks_go_before_the_next_round.Goals as goal

pub expect_steps-requires-2-clause-view : goal.expect_steps-requires-2-clause-view
expect_steps-requires-2-clause-view g c = viewed c.expect_steps.new.session c.set_view.new.self c.in_ok-view.field-0 c.set_view.ensures.state
