-- The pass is the session's.
use Rattle.session_locks.specs.Passes.{IsPassOf}
use Rattle.session_locks.proofs.tests.expect_freed.Given as goal

abbrev pub invariant-loop-step : goal.invariant-loop-step
invariant-loop-step g l = IsPassOf (g.T.Tokens.IsPass l.tokens l.pass) (g.T.Tokens.patches l.tokens) (g.T.Tokens.uses l.tokens l.pass) (g.T.Tokens.locks l.tokens l.pass) l.session
