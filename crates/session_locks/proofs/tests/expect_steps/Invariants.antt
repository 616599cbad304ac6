-- The pass is the session's, which has a view.
use Rattle.std.proofs.Common.{◌≡◌, Some}
use Rattle.round_model.specs.Views.{ViewSeen}
use Rattle.session_locks.specs.Passes.{IsPassOf}
use Rattle.session_locks.proofs.tests.expect_steps.Given as goal

abbrev pub invariant-loop-step : goal.invariant-loop-step
invariant-loop-step g l = record {
  pass : IsPassOf (g.T.Tokens.IsPass l.tokens l.pass) (g.T.Tokens.patches l.tokens) (g.T.Tokens.uses l.tokens l.pass) (g.T.Tokens.locks l.tokens l.pass) l.session;
  view : (view : ViewSeen) × (l.session.state.view ≡ Some view);
}
