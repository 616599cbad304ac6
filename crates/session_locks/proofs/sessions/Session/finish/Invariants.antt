-- The steps so far were made, and what they leave as it was has stayed.
use Rattle.std.proofs.Common.{◌≡◌, true}
use Rattle.token_words.specs.Changes.{Stays, ChangesOnly}
use Rattle.session_model.specs.Does.{steps_left}
use Rattle.session_locks.specs.Sessions.{IsSession}
use Rattle.session_locks.specs.Passes.{IsPassOf}
use Rattle.session_locks.proofs.FinishParts.{AreUnderWay}
use Rattle.session_locks.proofs.sessions.Session.finish.Given as goal

abbrev pub invariant-steps : goal.invariant-steps
invariant-steps g l = record {
  pass : IsPassOf (g.T.Tokens.IsPass l.tokens l.pass) (g.T.Tokens.patches l.tokens) (g.T.Tokens.uses l.tokens l.pass) (g.T.Tokens.locks l.tokens l.pass) l.self;
  facts : IsSession l.self;
  way : AreUnderWay g.T.Tokens.tells_epochs (g.T.Tokens.epochs l.fn.tokens) g.T.Tokens.tells_tries (g.T.Tokens.tries l.fn.pass) (g.T.Tokens.tries l.pass) l.fn.self l.self;
  number : g.T.Tokens.number l.pass ≡ g.T.Tokens.number l.fn.pass;
  pass_table : g.T.Tokens.pass_table l.pass ≡ g.T.Tokens.pass_table l.fn.pass;
  table : g.T.Tokens.table l.tokens ≡ g.T.Tokens.table l.fn.tokens;
  patches : g.T.Tokens.patches l.tokens ≡ g.T.Tokens.patches l.fn.tokens;
  epochs : g.T.Tokens.tells_epochs ≡ true → Stays (g.T.Tokens.epochs l.fn.tokens) (g.T.Tokens.epochs l.tokens);
  use_sets : g.T.Tokens.tells_sets ≡ true → ChangesOnly (g.T.Tokens.number l.fn.pass) (g.T.Tokens.session_uses l.fn.tokens) (g.T.Tokens.session_uses l.tokens);
  lock_sets : g.T.Tokens.tells_sets ≡ true → ChangesOnly (g.T.Tokens.number l.fn.pass) (g.T.Tokens.session_locks l.fn.tokens) (g.T.Tokens.session_locks l.tokens);
  pins : g.T.Tokens.tells_sets ≡ true → Stays (g.T.Tokens.pinned l.fn.tokens) (g.T.Tokens.pinned l.tokens);
}

abbrev pub decreases-steps : goal.decreases-steps
decreases-steps g l = steps_left l.self.state
