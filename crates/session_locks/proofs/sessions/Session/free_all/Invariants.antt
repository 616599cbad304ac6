-- So many old locks were given back so far, and what the steps leave as it was has stayed.
use Rattle.std.proofs.Common.{◌≡◌, true}
use Rattle.token_words.specs.Changes.{Stays, ChangesOnly}
use Rattle.session_model.specs.Freeing.{uses_left}
use Rattle.session_locks.specs.Sessions.{IsSession}
use Rattle.session_locks.specs.Passes.{IsPassOf}
use Rattle.session_locks.proofs.FreeParts.{AreFreeing}
use Rattle.session_locks.proofs.sessions.Session.free_all.Given as goal

abbrev pub invariant-frees : goal.invariant-frees
invariant-frees g l = record {
  pass : IsPassOf (g.T.Tokens.IsPass l.tokens l.pass) (g.T.Tokens.patches l.tokens) (g.T.Tokens.uses l.tokens l.pass) (g.T.Tokens.locks l.tokens l.pass) l.self;
  facts : IsSession l.self;
  way : AreFreeing l.fn.self l.unlocks l.self;
  number : g.T.Tokens.number l.pass ≡ g.T.Tokens.number l.fn.pass;
  pass_table : g.T.Tokens.pass_table l.pass ≡ g.T.Tokens.pass_table l.fn.pass;
  table : g.T.Tokens.table l.tokens ≡ g.T.Tokens.table l.fn.tokens;
  patches : g.T.Tokens.patches l.tokens ≡ g.T.Tokens.patches l.fn.tokens;
  tries : g.T.Tokens.tells_tries ≡ true → g.T.Tokens.tries l.pass ≡ g.T.Tokens.tries l.fn.pass;
  epochs : g.T.Tokens.tells_epochs ≡ true → Stays (g.T.Tokens.epochs l.fn.tokens) (g.T.Tokens.epochs l.tokens);
  use_sets : g.T.Tokens.tells_sets ≡ true → ChangesOnly (g.T.Tokens.number l.fn.pass) (g.T.Tokens.session_uses l.fn.tokens) (g.T.Tokens.session_uses l.tokens);
  lock_sets : g.T.Tokens.tells_sets ≡ true → ChangesOnly (g.T.Tokens.number l.fn.pass) (g.T.Tokens.session_locks l.fn.tokens) (g.T.Tokens.session_locks l.tokens);
  pins : g.T.Tokens.tells_sets ≡ true → Stays (g.T.Tokens.pinned l.fn.tokens) (g.T.Tokens.pinned l.tokens);
}

abbrev pub decreases-frees : goal.decreases-frees
decreases-frees g l = uses_left l.self.state
