use Rattle.std.proofs.Common.{◌≡◌, true, take}
use Rattle.token_words.specs.Batches.{Loses}
use Rattle.token_words.specs.Changes.{Stays, ChangesOnly}
use Rattle.token_words.proofs.locking.tests.unlock_all.Given as goal

abbrev pub invariant-loop-patch : goal.invariant-loop-patch
invariant-loop-patch g l = record {
  pass : g.T.Tokens.IsPass l.tokens l.pass;
  patches : g.T.Tokens.patches l.tokens ≡ g.T.Tokens.patches l.fn.tokens;
  uses : Loses (g.T.Tokens.uses l.fn.tokens l.fn.pass) (take l.patch-index l.patches) (g.T.Tokens.uses l.tokens l.pass);
  locks : Loses (g.T.Tokens.locks l.fn.tokens l.fn.pass) (take l.patch-index l.patches) (g.T.Tokens.locks l.tokens l.pass);
  epochs : g.T.Tokens.tells_epochs ≡ true → Stays (g.T.Tokens.epochs l.fn.tokens) (g.T.Tokens.epochs l.tokens);
  number : g.T.Tokens.number l.pass ≡ g.T.Tokens.number l.fn.pass;
  sets : g.T.Tokens.tells_sets ≡ true → ChangesOnly (g.T.Tokens.number l.fn.pass) (g.T.Tokens.session_uses l.fn.tokens) (g.T.Tokens.session_uses l.tokens);
}
