use Rattle.std.proofs.Common.{◌≡◌, true, take}
use Rattle.token_words.specs.Batches.{Gains}
use Rattle.std.specs.List.{list_all}
use Rattle.file_model.specs.Tries.{is_odd}
use Rattle.token_words.specs.Changes.{Stays, ChangesOnly}
use Rattle.token_words.proofs.locking.tests.lock_up_to_refusal.Given as goal

abbrev pub invariant-loop-i : goal.invariant-loop-i
invariant-loop-i g l = record {
  pass : g.T.Tokens.IsPass l.tokens l.pass;
  patches : g.T.Tokens.patches l.tokens ≡ g.T.Tokens.patches l.fn.tokens;
  uses : Gains (g.T.Tokens.uses l.fn.tokens l.fn.pass) (take l.i l.patches) (g.T.Tokens.uses l.tokens l.pass);
  locks : Gains (g.T.Tokens.locks l.fn.tokens l.fn.pass) (take l.i l.patches) (g.T.Tokens.locks l.tokens l.pass);
  epochs : g.T.Tokens.tells_epochs ≡ true → Stays (g.T.Tokens.epochs l.fn.tokens) (g.T.Tokens.epochs l.tokens);
  there : g.T.Tokens.tells_epochs ≡ true → list_all (λ p. is_odd (g.T.Tokens.epochs l.fn.tokens p)) (take l.i l.patches) ≡ true;
  number : g.T.Tokens.number l.pass ≡ g.T.Tokens.number l.fn.pass;
  sets : g.T.Tokens.tells_sets ≡ true → ChangesOnly (g.T.Tokens.number l.fn.pass) (g.T.Tokens.session_uses l.fn.tokens) (g.T.Tokens.session_uses l.tokens);
}
