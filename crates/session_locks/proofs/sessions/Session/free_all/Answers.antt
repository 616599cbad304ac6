use Rattle.std.proofs.Common.{refl, subst, arith, ◌∙◌}
use Rattle.session_locks.specs.Sessions.{IsSession}
use Rattle.session_locks.proofs.FinishParts.{changes_then}
use Rattle.session_locks.proofs.FreeParts.{freeing_first, freeing_more, freeing_fits, freeing_done}
use Rattle.session_locks.proofs.sessions.Session.free_all.Goals as goal

pub frees-init : goal.frees-init
frees-init g c =
    let session = subst IsSession c.self.view_is c.self.invariant.session in
    record {
      pass = c.requires.pass;
      facts = session;
      way = freeing_first c.args.self.now session;
      number = refl;
      pass_table = refl;
      table = refl;
      patches = refl;
      tries = λ told. refl;
      epochs = λ told p. refl;
      use_sets = λ told s apart p. refl;
      lock_sets = λ told s apart p. refl;
      pins = λ told p. refl;
    }

pub overflow_add-unlocks : goal.overflow_add-unlocks
overflow_add-unlocks g c =
    let small = freeing_fits c.args.self.now c.frees.self c.free_step.new.self c.frees.unlocks c.frees.invariant.way c.in-Some.did c.in-Some.ensures.step in
    let count = c.unlock_count-unlocks.ensures in
    omega (arith, small, count)

pub frees-preserved : goal.frees-preserved
frees-preserved g c = record {
  pass = c.free_step.ensures.pass;
  facts = c.free_step.ensures.facts;
  way = rw c.unlock_count-unlocks.ensures (freeing_more c.args.self.now c.frees.self c.free_step.new.self c.frees.unlocks c.frees.invariant.way c.in-Some.did c.in-Some.ensures.step);
  number = c.free_step.ensures.number.0 ∙ c.frees.invariant.number;
  pass_table = c.free_step.ensures.number.1 ∙ c.frees.invariant.pass_table;
  table = c.free_step.ensures.words.0 ∙ c.frees.invariant.table;
  patches = c.free_step.ensures.words.1 ∙ c.frees.invariant.patches;
  tries = λ told. c.free_step.ensures.tries told ∙ c.frees.invariant.tries told;
  epochs = λ told p. c.free_step.ensures.epochs told p ∙ c.frees.invariant.epochs told p;
  use_sets = λ told. changes_then (g.T.Tokens.number c.args.pass.now) (g.T.Tokens.number c.frees.pass) (g.T.Tokens.session_uses c.args.tokens.now) (g.T.Tokens.session_uses c.frees.tokens) (g.T.Tokens.session_uses c.free_step.new.tokens) c.frees.invariant.number (c.frees.invariant.use_sets told) (c.free_step.ensures.use_sets told);
  lock_sets = λ told. changes_then (g.T.Tokens.number c.args.pass.now) (g.T.Tokens.number c.frees.pass) (g.T.Tokens.session_locks c.args.tokens.now) (g.T.Tokens.session_locks c.frees.tokens) (g.T.Tokens.session_locks c.free_step.new.tokens) c.frees.invariant.number (c.frees.invariant.lock_sets told) (c.free_step.ensures.lock_sets told);
  pins = λ told p. c.free_step.ensures.pins told p ∙ c.frees.invariant.pins told p;
}

pub returns-clause-steps : goal.returns-clause-steps
returns-clause-steps g c = freeing_done c.args.self.now c.frees.self c.free_step.new.self c.frees.unlocks c.frees.invariant.way c.in_default.ensures.step
