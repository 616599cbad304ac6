use Rattle.std.proofs.Common.{◌++◌, refl, ap, subst, ◌∙◌}
use Rattle.grid_vertex.specs.declared.memory.NoMemory.{NoMemory}
use Rattle.session_model.specs.declared.steps.Stepped.{Stepped}
use Rattle.session_model.specs.Steps.{try_pairs}
use Rattle.session_locks.specs.Sessions.{IsSession}
use Rattle.session_locks.specs.Taken.{TakesStep}
use Rattle.session_locks.proofs.FinishParts.{under_way_first, way_view, under_way_more, under_way_done, changes_then}
use Rattle.session_locks.proofs.sessions.Session.finish.Goals as goal

pub steps-init : goal.steps-init
steps-init g c =
    let session = subst IsSession c.self.view_is c.self.invariant.session in
    record {
      pass = c.requires.pass;
      facts = session;
      way = under_way_first g.T.Tokens.tells_epochs (g.T.Tokens.epochs c.args.tokens.now) g.T.Tokens.tells_tries (g.T.Tokens.tries c.args.pass.now) c.args.self.now session;
      number = refl;
      pass_table = refl;
      table = refl;
      patches = refl;
      epochs = λ told p. refl;
      use_sets = λ told s apart p. refl;
      lock_sets = λ told s apart p. refl;
      pins = λ told p. refl;
    }

pub step-requires-clause-view : goal.step-requires-clause-view
step-requires-clause-view g c =
    (c.requires.view.0, way_view g.T.Tokens.tells_epochs (g.T.Tokens.epochs c.args.tokens.now) (g.T.Tokens.epochs c.steps.tokens) g.T.Tokens.tells_tries (g.T.Tokens.tries c.args.pass.now) (g.T.Tokens.tries c.steps.pass) (g.T.Tokens.tries c.steps.pass) c.args.self.now c.steps.self c.steps.self c.steps.invariant.way c.requires.view.0 c.requires.view.1)

pub returns-in-Done-clause-steps : goal.returns-in-Done-clause-steps
returns-in-Done-clause-steps g c =
    let takes = subst (λ (did : Stepped). TakesStep c.steps.self did c.step.new.self) c.in-Done.is c.in_ok-did.ensures.step in
    under_way_done g.T.Tokens.tells_epochs (g.T.Tokens.epochs c.args.tokens.now) (g.T.Tokens.epochs c.steps.tokens) g.T.Tokens.tells_tries (g.T.Tokens.tries c.args.pass.now) (g.T.Tokens.tries c.steps.pass) (g.T.Tokens.tries c.step.new.pass) c.args.self.now c.steps.self c.step.new.self c.steps.invariant.way (Unit {0}) NoMemory tt c.requires.view.0 c.requires.view.1 takes
    (λ tells. c.in_ok-did.ensures.tries tells ∙ ap (λ (did : Stepped). g.T.Tokens.tries c.steps.pass ++ try_pairs did) c.in-Done.is)

pub steps-preserved : goal.steps-preserved
steps-preserved g c = record {
  pass = c.step.ensures.pass;
  facts = c.step.ensures.facts;
  way = under_way_more g.T.Tokens.tells_epochs (g.T.Tokens.epochs c.args.tokens.now) (g.T.Tokens.epochs c.steps.tokens) g.T.Tokens.tells_tries (g.T.Tokens.tries c.args.pass.now) (g.T.Tokens.tries c.steps.pass) (g.T.Tokens.tries c.step.new.pass) c.args.self.now c.steps.self c.step.new.self c.steps.invariant.way c.in_ok-did.did c.in_ok-did.ensures.step c.in_default.not-Done c.steps.invariant.epochs c.in_ok-did.ensures.epoch c.in_ok-did.ensures.tries;
  number = c.step.ensures.number.0 ∙ c.steps.invariant.number;
  pass_table = c.step.ensures.number.1 ∙ c.steps.invariant.pass_table;
  table = c.step.ensures.words.0 ∙ c.steps.invariant.table;
  patches = c.step.ensures.words.1 ∙ c.steps.invariant.patches;
  epochs = λ told p. c.step.ensures.epochs told p ∙ c.steps.invariant.epochs told p;
  use_sets = λ told. changes_then (g.T.Tokens.number c.args.pass.now) (g.T.Tokens.number c.steps.pass) (g.T.Tokens.session_uses c.args.tokens.now) (g.T.Tokens.session_uses c.steps.tokens) (g.T.Tokens.session_uses c.step.new.tokens) c.steps.invariant.number (c.steps.invariant.use_sets told) (c.step.ensures.use_sets told);
  lock_sets = λ told. changes_then (g.T.Tokens.number c.args.pass.now) (g.T.Tokens.number c.steps.pass) (g.T.Tokens.session_locks c.args.tokens.now) (g.T.Tokens.session_locks c.steps.tokens) (g.T.Tokens.session_locks c.step.new.tokens) c.steps.invariant.number (c.steps.invariant.lock_sets told) (c.step.ensures.lock_sets told);
  pins = λ told p. c.step.ensures.pins told p ∙ c.steps.invariant.pins told p;
}
