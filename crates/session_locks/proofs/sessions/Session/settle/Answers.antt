use Rattle.std.proofs.Common.{sym, ap, ◌∙◌}
use Rattle.session_model.specs.Sessions.{SessionState}
use Rattle.session_locks.specs.Sessions.{SessionSeen, with_state}
use Rattle.session_locks.proofs.PartLaws.{settled_then, settled_else}
use Rattle.session_locks.proofs.sessions.Session.settle.Goals as goal

pub returns-then-self-clause-state : goal.returns-then-self-clause-state
returns-then-self-clause-state c =
    c.end_round.ensures.state
    ∙ ap (λ (s : SessionState). with_state c.args.self.now s) (sym (settled_then c.args.self.now.state (sym (ap (λ (s : SessionSeen). s.state.printed) c.self.view_is) ∙ c.if-self.true)))

pub returns-else-self-clause-state : goal.returns-else-self-clause-state
returns-else-self-clause-state c =
    ap (λ (s : SessionState). with_state c.args.self.now s) (sym (settled_else c.args.self.now.state (sym (ap (λ (s : SessionSeen). s.state.printed) c.self.view_is) ∙ c.if-self.false)))
