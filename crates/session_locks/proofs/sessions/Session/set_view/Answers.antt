use Rattle.std.proofs.Common.{sym, ap, subst, ◌∙◌}
use Rattle.session_laws.specs.StateLaws.{ended_no_round}
use Rattle.session_locks.specs.Sessions.{SessionSeen}
use Rattle.session_locks.specs.Passes.{HasSameUses}
use Rattle.session_locks.proofs.PartLaws.{viewed_parts, viewed_seen}
use Rattle.session_locks.proofs.sessions.Session.set_view.Goals as goal

pub invariant_of-self : goal.invariant_of-self
invariant_of-self c =
    let i = c.self.inside in
    viewed_parts i.mesh.now.lists i.number i.view i.round i.is_printed i.locked i.flight i.frames c.args.view c.self.invariant
    (ap (λ (s : SessionSeen). s.state.round) (c.self.view_is ∙ c.end_round.ensures.state) ∙ ended_no_round c.args.self.now.state)

pub returns-clause-state : goal.returns-clause-state
returns-clause-state c = let i = c.self.inside in viewed_seen i.mesh.now.lists i.number i.view i.round i.is_printed i.locked i.flight i.frames c.args.view c.args.self.now (c.self.view_is ∙ c.end_round.ensures.state)

pub returns-clause-same : goal.returns-clause-same
returns-clause-same c =
    let same = subst (λ (s : SessionSeen). HasSameUses c.args.self.now.state s.state) (sym c.self.view_is) c.end_round.ensures.same in
    record { uses_are = same.uses_are; locks_are = same.locks_are }
