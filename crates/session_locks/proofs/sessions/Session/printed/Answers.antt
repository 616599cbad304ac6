use Rattle.std.proofs.Common.{◌+◌, true, ap, subst, ◌∙◌}
use Rattle.session_model.specs.Sessions.{printed_once}
use Rattle.session_locks.specs.Sessions.{SessionSeen, with_state, session_seen}
use Rattle.session_locks.specs.Passes.{HasSameUses}
use Rattle.session_locks.proofs.PartLaws.{printed_parts, printed_seen, printed_same}
use Rattle.session_locks.proofs.sessions.Session.printed.Goals as goal

pub invariant_of-self : goal.invariant_of-self
invariant_of-self c = let i = c.self.inside in printed_parts i.mesh.now.lists i.number i.view i.round i.is_printed i.locked i.flight i.frames c.self.invariant

pub returns-clause-state : goal.returns-clause-state
returns-clause-state c = let i = c.self.inside in printed_seen i.mesh.now.lists i.number i.view i.round i.is_printed i.locked i.flight i.frames ∙ ap (λ (s : SessionSeen). with_state s (printed_once s.state)) c.self.view_is

pub returns-clause-same : goal.returns-clause-same
returns-clause-same c =
    let i = c.self.inside in
    let now = session_seen i.mesh.now.lists i.number i.view i.round true i.locked i.flight (i.frames + 1) in
    subst (λ (s : SessionSeen). HasSameUses s.state now.state) c.self.view_is (printed_same i.mesh.now.lists i.number i.view i.round i.is_printed i.locked i.flight i.frames)
