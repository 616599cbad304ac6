use Rattle.std.proofs.Common.{None, false, ap, ◌∙◌, subst}
use Rattle.session_model.specs.Sessions.{round_ended}
use Rattle.session_locks.specs.Sessions.{SessionSeen, with_state, session_seen}
use Rattle.session_locks.specs.Passes.{HasSameUses}
use Rattle.session_locks.proofs.PartLaws.{ended_parts, ended_seen, ended_same}
use Rattle.session_locks.proofs.sessions.Session.end_round.Goals as goal

pub invariant_of-self : goal.invariant_of-self
invariant_of-self c = let i = c.self.inside in ended_parts i.mesh.now.lists i.number i.view i.round i.is_printed i.locked i.flight i.frames c.self.invariant

pub returns-clause-state : goal.returns-clause-state
returns-clause-state c = let i = c.self.inside in ended_seen i.mesh.now.lists i.number i.view i.round i.is_printed i.locked i.flight i.frames c.self.invariant ∙ ap (λ (s : SessionSeen). with_state s (round_ended s.state)) c.self.view_is

pub returns-clause-same : goal.returns-clause-same
returns-clause-same c =
    let i = c.self.inside in
    let now = session_seen i.mesh.now.lists i.number i.view None false i.locked i.flight i.frames in
    subst (λ (s : SessionSeen). HasSameUses s.state now.state) c.self.view_is (ended_same i.mesh.now.lists i.number i.view i.round i.is_printed i.locked i.flight i.frames c.self.invariant)
