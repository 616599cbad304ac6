use Rattle.std.proofs.Common.{ap, subst, ◌∙◌}
use Rattle.session_model.specs.Sessions.{counted_from}
use Rattle.session_locks.specs.Sessions.{SessionSeen, with_state, session_seen}
use Rattle.session_locks.specs.Passes.{HasSameUses}
use Rattle.session_locks.proofs.PartLaws.{counted_parts, counted_seen, counted_same}
use Rattle.session_locks.proofs.sessions.Session.count_from.Goals as goal

pub invariant_of-self : goal.invariant_of-self
invariant_of-self c = let i = c.self.inside in counted_parts i.mesh.now.lists i.number i.view i.round i.is_printed i.locked i.flight i.frames c.args.frames c.self.invariant

pub returns-clause-state : goal.returns-clause-state
returns-clause-state c = let i = c.self.inside in counted_seen i.mesh.now.lists i.number i.view i.round i.is_printed i.locked i.flight i.frames c.args.frames ∙ ap (λ (s : SessionSeen). with_state s (counted_from c.args.frames s.state)) c.self.view_is

pub returns-clause-same : goal.returns-clause-same
returns-clause-same c =
    let i = c.self.inside in
    let now = session_seen i.mesh.now.lists i.number i.view i.round i.is_printed i.locked i.flight c.args.frames in
    subst (λ (s : SessionSeen). HasSameUses s.state now.state) c.self.view_is (counted_same i.mesh.now.lists i.number i.view i.round i.is_printed i.locked i.flight i.frames c.args.frames)
