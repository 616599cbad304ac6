use Rattle.std.proofs.Common.{sym, ap, ◌∙◌}
use Rattle.session_model.specs.Sessions.{least_old}
use Rattle.session_locks.specs.Sessions.{SessionSeen}
use Rattle.session_locks.proofs.PartLaws.{least_beside_some, least_without}
use Rattle.session_locks.proofs.sessions.Session.least_old.Goals as goal

pub returns-then-is_some : goal.returns-then-is_some
returns-then-is_some c =
    let i = c.self.inside in
    sym (least_beside_some i.mesh.now.lists i.number i.view i.round i.is_printed i.locked i.flight i.frames c.self.invariant (sym c.is_some.ensures ∙ c.if-is_some.true)) ∙ ap (λ (s : SessionSeen). least_old s.state) c.self.view_is

pub returns-in-Some : goal.returns-in-Some
returns-in-Some c =
    let i = c.self.inside in
    sym c.in-Some.is ∙ c.least.ensures
    ∙ sym (least_without i.mesh.now.lists i.number i.view i.round i.is_printed i.locked i.flight i.frames (sym c.is_some.ensures ∙ c.if-is_some.false)) ∙ ap (λ (s : SessionSeen). least_old s.state) c.self.view_is

pub returns-in-None : goal.returns-in-None
returns-in-None c =
    let i = c.self.inside in
    sym c.in-None.is ∙ c.least.ensures
    ∙ sym (least_without i.mesh.now.lists i.number i.view i.round i.is_printed i.locked i.flight i.frames (sym c.is_some.ensures ∙ c.if-is_some.false)) ∙ ap (λ (s : SessionSeen). least_old s.state) c.self.view_is
