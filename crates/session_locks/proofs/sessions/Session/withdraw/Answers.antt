use Rattle.std.proofs.Common.{◌≤◌, length, sym, ap, ◌∙◌, subst}
use Rattle.session_locks.specs.Sessions.{SessionSeen}
use Rattle.session_locks.proofs.PartLaws.{withdrawn_within, withdrawn_parts}
use Rattle.session_locks.proofs.sessions.Session.withdraw.Goals as goal

pub withdraw-requires-clause-patch : goal.withdraw-requires-clause-patch
withdraw-requires-clause-patch g c =
    let i = c.self.inside in
    withdrawn_within i.mesh.now.lists i.number i.view i.round i.is_printed i.locked i.flight i.frames c.args.patch (g.T.Tokens.patches c.args.tokens.now) c.self.invariant
    (ap (λ (s : SessionSeen). s.state.flight) c.self.view_is ∙ c.requires.there)
    (subst (λ (s : SessionSeen). length s.mesh.index.fields ≤ g.T.Tokens.patches c.args.tokens.now) (sym c.self.view_is) c.requires.pass.many)

pub invariant_of-self : goal.invariant_of-self
invariant_of-self g c =
    let i = c.self.inside in
    withdrawn_parts i.mesh.now.lists i.number i.view i.round i.is_printed i.locked i.flight i.frames c.args.patch c.self.invariant (ap (λ (s : SessionSeen). s.state.flight) c.self.view_is ∙ c.requires.there)
