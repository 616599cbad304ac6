use Rattle.std.proofs.Common.{◌≤◌, false, length, sym, ap, subst, ◌∙◌}
use Rattle.session_model.specs.Sessions.{locks, least_old, without_old}
use Rattle.session_locks.specs.Sessions.{SessionSeen, with_state, session_seen}
use Rattle.session_locks.proofs.PassLaws.{pass_moves}
use Rattle.session_locks.proofs.PartLaws.{unlock, old_below, least_locked, unlocked_seen, unlocked_parts}
use Rattle.session_locks.proofs.sessions.Session.unlock_old.Goals as goal

pub unlock-requires-clause-patch : goal.unlock-requires-clause-patch
unlock-requires-clause-patch g c = let i = c.self.inside in old_below i.mesh.now.lists i.number i.view i.round i.is_printed i.locked i.flight i.frames c.args.patch c.self.invariant (ap (λ (s : SessionSeen). least_old s.state) c.self.view_is ∙ c.requires.there) (ap (λ (s : SessionSeen). s.state.flight) c.self.view_is ∙ c.requires.no_flight) (ap (λ (s : SessionSeen). s.state.printed) c.self.view_is ∙ c.requires.going) (g.T.Tokens.patches c.args.tokens.now) (subst (λ (s : SessionSeen). length s.mesh.index.fields ≤ g.T.Tokens.patches c.args.tokens.now) (sym c.self.view_is) c.requires.pass.many)

pub unlock-requires-clause-locked : goal.unlock-requires-clause-locked
unlock-requires-clause-locked g c =
    let i = c.self.inside in
    c.requires.pass.locks_are c.args.patch ∙ ap (λ (s : SessionSeen). locks s.state c.args.patch) (sym c.self.view_is) ∙ (unlock i.mesh.now.lists i.number i.view i.round i.is_printed i.locked i.flight i.frames c.args.patch c.self.invariant (ap (λ (s : SessionSeen). least_old s.state) c.self.view_is ∙ c.requires.there) (ap (λ (s : SessionSeen). s.state.flight) c.self.view_is ∙ c.requires.no_flight) (ap (λ (s : SessionSeen). s.state.printed) c.self.view_is ∙ c.requires.going)).does.held

pub unlock_least-requires : goal.unlock_least-requires
unlock_least-requires g c = let i = c.self.inside in least_locked i.mesh.now.lists i.number i.view i.round i.is_printed i.locked i.flight i.frames c.args.patch c.self.invariant (ap (λ (s : SessionSeen). least_old s.state) c.self.view_is ∙ c.requires.there) (ap (λ (s : SessionSeen). s.state.flight) c.self.view_is ∙ c.requires.no_flight) (ap (λ (s : SessionSeen). s.state.printed) c.self.view_is ∙ c.requires.going)

pub invariant_of-self : goal.invariant_of-self
invariant_of-self g c = let i = c.self.inside in unlocked_parts i.mesh.now.lists i.number i.view i.round i.is_printed i.locked i.flight i.frames c.args.patch c.self.invariant (ap (λ (s : SessionSeen). least_old s.state) c.self.view_is ∙ c.requires.there) (ap (λ (s : SessionSeen). s.state.flight) c.self.view_is ∙ c.requires.no_flight) (ap (λ (s : SessionSeen). s.state.printed) c.self.view_is ∙ c.requires.going) c.unlock_least.new.self c.unlock_least.ensures

pub returns-clause-pass : goal.returns-clause-pass
returns-clause-pass g c =
    let i = c.self.inside in
    let seen = session_seen i.mesh.now.lists i.number i.view i.round i.is_printed i.locked i.flight i.frames in
    let does = (unlock i.mesh.now.lists i.number i.view i.round i.is_printed i.locked i.flight i.frames c.args.patch c.self.invariant (ap (λ (s : SessionSeen). least_old s.state) c.self.view_is ∙ c.requires.there) (ap (λ (s : SessionSeen). s.state.flight) c.self.view_is ∙ c.requires.no_flight) (ap (λ (s : SessionSeen). s.state.printed) c.self.view_is ∙ c.requires.going)).does in
    pass_moves (g.T.Tokens.IsPass c.args.tokens.now c.args.pass.now) (g.T.Tokens.IsPass c.unlock.new.self c.unlock.new.pass) (g.T.Tokens.patches c.args.tokens.now) (g.T.Tokens.patches c.unlock.new.self) (g.T.Tokens.uses c.args.tokens.now c.args.pass.now) (g.T.Tokens.locks c.args.tokens.now c.args.pass.now) (g.T.Tokens.uses c.unlock.new.self c.unlock.new.pass) (g.T.Tokens.locks c.unlock.new.self c.unlock.new.pass)
    c.args.self.now seen (session_seen i.mesh.now.lists i.number i.view i.round i.is_printed c.unlock_least.new.self i.flight i.frames) (without_old seen.state c.args.patch) c.args.patch false false
    c.requires.pass c.self.view_is (unlocked_seen i.mesh.now.lists i.number i.view i.round i.is_printed i.locked i.flight i.frames c.args.patch c.self.invariant (ap (λ (s : SessionSeen). least_old s.state) c.self.view_is ∙ c.requires.there) (ap (λ (s : SessionSeen). s.state.flight) c.self.view_is ∙ c.requires.no_flight) (ap (λ (s : SessionSeen). s.state.printed) c.self.view_is ∙ c.requires.going) c.unlock_least.new.self c.unlock_least.ensures) c.unlock.ensures.words.1 c.unlock.ensures.pass c.unlock.ensures.uses c.unlock.ensures.locks does.used does.locked

pub returns-clause-state : goal.returns-clause-state
returns-clause-state g c =
    let i = c.self.inside in
    unlocked_seen i.mesh.now.lists i.number i.view i.round i.is_printed i.locked i.flight i.frames c.args.patch c.self.invariant (ap (λ (s : SessionSeen). least_old s.state) c.self.view_is ∙ c.requires.there) (ap (λ (s : SessionSeen). s.state.flight) c.self.view_is ∙ c.requires.no_flight) (ap (λ (s : SessionSeen). s.state.printed) c.self.view_is ∙ c.requires.going) c.unlock_least.new.self c.unlock_least.ensures ∙ ap (λ (s : SessionSeen). with_state s (without_old s.state c.args.patch)) c.self.view_is
