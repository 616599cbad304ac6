use Rattle.std.proofs.Common.{◌≤◌, true, length, sym, ap, subst, ◌∙◌, arith}
use Rattle.file_model.specs.Tries.{is_odd}
use Rattle.round_model.specs.declared.asks.Ask.TheVariants.{Lock}
use Rattle.session_model.specs.Sessions.{uses}
use Rattle.session_model.specs.Steps.{after_try}
use Rattle.session_locks.specs.Sessions.{SessionSeen, with_state, session_seen}
use Rattle.session_locks.specs.Taken.{IsAsking}
use Rattle.session_locks.proofs.PassLaws.{asking_of, asking_now, pass_moves}
use Rattle.session_locks.proofs.PartLaws.{try, tried_within, tried_below, tried_seen, tried_parts}
use Rattle.session_locks.proofs.sessions.Session.try_patch.Goals as goal

pub try_lock-epoch-requires-clause-patch : goal.try_lock-epoch-requires-clause-patch
try_lock-epoch-requires-clause-patch g c =
    let i = c.self.inside in
    let seen = session_seen i.mesh.now.lists i.number i.view i.round i.is_printed i.locked i.flight i.frames in
    let asking : IsAsking i.round (Lock c.args.patch) = asking_now seen c.args.self.now (Lock c.args.patch) c.self.view_is c.requires.asks (λ done. cc) in
    tried_below i.mesh.now.lists i.number i.view i.round i.is_printed i.locked i.flight i.frames c.args.patch c.self.invariant asking (ap (λ (s : SessionSeen). s.state.flight) c.self.view_is ∙ c.requires.no_flight) (ap (λ (s : SessionSeen). s.state.printed) c.self.view_is ∙ c.requires.going) 0 (g.T.Tokens.patches c.args.tokens.now) (subst (λ (s : SessionSeen). length s.mesh.index.fields ≤ g.T.Tokens.patches c.args.tokens.now) (sym c.self.view_is) c.requires.pass.many)

pub try_lock-epoch-requires-clause-free : goal.try_lock-epoch-requires-clause-free
try_lock-epoch-requires-clause-free g c =
    let i = c.self.inside in
    let seen = session_seen i.mesh.now.lists i.number i.view i.round i.is_printed i.locked i.flight i.frames in
    let asking : IsAsking i.round (Lock c.args.patch) = asking_now seen c.args.self.now (Lock c.args.patch) c.self.view_is c.requires.asks (λ done. cc) in
    c.requires.pass.uses_are c.args.patch ∙ ap (λ (s : SessionSeen). uses s.state c.args.patch) (sym c.self.view_is) ∙ (try i.mesh.now.lists i.number i.view i.round i.is_printed i.locked i.flight i.frames c.args.patch c.self.invariant asking (ap (λ (s : SessionSeen). s.state.flight) c.self.view_is ∙ c.requires.no_flight) (ap (λ (s : SessionSeen). s.state.printed) c.self.view_is ∙ c.requires.going) 0).does.free

pub tell-requires : goal.tell-requires
tell-requires g c =
    let i = c.self.inside in
    let seen = session_seen i.mesh.now.lists i.number i.view i.round i.is_printed i.locked i.flight i.frames in
    let asking : IsAsking i.round (Lock c.args.patch) = asking_now seen c.args.self.now (Lock c.args.patch) c.self.view_is c.requires.asks (λ done. cc) in
    (c.args.patch, asking)

pub set-requires : goal.set-requires
set-requires g c =
    let i = c.self.inside in
    let seen = session_seen i.mesh.now.lists i.number i.view i.round i.is_printed i.locked i.flight i.frames in
    let asking : IsAsking i.round (Lock c.args.patch) = asking_now seen c.args.self.now (Lock c.args.patch) c.self.view_is c.requires.asks (λ done. cc) in
    let within = tried_within i.mesh.now.lists i.number i.view i.round i.is_printed i.locked i.flight i.frames c.args.patch c.self.invariant asking (ap (λ (s : SessionSeen). s.state.flight) c.self.view_is ∙ c.requires.no_flight) (ap (λ (s : SessionSeen). s.state.printed) c.self.view_is ∙ c.requires.going) 0 in
    omega arith

pub invariant_of-self : goal.invariant_of-self
invariant_of-self g c =
    let i = c.self.inside in
    let seen = session_seen i.mesh.now.lists i.number i.view i.round i.is_printed i.locked i.flight i.frames in
    let asking : IsAsking i.round (Lock c.args.patch) = asking_now seen c.args.self.now (Lock c.args.patch) c.self.view_is c.requires.asks (λ done. cc) in
    tried_parts i.mesh.now.lists i.number i.view i.round i.is_printed i.locked i.flight i.frames c.args.patch c.self.invariant asking (ap (λ (s : SessionSeen). s.state.flight) c.self.view_is ∙ c.requires.no_flight) (ap (λ (s : SessionSeen). s.state.printed) c.self.view_is ∙ c.requires.going) c.try_lock-epoch.result.epoch c.tell.new.round c.is_granted.result c.refused-self-inside.result c.set.new.self (c.tell.ensures asking.r c.args.patch asking.there asking.asks) c.is_granted.ensures c.refused-self-inside.ensures c.set.ensures

pub returns-clause-pass : goal.returns-clause-pass
returns-clause-pass g c =
    let i = c.self.inside in
    let seen = session_seen i.mesh.now.lists i.number i.view i.round i.is_printed i.locked i.flight i.frames in
    let asking : IsAsking i.round (Lock c.args.patch) = asking_now seen c.args.self.now (Lock c.args.patch) c.self.view_is c.requires.asks (λ done. cc) in
    let does = (try i.mesh.now.lists i.number i.view i.round i.is_printed i.locked i.flight i.frames c.args.patch c.self.invariant asking (ap (λ (s : SessionSeen). s.state.flight) c.self.view_is ∙ c.requires.no_flight) (ap (λ (s : SessionSeen). s.state.printed) c.self.view_is ∙ c.requires.going) c.try_lock-epoch.result.epoch).does in
    pass_moves (g.T.Tokens.IsPass c.args.tokens.now c.args.pass.now) (g.T.Tokens.IsPass c.try_lock-epoch.new.self c.try_lock-epoch.new.pass) (g.T.Tokens.patches c.args.tokens.now) (g.T.Tokens.patches c.try_lock-epoch.new.self) (g.T.Tokens.uses c.args.tokens.now c.args.pass.now) (g.T.Tokens.locks c.args.tokens.now c.args.pass.now) (g.T.Tokens.uses c.try_lock-epoch.new.self c.try_lock-epoch.new.pass) (g.T.Tokens.locks c.try_lock-epoch.new.self c.try_lock-epoch.new.pass)
    c.args.self.now seen (session_seen i.mesh.now.lists i.number i.view c.tell.new.round i.is_printed c.set.new.self c.refused-self-inside.result i.frames) (after_try seen.state asking.r c.args.patch c.try_lock-epoch.result.epoch) c.args.patch true (is_odd c.try_lock-epoch.result.epoch)
    c.requires.pass c.self.view_is (tried_seen i.mesh.now.lists i.number i.view i.round i.is_printed i.locked i.flight i.frames c.args.patch c.self.invariant asking (ap (λ (s : SessionSeen). s.state.flight) c.self.view_is ∙ c.requires.no_flight) (ap (λ (s : SessionSeen). s.state.printed) c.self.view_is ∙ c.requires.going) c.try_lock-epoch.result.epoch c.tell.new.round c.is_granted.result c.refused-self-inside.result c.set.new.self (c.tell.ensures asking.r c.args.patch asking.there asking.asks) c.is_granted.ensures c.refused-self-inside.ensures c.set.ensures) c.try_lock-epoch.ensures.words.1 c.try_lock-epoch.ensures.pass c.try_lock-epoch.ensures.uses c.try_lock-epoch.ensures.locks does.used does.locked

pub returns-clause-state : goal.returns-clause-state
returns-clause-state g c r there =
    let i = c.self.inside in
    let seen = session_seen i.mesh.now.lists i.number i.view i.round i.is_printed i.locked i.flight i.frames in
    let asking : IsAsking i.round (Lock c.args.patch) = asking_of seen c.args.self.now r (Lock c.args.patch) c.self.view_is there c.requires.asks in
    tried_seen i.mesh.now.lists i.number i.view i.round i.is_printed i.locked i.flight i.frames c.args.patch c.self.invariant asking (ap (λ (s : SessionSeen). s.state.flight) c.self.view_is ∙ c.requires.no_flight) (ap (λ (s : SessionSeen). s.state.printed) c.self.view_is ∙ c.requires.going) c.try_lock-epoch.result.epoch c.tell.new.round c.is_granted.result c.refused-self-inside.result c.set.new.self (c.tell.ensures asking.r c.args.patch asking.there asking.asks) c.is_granted.ensures c.refused-self-inside.ensures c.set.ensures ∙ ap (λ (s : SessionSeen). with_state s (after_try s.state r c.args.patch c.try_lock-epoch.result.epoch)) c.self.view_is
