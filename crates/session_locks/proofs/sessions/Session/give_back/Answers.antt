use Rattle.std.proofs.Common.{◌≤◌, false, length, sym, ap, subst, ◌∙◌, arith}
use Rattle.round_model.specs.declared.asks.Ask.TheVariants.{GiveBack}
use Rattle.round_model.specs.Refiners.{after_release}
use Rattle.session_model.specs.Sessions.{locks}
use Rattle.session_model.specs.Steps.{with_round}
use Rattle.session_locks.specs.Sessions.{SessionSeen, with_state, session_seen}
use Rattle.session_locks.specs.Taken.{IsAsking}
use Rattle.session_locks.proofs.PassLaws.{asking_of, asking_now, pass_moves}
use Rattle.session_locks.proofs.PartLaws.{give, given_within, given_below, given_seen, given_parts}
use Rattle.session_locks.proofs.sessions.Session.give_back.Goals as goal

pub unlock-requires-clause-patch : goal.unlock-requires-clause-patch
unlock-requires-clause-patch g c =
    let i = c.self.inside in
    let seen = session_seen i.mesh.now.lists i.number i.view i.round i.is_printed i.locked i.flight i.frames in
    let asking : IsAsking i.round (GiveBack c.args.patch) = asking_now seen c.args.self.now (GiveBack c.args.patch) c.self.view_is c.requires.asks (λ done. cc) in
    given_below i.mesh.now.lists i.number i.view i.round i.is_printed i.locked i.flight i.frames c.args.patch c.self.invariant asking (ap (λ (s : SessionSeen). s.state.flight) c.self.view_is ∙ c.requires.no_flight) (ap (λ (s : SessionSeen). s.state.printed) c.self.view_is ∙ c.requires.going) (g.T.Tokens.patches c.args.tokens.now) (subst (λ (s : SessionSeen). length s.mesh.index.fields ≤ g.T.Tokens.patches c.args.tokens.now) (sym c.self.view_is) c.requires.pass.many)

pub unlock-requires-clause-locked : goal.unlock-requires-clause-locked
unlock-requires-clause-locked g c =
    let i = c.self.inside in
    let seen = session_seen i.mesh.now.lists i.number i.view i.round i.is_printed i.locked i.flight i.frames in
    let asking : IsAsking i.round (GiveBack c.args.patch) = asking_now seen c.args.self.now (GiveBack c.args.patch) c.self.view_is c.requires.asks (λ done. cc) in
    c.requires.pass.locks_are c.args.patch ∙ ap (λ (s : SessionSeen). locks s.state c.args.patch) (sym c.self.view_is) ∙ (give i.mesh.now.lists i.number i.view i.round i.is_printed i.locked i.flight i.frames c.args.patch c.self.invariant asking (ap (λ (s : SessionSeen). s.state.flight) c.self.view_is ∙ c.requires.no_flight) (ap (λ (s : SessionSeen). s.state.printed) c.self.view_is ∙ c.requires.going)).does.held

pub tell_given-requires : goal.tell_given-requires
tell_given-requires g c =
    let i = c.self.inside in
    let seen = session_seen i.mesh.now.lists i.number i.view i.round i.is_printed i.locked i.flight i.frames in
    let asking : IsAsking i.round (GiveBack c.args.patch) = asking_now seen c.args.self.now (GiveBack c.args.patch) c.self.view_is c.requires.asks (λ done. cc) in
    (c.args.patch, asking)

pub set-requires : goal.set-requires
set-requires g c =
    let i = c.self.inside in
    let seen = session_seen i.mesh.now.lists i.number i.view i.round i.is_printed i.locked i.flight i.frames in
    let asking : IsAsking i.round (GiveBack c.args.patch) = asking_now seen c.args.self.now (GiveBack c.args.patch) c.self.view_is c.requires.asks (λ done. cc) in
    let within = given_within i.mesh.now.lists i.number i.view i.round i.is_printed i.locked i.flight i.frames c.args.patch c.self.invariant asking (ap (λ (s : SessionSeen). s.state.flight) c.self.view_is ∙ c.requires.no_flight) (ap (λ (s : SessionSeen). s.state.printed) c.self.view_is ∙ c.requires.going) in
    omega arith

pub invariant_of-self : goal.invariant_of-self
invariant_of-self g c =
    let i = c.self.inside in
    let seen = session_seen i.mesh.now.lists i.number i.view i.round i.is_printed i.locked i.flight i.frames in
    let asking : IsAsking i.round (GiveBack c.args.patch) = asking_now seen c.args.self.now (GiveBack c.args.patch) c.self.view_is c.requires.asks (λ done. cc) in
    given_parts i.mesh.now.lists i.number i.view i.round i.is_printed i.locked i.flight i.frames c.args.patch c.self.invariant asking (ap (λ (s : SessionSeen). s.state.flight) c.self.view_is ∙ c.requires.no_flight) (ap (λ (s : SessionSeen). s.state.printed) c.self.view_is ∙ c.requires.going) c.tell_given.new.round c.set.new.self (c.tell_given.ensures asking.r asking.there) c.set.ensures

pub returns-clause-pass : goal.returns-clause-pass
returns-clause-pass g c =
    let i = c.self.inside in
    let seen = session_seen i.mesh.now.lists i.number i.view i.round i.is_printed i.locked i.flight i.frames in
    let asking : IsAsking i.round (GiveBack c.args.patch) = asking_now seen c.args.self.now (GiveBack c.args.patch) c.self.view_is c.requires.asks (λ done. cc) in
    let does = (give i.mesh.now.lists i.number i.view i.round i.is_printed i.locked i.flight i.frames c.args.patch c.self.invariant asking (ap (λ (s : SessionSeen). s.state.flight) c.self.view_is ∙ c.requires.no_flight) (ap (λ (s : SessionSeen). s.state.printed) c.self.view_is ∙ c.requires.going)).does in
    pass_moves (g.T.Tokens.IsPass c.args.tokens.now c.args.pass.now) (g.T.Tokens.IsPass c.unlock.new.self c.unlock.new.pass) (g.T.Tokens.patches c.args.tokens.now) (g.T.Tokens.patches c.unlock.new.self) (g.T.Tokens.uses c.args.tokens.now c.args.pass.now) (g.T.Tokens.locks c.args.tokens.now c.args.pass.now) (g.T.Tokens.uses c.unlock.new.self c.unlock.new.pass) (g.T.Tokens.locks c.unlock.new.self c.unlock.new.pass)
    c.args.self.now seen (session_seen i.mesh.now.lists i.number i.view c.tell_given.new.round i.is_printed c.set.new.self i.flight i.frames) (with_round seen.state (after_release asking.r)) c.args.patch false false
    c.requires.pass c.self.view_is (given_seen i.mesh.now.lists i.number i.view i.round i.is_printed i.locked i.flight i.frames c.args.patch c.self.invariant asking (ap (λ (s : SessionSeen). s.state.flight) c.self.view_is ∙ c.requires.no_flight) (ap (λ (s : SessionSeen). s.state.printed) c.self.view_is ∙ c.requires.going) c.tell_given.new.round c.set.new.self (c.tell_given.ensures asking.r asking.there) c.set.ensures) c.unlock.ensures.words.1 c.unlock.ensures.pass c.unlock.ensures.uses c.unlock.ensures.locks does.used does.locked

pub returns-clause-state : goal.returns-clause-state
returns-clause-state g c r there =
    let i = c.self.inside in
    let seen = session_seen i.mesh.now.lists i.number i.view i.round i.is_printed i.locked i.flight i.frames in
    let asking : IsAsking i.round (GiveBack c.args.patch) = asking_of seen c.args.self.now r (GiveBack c.args.patch) c.self.view_is there c.requires.asks in
    given_seen i.mesh.now.lists i.number i.view i.round i.is_printed i.locked i.flight i.frames c.args.patch c.self.invariant asking (ap (λ (s : SessionSeen). s.state.flight) c.self.view_is ∙ c.requires.no_flight) (ap (λ (s : SessionSeen). s.state.printed) c.self.view_is ∙ c.requires.going) c.tell_given.new.round c.set.new.self (c.tell_given.ensures r asking.there) c.set.ensures ∙ ap (λ (s : SessionSeen). with_state s (with_round s.state (after_release r))) c.self.view_is
