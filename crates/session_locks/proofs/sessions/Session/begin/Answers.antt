use Rattle.std.proofs.Common.{Some, sym, ap, subst, ◌∙◌}
use Rattle.round_model.specs.Refiners.{Refining}
use Rattle.session_model.specs.Sessions.{is_left_over}
use Rattle.session_model.specs.Steps.{begun_round, with_round}
use Rattle.session_locks.specs.Sessions.{SessionSeen, with_state, session_seen, AreParts}
use Rattle.session_locks.specs.Passes.{HasSameUses}
use Rattle.session_locks.proofs.PartLaws.{begun_parts, begun_seen, begun_same}
use Rattle.session_locks.proofs.sessions.Session.begin.Goals as goal

pub invariant_of-self : goal.invariant_of-self
invariant_of-self c =
    let i = c.self.inside in
    let view = c.requires.view.0 in
    let viewed = c.requires.view.1 in
    let same = c.in_ok-round.ensures view viewed ∙ ap (λ (s : SessionSeen). begun_round s.mesh view) (sym c.self.view_is) in
    subst (λ (r : Refining). AreParts (session_seen i.mesh.now.lists i.number i.view (Some r) i.is_printed i.locked i.flight i.frames) i.locked) (sym same)
    (begun_parts i.mesh.now.lists i.number i.view i.round i.is_printed i.locked i.flight i.frames view c.self.invariant (ap (λ (s : SessionSeen). s.state.view) c.self.view_is ∙ viewed) (ap (λ (s : SessionSeen). s.state.round) c.self.view_is ∙ c.requires.no_round) (λ p. ap (λ (s : SessionSeen). is_left_over s.state p) c.self.view_is ∙ c.requires.no_old p) (ap (λ (s : SessionSeen). s.state.flight) c.self.view_is ∙ c.requires.no_flight) (ap (λ (s : SessionSeen). s.state.printed) c.self.view_is ∙ c.requires.going))

pub returns-clause-begun : goal.returns-clause-begun
returns-clause-begun c view viewed =
    let i = c.self.inside in
    let same = c.in_ok-round.ensures view viewed ∙ ap (λ (s : SessionSeen). begun_round s.mesh view) (sym c.self.view_is) in
    ap (λ (r : Refining). session_seen i.mesh.now.lists i.number i.view (Some r) i.is_printed i.locked i.flight i.frames) same
    ∙ begun_seen i.mesh.now.lists i.number i.view i.round i.is_printed i.locked i.flight i.frames view c.self.invariant (ap (λ (s : SessionSeen). s.state.view) c.self.view_is ∙ viewed) (ap (λ (s : SessionSeen). s.state.round) c.self.view_is ∙ c.requires.no_round) (λ p. ap (λ (s : SessionSeen). is_left_over s.state p) c.self.view_is ∙ c.requires.no_old p) (ap (λ (s : SessionSeen). s.state.flight) c.self.view_is ∙ c.requires.no_flight) (ap (λ (s : SessionSeen). s.state.printed) c.self.view_is ∙ c.requires.going)
    ∙ ap (λ (s : SessionSeen). with_state s (with_round s.state (begun_round s.mesh view))) c.self.view_is

pub returns-clause-same : goal.returns-clause-same
returns-clause-same c =
    let i = c.self.inside in
    let view = c.requires.view.0 in
    let viewed = c.requires.view.1 in
    let same = c.in_ok-round.ensures view viewed ∙ ap (λ (s : SessionSeen). begun_round s.mesh view) (sym c.self.view_is) in
    subst (λ (r : Refining). HasSameUses c.args.self.now.state (session_seen i.mesh.now.lists i.number i.view (Some r) i.is_printed i.locked i.flight i.frames).state) (sym same)
    (subst (λ (s : SessionSeen). HasSameUses s.state (session_seen i.mesh.now.lists i.number i.view (Some (begun_round i.mesh.now.lists view)) i.is_printed i.locked i.flight i.frames).state) c.self.view_is
    (begun_same i.mesh.now.lists i.number i.view i.round i.is_printed i.locked i.flight i.frames view c.self.invariant (ap (λ (s : SessionSeen). s.state.view) c.self.view_is ∙ viewed) (ap (λ (s : SessionSeen). s.state.round) c.self.view_is ∙ c.requires.no_round) (λ p. ap (λ (s : SessionSeen). is_left_over s.state p) c.self.view_is ∙ c.requires.no_old p) (ap (λ (s : SessionSeen). s.state.flight) c.self.view_is ∙ c.requires.no_flight) (ap (λ (s : SessionSeen). s.state.printed) c.self.view_is ∙ c.requires.going)))
