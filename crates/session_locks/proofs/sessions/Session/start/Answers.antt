use Rattle.std.proofs.Common.{◌≡◌, Bool, true, false, not, sym, ap, ◌∙◌}
use Rattle.std.specs.Option.{is_none}
use Rattle.session_locks.specs.Sessions.{SessionSeen}
use Rattle.session_locks.proofs.StepParts.{starts_begun, starts_still}
use Rattle.session_locks.proofs.sessions.Session.start.Goals as goal

pub returns-in_ok-begin-clause-round : goal.returns-in_ok-begin-clause-round
returns-in_ok-begin-clause-round c =
    let view = c.requires.view.0 in
    let viewed = c.requires.view.1 in
    let none : is_none c.self.inside.round ≡ true = ap not c.is_none.ensures ∙ ap (λ (b : Bool). not (not b)) c.if-is_none.true in
    starts_begun c.args.self.now c.begin.new.self view (ap (λ (s : SessionSeen). is_none s.state.round) (sym c.self.view_is) ∙ none) viewed (c.in_ok-begin.ensures.begun view viewed)

pub returns-else-is_none-clause-round : goal.returns-else-is_none-clause-round
returns-else-is_none-clause-round c =
    let some : is_none c.self.inside.round ≡ false = ap not c.is_none.ensures ∙ ap (λ (b : Bool). not (not b)) c.if-is_none.false in
    starts_still c.args.self.now (ap (λ (s : SessionSeen). is_none s.state.round) (sym c.self.view_is) ∙ some)
