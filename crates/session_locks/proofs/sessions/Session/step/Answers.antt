use Rattle.std.proofs.Common.{sym, ap, subst, ◌∙◌}
use Rattle.session_locks.specs.Sessions.{SessionSeen, IsSession}
use Rattle.session_locks.specs.Taken.{Stops}
use Rattle.session_locks.proofs.StepParts.{withdraw_taken, unlock_taken, round_taken, settled_flight, settled_view, settled_printed, stopped, session_settled, left_over_gone, started_flight, started_printed, on_any}
use Rattle.session_locks.proofs.sessions.Session.step.Goals as goal

pub returns-in-Some-clause-step : goal.returns-in-Some-clause-step
returns-in-Some-clause-step g c =
    withdraw_taken c.args.self.now c.withdraw.new.self c.in-Some.patch (subst IsSession c.self.view_is c.self.invariant.session) (sym (ap (λ (s : SessionSeen). s.state.flight) c.self.view_is) ∙ c.in-Some.is) c.withdraw.ensures.state

pub unlock_old-requires-clause-no_flight : goal.unlock_old-requires-clause-no_flight
unlock_old-requires-clause-no_flight g c = settled_flight c.args.self.now c.settle.new.self (subst IsSession c.self.view_is c.self.invariant.session) c.settle.ensures.state ∙ (sym (ap (λ (s : SessionSeen). s.state.flight) c.self.view_is) ∙ c.in_default.is)

pub unlock_old-requires-clause-going : goal.unlock_old-requires-clause-going
unlock_old-requires-clause-going g c = settled_printed c.args.self.now c.settle.new.self (subst IsSession c.self.view_is c.self.invariant.session) c.settle.ensures.state

pub returns-in-Some-least_old-clause-step : goal.returns-in-Some-least_old-clause-step
returns-in-Some-least_old-clause-step g c =
    unlock_taken c.args.self.now c.settle.new.self c.unlock_old.new.self c.in-Some-least_old.patch (subst IsSession c.self.view_is c.self.invariant.session) (sym (ap (λ (s : SessionSeen). s.state.flight) c.self.view_is) ∙ c.in_default.is) c.settle.ensures.state (sym c.least_old.ensures ∙ c.in-Some-least_old.is) c.unlock_old.ensures.state

pub start-requires-clause-view : goal.start-requires-clause-view
start-requires-clause-view g c = (c.requires.view.0, settled_view c.args.self.now c.settle.new.self (subst IsSession c.self.view_is c.self.invariant.session) c.settle.ensures.state ∙ c.requires.view.1)

pub start-requires-clause-no_old : goal.start-requires-clause-no_old
start-requires-clause-no_old g c = left_over_gone c.settle.new.self (sym c.least_old.ensures ∙ c.in_default-least_old.is)

pub start-requires-clause-no_flight : goal.start-requires-clause-no_flight
start-requires-clause-no_flight g c = settled_flight c.args.self.now c.settle.new.self (subst IsSession c.self.view_is c.self.invariant.session) c.settle.ensures.state ∙ (sym (ap (λ (s : SessionSeen). s.state.flight) c.self.view_is) ∙ c.in_default.is)

pub start-requires-clause-going : goal.start-requires-clause-going
start-requires-clause-going g c = settled_printed c.args.self.now c.settle.new.self (subst IsSession c.self.view_is c.self.invariant.session) c.settle.ensures.state

pub returns-in_err-start-clause-none : goal.returns-in_err-start-clause-none
returns-in_err-start-clause-none g c =
    on_any (Stops c.args.self.now c.start.new.self) c.from_residual.result
    (stopped c.args.self.now c.settle.new.self (subst IsSession c.self.view_is c.self.invariant.session) c.settle.ensures.state c.start.new.self (sym (ap (λ (s : SessionSeen). s.state.flight) c.self.view_is) ∙ c.in_default.is) (sym c.least_old.ensures ∙ c.in_default-least_old.is) c.in_err-start.ensures.none.0 c.in_err-start.ensures.none.1)

pub returns-in_err-start-clause-facts : goal.returns-in_err-start-clause-facts
returns-in_err-start-clause-facts g c = session_settled c.args.self.now c.settle.new.self (subst IsSession c.self.view_is c.self.invariant.session) c.settle.ensures.state c.start.new.self c.in_err-start.ensures.none.0

pub go_on-did-requires-clause-no_flight : goal.go_on-did-requires-clause-no_flight
go_on-did-requires-clause-no_flight g c = started_flight c.settle.new.self c.start.new.self c.in_ok-start.ensures.round ∙ settled_flight c.args.self.now c.settle.new.self (subst IsSession c.self.view_is c.self.invariant.session) c.settle.ensures.state ∙ (sym (ap (λ (s : SessionSeen). s.state.flight) c.self.view_is) ∙ c.in_default.is)

pub go_on-did-requires-clause-going : goal.go_on-did-requires-clause-going
go_on-did-requires-clause-going g c = started_printed c.settle.new.self c.start.new.self c.in_ok-start.ensures.round ∙ settled_printed c.args.self.now c.settle.new.self (subst IsSession c.self.view_is c.self.invariant.session) c.settle.ensures.state

pub returns-clause-step : goal.returns-clause-step
returns-clause-step g c =
    round_taken c.args.self.now c.settle.new.self c.start.new.self c.go_on-did.new.self c.go_on-did.result (subst IsSession c.self.view_is c.self.invariant.session) (sym (ap (λ (s : SessionSeen). s.state.flight) c.self.view_is) ∙ c.in_default.is) c.settle.ensures.state (sym c.least_old.ensures ∙ c.in_default-least_old.is) c.in_ok-start.ensures.round c.go_on-did.ensures.step
