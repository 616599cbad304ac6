use Rattle.std.proofs.Common.{refl, sym, ap, subst, ◌∙◌}
use Rattle.session_locks.specs.Sessions.{SessionSeen, IsSession}
use Rattle.session_locks.proofs.StepParts.{ended_printed, free_withdraws, free_unlocks, free_is_free}
use Rattle.session_locks.proofs.sessions.Session.free_step.Goals as goal

pub returns-in-Some-clause-step : goal.returns-in-Some-clause-step
returns-in-Some-clause-step g c =
    free_withdraws c.args.self.now c.end_round.new.self c.withdraw.new.self (subst IsSession c.self.view_is c.self.invariant.session) c.end_round.ensures.state c.in-Some.patch (sym (ap (λ (s : SessionSeen). s.state.flight) c.self-2.view_is) ∙ c.in-Some.is) c.withdraw.ensures.state

pub returns-in_default-least_old-clause-step : goal.returns-in_default-least_old-clause-step
returns-in_default-least_old-clause-step g c =
    free_is_free c.args.self.now c.end_round.new.self c.end_round.new.self (subst IsSession c.self.view_is c.self.invariant.session) c.end_round.ensures.state (sym (ap (λ (s : SessionSeen). s.state.flight) c.self-2.view_is) ∙ c.in_default.is) (sym c.least_old.ensures ∙ c.in_default-least_old.is) refl

pub unlock_old-requires-clause-going : goal.unlock_old-requires-clause-going
unlock_old-requires-clause-going g c = ended_printed c.args.self.now c.end_round.new.self c.end_round.ensures.state

pub returns-clause-step : goal.returns-clause-step
returns-clause-step g c =
    free_unlocks c.args.self.now c.end_round.new.self c.unlock_old.new.self (subst IsSession c.self.view_is c.self.invariant.session) c.end_round.ensures.state c.in-Some-least_old.patch (sym (ap (λ (s : SessionSeen). s.state.flight) c.self-2.view_is) ∙ c.in_default.is) (sym c.least_old.ensures ∙ c.in-Some-least_old.is) c.unlock_old.ensures.state
