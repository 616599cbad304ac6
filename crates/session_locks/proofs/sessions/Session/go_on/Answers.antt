use Rattle.std.proofs.Common.{sym, ◌∙◌}
use Rattle.session_locks.proofs.StepParts.{goes_try, goes_back}
use Rattle.session_locks.proofs.sessions.Session.go_on.Goals as goal

pub returns-in-Lock-clause-step : goal.returns-in-Lock-clause-step
returns-in-Lock-clause-step g c =
    let r = c.requires.round.0 in
    let there = c.requires.round.1 in
    goes_try c.args.self.now c.try_patch.new.self r c.in-Lock.patch c.try_patch.result there (sym c.ask.ensures ∙ c.in-Lock.is) (c.try_patch.ensures.state r there)

pub returns-in-GiveBack-clause-step : goal.returns-in-GiveBack-clause-step
returns-in-GiveBack-clause-step g c =
    let r = c.requires.round.0 in
    let there = c.requires.round.1 in
    goes_back c.args.self.now c.give_back.new.self r c.in-GiveBack.patch there (sym c.ask.ensures ∙ c.in-GiveBack.is) (c.give_back.ensures.state r there)
