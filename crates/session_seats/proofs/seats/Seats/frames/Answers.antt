use Rattle.std.proofs.Common.{ap, ◌∙◌}
use Rattle.session_model.specs.Sessions.{SessionState}
use Rattle.session_seats.proofs.Calls.{none_missing}
use Rattle.session_seats.proofs.SeenLaws.{seat_seen}
use Rattle.session_seats.proofs.seats.Seats.frames.Goals as goal

pub unreachable-requires : goal.unreachable-requires
unreachable-requires c =
    let i = c.self.inside in
    none_missing i.mesh.now.lists i.seats.items c.args.self.now c.self.view_is c.self.invariant c.args.session c.requires.session c.requires.at c.index.result.now c.index.ensures c.in-None.is

pub returns-clause-value : goal.returns-clause-value
returns-clause-value c = λ s at.
    let i = c.self.inside in
    let same = seat_seen i.mesh.now.lists i.seats.items c.args.self.now c.self.view_is c.self.invariant c.args.session s at c.index.result.now c.index.ensures c.in-Some.seat c.in-Some.is in
    c.frames.ensures ∙ ap (λ (x : SessionState). x.frames) same
