use Rattle.std.proofs.Common.{◌∙◌}
use Rattle.session_seats.proofs.SeenLaws.{open_seen}
use Rattle.session_seats.proofs.seats.Seats.is_open.Goals as goal

pub returns-clause-value : goal.returns-clause-value
returns-clause-value c =
    let i = c.self.inside in
    c.is_some.ensures ∙ open_seen i.mesh.now.lists i.seats.items c.args.self.now c.self.view_is c.self.invariant c.args.session c.index.result.now c.requires c.index.ensures
