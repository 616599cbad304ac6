use Rattle.std.proofs.Common.{ap, ◌∙◌}
use Rattle.session_seats.specs.Seats.{SeatsSeen}
use Rattle.session_seats.specs.Boards.{posted_on}
use Rattle.session_seats.proofs.SeenLaws.{seen_many, seen_number, seated_viewed, told_as_viewed}
use Rattle.session_seats.proofs.ViewLaws.{view_mesh, view_board, view_does}
use Rattle.session_seats.proofs.seats.Seats.set_view.Goals as goal

pub returns-clause-does : goal.returns-clause-does
returns-clause-does c =
    let i = c.self.inside in
    let o = c.requires.open in
    let number = seen_number i.mesh.now.lists i.seats.items c.args.self.now c.self.view_is c.self.invariant c.args.session o.session o.at in
    view_does c.args.self.now (seen_many i.mesh.now.lists i.seats.items c.args.self.now c.self.view_is c.self.invariant) c.args.session number o.session o.at c.args.view c.see.new.self (c.see.ensures o.session o.at) c.args.board.now c.requires.board c.post.new.self (c.in_ok-post.ensures.posted ∙ ap (λ (x : SeatsSeen). posted_on c.args.board.now c.args.session c.args.view x.mesh) c.self.view_is) c.requires.few

pub returns-clause-seated : goal.returns-clause-seated
returns-clause-seated c = λ words are.
    let i = c.self.inside in
    let o = c.requires.open in
    let number = seen_number i.mesh.now.lists i.seats.items c.args.self.now c.self.view_is c.self.invariant c.args.session o.session o.at in
    seated_viewed c.args.self.now (seen_many i.mesh.now.lists i.seats.items c.args.self.now c.self.view_is c.self.invariant) c.args.session number o.session o.at c.args.view words are c.see.new.self (c.see.ensures o.session o.at)

pub returns-clause-told : goal.returns-clause-told
returns-clause-told c = λ told tells.
    let i = c.self.inside in
    let o = c.requires.open in
    let number = seen_number i.mesh.now.lists i.seats.items c.args.self.now c.self.view_is c.self.invariant c.args.session o.session o.at in
    told_as_viewed c.args.self.now (seen_many i.mesh.now.lists i.seats.items c.args.self.now c.self.view_is c.self.invariant) c.args.session number o.session o.at c.args.view told tells c.see.new.self (c.see.ensures o.session o.at)

pub returns-clause-mesh : goal.returns-clause-mesh
returns-clause-mesh c =
    let i = c.self.inside in
    let o = c.requires.open in
    let number = seen_number i.mesh.now.lists i.seats.items c.args.self.now c.self.view_is c.self.invariant c.args.session o.session o.at in
    view_mesh c.args.self.now (seen_many i.mesh.now.lists i.seats.items c.args.self.now c.self.view_is c.self.invariant) c.args.session number o.session o.at c.args.view c.see.new.self (c.see.ensures o.session o.at)

pub returns-clause-board : goal.returns-clause-board
returns-clause-board c =
    let i = c.self.inside in
    let o = c.requires.open in
    let number = seen_number i.mesh.now.lists i.seats.items c.args.self.now c.self.view_is c.self.invariant c.args.session o.session o.at in
    view_board c.args.self.now (seen_many i.mesh.now.lists i.seats.items c.args.self.now c.self.view_is c.self.invariant) c.args.session number o.session o.at c.args.view c.see.new.self (c.see.ensures o.session o.at) c.args.board.now c.requires.board c.post.new.self (c.in_ok-post.ensures.posted ∙ ap (λ (x : SeatsSeen). posted_on c.args.board.now c.args.session c.args.view x.mesh) c.self.view_is)
