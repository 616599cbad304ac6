use Rattle.std.proofs.Common.{arith}
use Rattle.link_messages.specs.Seen.{seen}
use Rattle.patch_link.specs.AskingLaws.{true_arrival, fitting_arrival}
use Rattle.patch_link.proofs.asking.arrivals.receive_once.Goals as goal

pub returns-in-Ok-clause-honest : goal.returns-in-Ok-clause-honest
returns-in-Ok-clause-honest g c =
    λ honest sent. true_arrival (g.L.Link.far c.args.link.now) (seen c.args.question.now)
    (g.L.Link.last c.args.link.now) c.receive.new.buffer c.in-Ok.size c.arrival_of.result c.requires.right
    (omega (arith, c.in-Ok.ensures.size, c.in-Ok.ensures.room, c.requires.room)) sent
    (c.in-Ok.ensures.answer honest) c.arrival_of.ensures

pub returns-in-Ok-clause-within : goal.returns-in-Ok-clause-within
returns-in-Ok-clause-within g c =
    fitting_arrival (seen c.args.question.now) c.receive.new.buffer c.in-Ok.size c.arrival_of.result
    c.in-Ok.ensures.size c.arrival_of.ensures
