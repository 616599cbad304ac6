use Rattle.memory_link.specs.BarrenLaws.{lost_find}
use Rattle.memory_link.proofs.far_finds.find_far.Goals as goal

pub returns-clause-lost : goal.returns-clause-lost
returns-clause-lost g c =
    λ lost.
    let fails = lost_find g.S.Store.files g.S.Store.faults g.S.Store.taken c.args.store.now c.find.new.self
    c.args.name.now c.find.result lost c.utf8.name c.find.ensures.asked c.find.ensures.no_name c.find.ensures.last in
    fails.fails

pub returns-clause-stays : goal.returns-clause-stays
returns-clause-stays g c =
    λ lost.
    let fails = lost_find g.S.Store.files g.S.Store.faults g.S.Store.taken c.args.store.now c.find.new.self
    c.args.name.now c.find.result lost c.utf8.name c.find.ensures.asked c.find.ensures.no_name c.find.ensures.last in
    fails.stays
