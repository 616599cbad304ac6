-- The heap is in order.
use Rattle.std.proofs.Common.{ap}
use Rattle.cut_refiner.specs.Candidates.{Waiting}
use Rattle.cut_refiner.proofs.CandidateLaws.{popped_first}
use Rattle.cut_refiner.proofs.candidates.Candidates.pop.Goals as goal

pub returns-clause-first : goal.returns-clause-first
returns-clause-first c =
    popped_first c.pop.result c.self.inside.heap.data.items c.pop.new.self.data.items c.args.self.now.items c.self.inside.heap.data.len c.pop.new.self.data.len c.self.inside.heap.data.ok.0
    (ap (λ (w : Waiting). w.items) c.self.view_is) c.self.invariant c.pop.ensures.heap_order c.pop.ensures.none c.pop.ensures.unchanged
