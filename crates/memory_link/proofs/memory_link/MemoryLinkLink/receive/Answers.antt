use Rattle.std.proofs.Common.{arith, rules, take}
use Rattle.std.proofs.lemmas.Grind.{common_steps}
use Rattle.std.proofs.lemmas.List.{nil_from_length}
use Rattle.memory_link.specs.StepLaws.{first_there, nothing_came, first_came}
use Rattle.memory_link.proofs.memory_link.MemoryLinkLink.receive.Goals as goal

pub returns-then-is_empty-clause-step : goal.returns-then-is_empty-clause-step
returns-then-is_empty-clause-step g c =
    nothing_came g.S.Store.files _ c.args.self.now c.self.view_is c.saturating_add-self-inside.result (search rules)
    (nil_from_length c.self.inside.waiting.items
    (grind (arith, common_steps, c.if-is_empty.ensures, c.if-is_empty.true)))

pub returns-clause-step : goal.returns-clause-step
returns-clause-step g c =
    first_came g.S.Store.files _ c.args.self.now c.self.view_is c.saturating_add-self-inside-2.result
    c.remove-held.result (take c.copy_to.result c.copy_to.new.buffer) c.remove-held.new.self.items (search rules)
    c.copy_to.ensures.bytes c.self.invariant.1
    (first_there c.self.inside.waiting.items c.remove-held.new.self.items c.remove-held.result (omega arith)
    c.remove-held.ensures.value c.remove-held.ensures.items)
