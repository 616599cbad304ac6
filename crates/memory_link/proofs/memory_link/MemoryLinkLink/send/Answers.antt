use Rattle.std.proofs.Common.{arith, rules, take}
use Rattle.memory_link.specs.StepLaws.{message_short, no_room, question_lost, answer_lost, answer_came, order_sent}
use Rattle.memory_link.specs.StepLaws.{order_kept, order_answered}
use Rattle.memory_link.proofs.memory_link.MemoryLinkLink.send.Goals as goal

pub new-requires : goal.new-requires
new-requires g c =
    message_short c.requires.question c.args.message.now (search (rules, c.type_inv.message)) c.requires.is

pub invariant_of-self : goal.invariant_of-self
invariant_of-self g c = (
  c.self.invariant.0,
  order_sent g.S.Store.files g.S.Store.faults g.S.Store.taken _ c.args.self.now c.args.message.now c.new.result
      c.self.view_is c.new.ensures c.requires c.self.invariant.1,
)

pub returns-then-len-gt126-clause-step : goal.returns-then-len-gt126-clause-step
returns-then-len-gt126-clause-step g c =
    no_room g.S.Store.files g.S.Store.faults g.S.Store.taken _ c.args.self.now c.args.message.now c.new.result
    c.self.view_is c.new.ensures c.saturating_add-self-inside.result (search rules) c.self.invariant.1 (omega arith)

pub invariant_of-self-then-is_multiple : goal.invariant_of-self-then-is_multiple
invariant_of-self-then-is_multiple g c = (
  c.self.invariant.0,
  order_sent g.S.Store.files g.S.Store.faults g.S.Store.taken _ c.args.self.now c.args.message.now c.new.result
      c.self.view_is c.new.ensures c.requires c.self.invariant.1,
)

pub returns-then-is_multiple-clause-step : goal.returns-then-is_multiple-clause-step
returns-then-is_multiple-clause-step g c =
    question_lost g.S.Store.files g.S.Store.faults g.S.Store.taken _ c.args.self.now c.args.message.now c.new.result
    c.self.view_is c.new.ensures c.one_more-self-inside.result c.one_more-self-inside.ensures c.self.invariant.1
    (omega arith) (search rules)

pub invariant_of-self-then-is_multiple-2 : goal.invariant_of-self-then-is_multiple-2
invariant_of-self-then-is_multiple-2 g c = (
  c.self.invariant.0,
  order_kept g.S.Store.files g.S.Store.faults g.S.Store.taken _ c.args.self.now c.args.message.now c.new.result
      c.self.view_is c.new.ensures c.answer.new.self.store (take c.in-Some.size c.answer.new.out) c.requires
      c.in-Some.ensures.answer c.self.invariant.1,
)

pub returns-then-is_multiple-2-clause-step : goal.returns-then-is_multiple-2-clause-step
returns-then-is_multiple-2-clause-step g c =
    answer_lost g.S.Store.files g.S.Store.faults g.S.Store.taken _ c.args.self.now c.args.message.now c.new.result
    c.self.view_is c.new.ensures c.one_more-self-inside.result c.one_more-self-inside-2.result
    c.answer.new.self.store c.answer.new.self.lender (take c.in-Some.size c.answer.new.out) c.in-Some.ensures.lender
    c.one_more-self-inside.ensures c.one_more-self-inside-2.ensures c.self.invariant.1 (omega arith)
    (search rules) (search rules) c.in-Some.ensures.answer

pub invariant_of-self-2 : goal.invariant_of-self-2
invariant_of-self-2 g c = (
  omega (arith, c.self.invariant.0, c.hold.ensures.room),
  order_answered g.S.Store.files g.S.Store.faults g.S.Store.taken _ c.args.self.now c.args.message.now c.new.result
      c.self.view_is c.new.ensures c.answer.new.self.store (take c.in-Some.size c.answer.new.out)
      c.is_multiple-again.result c.hold.new.waiting.items c.requires c.in-Some.ensures.answer (search rules)
      c.self.invariant.1,
)

pub returns-clause-step : goal.returns-clause-step
returns-clause-step g c =
    answer_came g.S.Store.files g.S.Store.faults g.S.Store.taken _ c.args.self.now c.args.message.now c.new.result
    c.self.view_is c.new.ensures c.one_more-self-inside.result c.one_more-self-inside-2.result
    c.one_more-self-inside-3.result c.is_multiple-again.result c.answer.new.self.store
    c.answer.new.self.lender (take c.in-Some.size c.answer.new.out) c.hold.new.waiting.items c.in-Some.ensures.lender
    c.one_more-self-inside.ensures
    c.one_more-self-inside-2.ensures c.one_more-self-inside-3.ensures c.is_multiple-again.ensures (search rules)
    c.self.invariant.1 (omega arith) (search rules) (search rules) c.in-Some.ensures.answer
