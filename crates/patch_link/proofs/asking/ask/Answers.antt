use Rattle.std.proofs.Common.{◌+◌, true, false, Some, inl, inr, take, sym, ap, ◌∙◌, subst, arith}
use Rattle.link_messages.specs.Seen.{seen}
use Rattle.patch_link.specs.AskingLaws.{may_send, sent_now, part_sent, part_not_sent, part_none_came, part_refused}
use Rattle.patch_link.specs.AskingLaws.{part_strayed, part_answered, part_ended, part_when, rose_more, rose_by_none}
use Rattle.patch_link.specs.AskingLaws.{rose_by_fault}
use Rattle.patch_link.proofs.asking.ask.Goals as goal

pub returns-in-Answer-clause-asks : goal.returns-in-Answer-clause-asks
returns-in-Answer-clause-asks g c =
    let t = c.tries in
    let l = g.L.Link in
    let question = seen c.args.question.now in
    let part = part_when l.Sends l.Receives question c.args.link.now t.under_way true t.failures t.strays t.link
    c.if-under_way.true t.invariant.part in
    part_answered l.Sends l.Receives question c.args.link.now t.failures t.strays (omega (arith, c.tries-test.true))
    c.if-strays-lt128.true t.link c.receive_once.new.link (take c.in-Answer.n c.receive_once.new.buffer)
    c.in-Answer.ensures.arrives part

pub tries-preserved-in-Refusal : goal.tries-preserved-in-Refusal
tries-preserved-in-Refusal g c =
    let t = c.tries in
    let l = g.L.Link in
    let e = c.in-Refusal.ensures in
    let question = seen c.args.question.now in
    let start = c.args.link.now in
    let next = c.receive_once.new.link in
    let part = part_when l.Sends l.Receives question start t.under_way true t.failures t.strays t.link
    c.if-under_way.true t.invariant.part in
    record {
      part = part_refused l.Sends l.Receives question start t.failures t.strays (omega (arith, c.tries-test.true))
          c.if-strays-lt128.true t.link next e.arrives part;
      sent = sent_now (l.last next) question false (t.failures + 1) t.strays
          (e.last ∙ t.invariant.sent.sent c.if-under_way.true);
      far = e.far ∙ t.invariant.far;
      honesty = e.honesty ∙ t.invariant.honesty;
      tells = e.tells ∙ t.invariant.tells;
      room = e.room ∙ t.invariant.room;
      cost = rose_more (t.failures + t.strays) 1 (t.failures + 1 + t.strays) (l.faults start) (l.received start)
          (l.faults t.link) (l.received t.link) (l.faults next) (l.received next) (omega arith) e.faults e.received
          t.invariant.cost e.counted;
    }

pub tries-preserved-in-Nothing : goal.tries-preserved-in-Nothing
tries-preserved-in-Nothing g c =
    let t = c.tries in
    let l = g.L.Link in
    let e = c.in-Nothing.ensures in
    let question = seen c.args.question.now in
    let start = c.args.link.now in
    let next = c.receive_once.new.link in
    let part = part_when l.Sends l.Receives question start t.under_way true t.failures t.strays t.link
    c.if-under_way.true t.invariant.part in
    record {
      part = part_none_came l.Sends l.Receives question start t.failures t.strays (omega (arith, c.tries-test.true))
          c.if-strays-lt128.true t.link next e.arrives part;
      sent = sent_now (l.last next) question false (t.failures + 1) t.strays
          (e.last ∙ t.invariant.sent.sent c.if-under_way.true);
      far = e.far ∙ t.invariant.far;
      honesty = e.honesty ∙ t.invariant.honesty;
      tells = e.tells ∙ t.invariant.tells;
      room = e.room ∙ t.invariant.room;
      cost = rose_more (t.failures + t.strays) 1 (t.failures + 1 + t.strays) (l.faults start) (l.received start)
          (l.faults t.link) (l.received t.link) (l.faults next) (l.received next) (omega arith) e.faults e.received
          t.invariant.cost e.counted;
    }

pub tries-preserved-in-Stray : goal.tries-preserved-in-Stray
tries-preserved-in-Stray g c =
    let t = c.tries in
    let l = g.L.Link in
    let e = c.in-Stray.ensures in
    let question = seen c.args.question.now in
    let start = c.args.link.now in
    let next = c.receive_once.new.link in
    let under = c.if-under_way.true in
    let part = part_when l.Sends l.Receives question start t.under_way true t.failures t.strays t.link under
    t.invariant.part in
    record {
      part = part_when l.Sends l.Receives question start true t.under_way t.failures (t.strays + 1) next (sym under)
          (part_strayed l.Sends l.Receives question start t.failures t.strays (omega (arith, c.tries-test.true))
          c.if-strays-lt128.true t.link next e.arrives part);
      sent = sent_now (l.last next) question t.under_way t.failures (t.strays + 1)
          (e.last ∙ t.invariant.sent.sent under);
      far = e.far ∙ t.invariant.far;
      honesty = e.honesty ∙ t.invariant.honesty;
      tells = e.tells ∙ t.invariant.tells;
      room = e.room ∙ t.invariant.room;
      cost = rose_more (t.failures + t.strays) 1 (t.failures + (t.strays + 1)) (l.faults start) (l.received start)
          (l.faults t.link) (l.received t.link) (l.faults next) (l.received next) (omega arith) e.faults e.received
          t.invariant.cost e.counted;
    }

pub send-requires : goal.send-requires
send-requires g c =
    let t = c.tries in
    may_send (g.L.Link.last t.link) (seen c.args.question.now) (take c.encode-size.result c.encode-size.new.out)
    t.under_way t.failures t.strays c.requires.right c.requires.asks c.encode-size.ensures.text t.invariant.sent

pub tries-preserved-in-Ok : goal.tries-preserved-in-Ok
tries-preserved-in-Ok g c =
    let t = c.tries in
    let l = g.L.Link in
    let e = c.in-Ok.ensures in
    let question = seen c.args.question.now in
    let start = c.args.link.now in
    let next = c.send.new.self in
    let text = c.encode-size.ensures.text in
    let part = part_when l.Sends l.Receives question start t.under_way false t.failures t.strays t.link
    c.if-under_way.false t.invariant.part in
    record {
      part = part_sent l.Sends l.Receives question start t.failures t.strays (omega (arith, c.tries-test.true))
          c.if-strays-lt128.true t.link next (subst (λ m. l.Sends t.link m true next) text e.step) part;
      sent = sent_now (l.last next) question true t.failures t.strays (e.last ∙ ap Some text);
      far = e.far ∙ t.invariant.far;
      honesty = e.honest ∙ t.invariant.honesty;
      tells = e.tells ∙ t.invariant.tells;
      room = t.invariant.room;
      cost = rose_more (t.failures + t.strays) 0 (t.failures + t.strays) (l.faults start) (l.received start)
          (l.faults t.link) (l.received t.link) (l.faults next) (l.received next) (omega arith) e.cause.later
          (omega (arith, e.received)) t.invariant.cost
          (rose_by_none (l.faults t.link) (l.received t.link) (l.faults next) (l.received next) e.cause.later
          (omega (arith, e.received)));
    }

pub tries-preserved : goal.tries-preserved
tries-preserved g c =
    let t = c.tries in
    let l = g.L.Link in
    let e = c.in-Err.ensures in
    let question = seen c.args.question.now in
    let start = c.args.link.now in
    let next = c.send.new.self in
    let text = c.encode-size.ensures.text in
    let idle = c.if-under_way.false in
    let part = part_when l.Sends l.Receives question start t.under_way false t.failures t.strays t.link idle
    t.invariant.part in
    record {
      part = part_when l.Sends l.Receives question start false t.under_way (t.failures + 1) t.strays next (sym idle)
          (part_not_sent l.Sends l.Receives question start t.failures t.strays (omega (arith, c.tries-test.true))
          c.if-strays-lt128.true t.link next (subst (λ m. l.Sends t.link m false next) text e.step) part);
      sent = sent_now (l.last next) question t.under_way (t.failures + 1) t.strays (e.last ∙ ap Some text);
      far = e.far ∙ t.invariant.far;
      honesty = e.honest ∙ t.invariant.honesty;
      tells = e.tells ∙ t.invariant.tells;
      room = t.invariant.room;
      cost = rose_more (t.failures + t.strays) 1 (t.failures + 1 + t.strays) (l.faults start) (l.received start)
          (l.faults t.link) (l.received t.link) (l.faults next) (l.received next) (omega arith) e.cause.later
          (omega (arith, e.received)) t.invariant.cost
          (rose_by_fault (l.faults t.link) (l.received t.link) (l.faults next) (l.received next) (e.cause.failed tt)
          (omega (arith, e.received)));
    }

pub returns-else-strays-lt128-clause-asks : goal.returns-else-strays-lt128-clause-asks
returns-else-strays-lt128-clause-asks g c =
    let t = c.tries in
    part_ended g.L.Link.Sends g.L.Link.Receives (seen c.args.question.now) c.args.link.now t.under_way t.failures
    t.strays t.link (inr c.if-strays-lt128.false) t.invariant.part

pub returns-after-tries-clause-asks : goal.returns-after-tries-clause-asks
returns-after-tries-clause-asks g c =
    let t = c.tries in
    part_ended g.L.Link.Sends g.L.Link.Receives (seen c.args.question.now) c.args.link.now t.under_way t.failures
    t.strays t.link (inl c.tries-test.false) t.invariant.part
