use Rattle.audit_spelling.specs.Spellings.{try_in}
use Rattle.audit_words.proofs.EachWord.{one_more_now, none_there_now}
use Rattle.audit_words.proofs.answers.each_try.Goals as goal

pub returns-in-None : goal.returns-in-None
returns-in-None c =
    none_there_now (try_in c.args.patches) c.args.words.now c.loop-word.word-index _ c.loop-word-test.true
    c.loop-word.tries.items c.loop-word.invariant c.in_ok-answer.field-0 c.in_ok-answer.ensures c.in-None.is

pub loop-word-preserved : goal.loop-word-preserved
loop-word-preserved c =
    one_more_now (try_in c.args.patches) c.args.words.now c.loop-word.word-index _ c.loop-word-test.true
    c.loop-word.tries.items c.loop-word.invariant c.in_ok-answer.field-0 c.in-Some.answer c.push.new.self.items
    c.in_ok-answer.ensures c.in-Some.is c.in_ok-push-in-Some.ensures.items
