use Rattle.text_model.specs.FrameText.{try_text}
use Rattle.frame_writer.specs.Appending.{Adds-no_words}
use Rattle.frame_writer.proofs.LineLemmas.{Adds-one_more}
use Rattle.frame_writer.proofs.words.write_try_words.Goals as goal

pub loop-answer-init : goal.loop-answer-init
loop-answer-init c = Adds-no_words c.args.out.now.items

pub loop-answer-preserved : goal.loop-answer-preserved
loop-answer-preserved c = Adds-one_more try_text c.args.tries.now c.loop-answer.answer-index _ c.loop-answer-test.true c.loop-answer.invariant c.in_ok-write_spaced.ensures.ok
