use Rattle.frame_writer.specs.Appending.{Adds-no_words}
use Rattle.frame_writer.specs.Parts.{part_text}
use Rattle.frame_writer.proofs.LineLemmas.{Adds-one_more}
use Rattle.frame_writer.proofs.lines.write_parts.Goals as goal

pub loop-part-init : goal.loop-part-init
loop-part-init c = Adds-no_words c.args.out.now.items

pub loop-part-preserved : goal.loop-part-preserved
loop-part-preserved c = Adds-one_more part_text c.args.parts.now c.loop-part.part-index _ c.loop-part-test.true c.loop-part.invariant c.in_ok-write_spaced.ensures.ok
