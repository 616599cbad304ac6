use Rattle.frame_writer.proofs.PointTextLemmas.{texts_more}
use Rattle.frame_writer.proofs.body_lines.find_texts.Goals as goal

pub loop-point-preserved : goal.loop-point-preserved
loop-point-preserved c = texts_more c.args.body.now.lists.points c.loop-point.point c.point.result c.point.ensures.there c.loop-point.invariant c.new.ensures c.in_ok-push.ensures.items
