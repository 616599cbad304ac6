-- The three lines stand behind one another.
use Rattle.std.proofs.lemmas.Result.{on_ok_weaker}
use Rattle.text_model.specs.FrameText.{cut_line, patches_line}
use Rattle.frame_writer.specs.Appending.{Adds-then}
use Rattle.frame_writer.proofs.frames.write_front.Goals as goal

pub returns-clause-ok : goal.returns-clause-ok
unfolding cut_line patches_line
returns-clause-ok c =
    on_ok_weaker c.write_numbers-2.result (λ patches. Adds-then c.in_ok-write_numbers.ensures.ok (Adds-then c.in_ok-write_tries.ensures.ok patches)) c.write_numbers-2.ensures.ok
