use Rattle.live_words.proofs.AnswerLemmas.{shown_joined}
use Rattle.live_words.proofs.shows.show_text.Goals as goal

pub returns : goal.returns
returns c = λ frame is.
    shown_joined frame c.args.cut.now c.args.tries.now c.args.patches.now c.in_ok-text.text.items c.write_front.new.out.items
    (c.in_ok-text.ensures frame is.session_is is.number_is is.triangles_are is.cut_is is.patches_are)
    c.in_ok-write_front.ensures.ok is.cut_is is.tries_are is.patches_are
