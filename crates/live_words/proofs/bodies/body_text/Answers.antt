use Rattle.std.proofs.Common.{length, ap, ◌∙◌, rules}
use Rattle.file_model.specs.Spelling.{body_text}
use Rattle.live_words.proofs.AnswerLemmas.{given_joined}
use Rattle.live_words.proofs.bodies.body_text.Goals as goal

pub returns : goal.returns
returns c =
    let body = c.args.body.now in
    let text = c.size.ensures.facts.text in
    given_joined c.args.patch c.from.result c.size.result (body_text body.version body.lists) c.bytes.result.now _ _ _ _
    (search rules) (c.size.ensures.size ∙ ap length text) (c.bytes.ensures ∙ text) c.new-text.ensures.items
    c.in_ok-add_line.ensures.ok c.in_ok-extend_from_slice.ensures.items c.in_ok-end_line.ensures.ok
