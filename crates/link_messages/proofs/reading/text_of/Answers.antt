use Rattle.std.specs.Str.{is_utf8}
use Rattle.std.proofs.lemmas.Bool.{false_from_ne_true}
use Rattle.std.proofs.lemmas.Str.{IsUtf8-from_is_utf8, is_utf8-from_IsUtf8}
use Rattle.link_messages.proofs.reading.text_of.Goals as goal

pub returns-in-Ok : goal.returns-in-Ok
returns-in-Ok c = let is = c.in-Ok.ensures.cases in (is.0, is_utf8-from_IsUtf8 c.args.bytes.now is.1)

pub returns-in-Err : goal.returns-in-Err
returns-in-Err c =
    let isnt = c.in-Err.ensures.cases in
    false_from_ne_true (is_utf8 c.args.bytes.now) (λ t. isnt.0 (IsUtf8-from_is_utf8 c.args.bytes.now t))
