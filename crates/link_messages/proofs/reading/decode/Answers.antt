use Rattle.link_messages.proofs.Decoded.{read_right, read_text}
use Rattle.link_messages.proofs.reading.decode.Goals as goal

pub returns-clause-right : goal.returns-clause-right
returns-clause-right c =
    read_right c.read_message.result c.args.bytes.now (λ i. (c.type_inv.bytes i).fits) c.read_message.ensures

pub returns-clause-text : goal.returns-clause-text
returns-clause-text c =
    read_text c.read_message.result c.args.bytes.now (λ i. (c.type_inv.bytes i).fits) c.read_message.ensures
