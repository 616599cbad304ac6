use Rattle.link_messages.specs.Spelled.{message_in-text}
use Rattle.link_messages.specs.Spells.{message_in-spells}
use Rattle.link_messages.proofs.laws.a_message_has_one_spelling.Goals as goal

pub returns-clause-read : goal.returns-clause-read
returns-clause-read c = message_in-text

pub returns-clause-spells : goal.returns-clause-spells
returns-clause-spells c = message_in-spells
