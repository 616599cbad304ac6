-- What is known of a message that was read from bytes.
use Rattle.std.proofs.Common.{◌≡◌, ℕ, List, Option, None, Some, IfSome, sym}
use Rattle.std.specs.Option.{option_map}
use Rattle.view_outside.specs.Files.{AreBytes}
use Rattle.view_outside.specs.Messages.{IsMessage, message_text, message_in}
use Rattle.link_messages.specs.declared.messages.Message.{Message}
use Rattle.link_messages.specs.Seen.{seen}
use Rattle.link_messages.specs.Spells.{message_in-spells}

pub read_right : (read : Option Message) (bytes : List ℕ) → AreBytes bytes → option_map seen read ≡ message_in bytes
    → IfSome read (λ m. IsMessage (seen m))
read_right None bytes are is = tt
read_right (Some m) bytes are is = (message_in-spells bytes (seen m) are (sym is)).right

pub read_text : (read : Option Message) (bytes : List ℕ) → AreBytes bytes → option_map seen read ≡ message_in bytes
    → IfSome read (λ m. message_text (seen m) ≡ bytes)
read_text None bytes are is = tt
read_text (Some m) bytes are is = (message_in-spells bytes (seen m) are (sym is)).text
