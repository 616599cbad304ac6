-- What a message in memory says.
use Rattle.link_messages.specs.declared.messages.Message.{Message}
use Rattle.link_messages.specs.declared.messages.Message.TheVariants.{AskBytes, Bytes, AskName, File, Failed}
use Rattle.view_outside.specs.Messages.{MessageSeen, AsksBytes, GivesBytes, AsksName, GivesFile, SaysFailed}

abbrev pub seen : Message → MessageSeen
seen (AskBytes number file offset size) = AsksBytes number file offset size
seen (Bytes number file offset size bytes) = GivesBytes number file offset size bytes.now
seen (AskName number name) = AsksName number name.now
seen (File number file) = GivesFile number file
seen (Failed number) = SaysFailed number
