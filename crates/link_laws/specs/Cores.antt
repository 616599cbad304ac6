-- The core of a link: what may happen between a reader and its far side, whatever lies between them.
use Rattle.std.specs.Prelude.{◌≡◌, ℕ, ◌<◌, ◌⊎◌, true, if◌then◌else◌, List, [], ◌∷◌, Option, None, Some, ⊤}
use Rattle.view_outside.specs.Files.{Named}
use Rattle.view_outside.specs.Messages.{MessageSeen, message_number, is_question, message_in}
use Rattle.view_outside.specs.Links.{is_awaited, IsAnswerTo}

-- the questions sent and the answers made, the last first, and the question of the reader's open call
pub record Core : Type 0 where
  pub questions : List MessageSeen
  pub answers : List MessageSeen
  pub open_call : Option MessageSeen

-- nothing was sent yet
abbrev pub fresh : Core
fresh = record { questions = []; answers = []; open_call = None }

-- a question is sent; one that was ever sent is answered; an answer that was ever made comes; bytes come that are no
-- message with the number of the last question; a receive fails
pub data Event : Type 0 where
  Sent : (question : MessageSeen) → Event
  FarAnswers : (question answer : MessageSeen) → Event
  Comes : (answer : MessageSeen) → Event
  OtherComes : (bytes : List ℕ) → Event
  ReceiveFails : Event

-- the message is one of them
abbrev pub Has : MessageSeen → List MessageSeen → Type 0
Has message [] = ⊥
Has message (first ∷ rest) = (first ≡ message) ⊎ Has message rest

-- the question may be sent: it is the last one again, or has a number above that one's
abbrev pub MayFollow : List MessageSeen → MessageSeen → Type 0
MayFollow [] question = ⊤
MayFollow (last ∷ questions) question = (last ≡ question) ⊎ (message_number last < message_number question)

-- the bytes are no message with the number of the last question
abbrev pub IsOther : List MessageSeen → List ℕ → Type 0
IsOther [] bytes = ⊤
IsOther (last ∷ questions) bytes = (message : MessageSeen) → message_in bytes ≡ Some message
    → message_number message ≡ message_number last → ⊥

-- the open call once the message came: it ends with the answer that it awaits
abbrev pub call_after : Option MessageSeen → MessageSeen → Option MessageSeen
call_after None message = None
call_after (Some question) message = if is_awaited question message then None else Some question

-- the same, if it is a message at all
abbrev pub call_heard : Option MessageSeen → Option MessageSeen → Option MessageSeen
call_heard call None = call
call_heard call (Some message) = call_after call message

-- an event over these far files
pub data CoreSteps (far : Option (List Named)) (core : Core) : Event → Core → Type 0 where
  IsSending : (question : MessageSeen) → is_question question ≡ true → MayFollow core.questions question
      → CoreSteps far core (Sent question)
      (record core { questions = question ∷ core.questions; open_call = Some question })
  IsAnswering : (question answer : MessageSeen) → Has question core.questions
      → message_number answer ≡ message_number question → IsAnswerTo far question answer
      → CoreSteps far core (FarAnswers question answer) (record core { answers = answer ∷ core.answers })
  IsComing : (answer : MessageSeen) → Has answer core.answers
      → CoreSteps far core (Comes answer) (record core { open_call = call_after core.open_call answer })
  IsStranger : (bytes : List ℕ) → IsOther core.questions bytes
      → CoreSteps far core (OtherComes bytes) (record core { open_call = call_heard core.open_call (message_in bytes) })
  IsFailing : CoreSteps far core ReceiveFails core

-- events one after the other
pub data CoreRuns (far : Option (List Named)) (start : Core) : List Event → Core → Type 0 where
  Begins : CoreRuns far start [] start
  GoesOn : (events : List Event) (event : Event) (core next : Core) → CoreRuns far start events core
      → CoreSteps far core event next → CoreRuns far start (event ∷ events) next

-- other bytes come that are this message
pub record ComesOther (far : Option (List Named)) (core : Core) (message : MessageSeen) (next : Core) : Type 0 where
  pub bytes : List ℕ
  pub is : message_in bytes ≡ Some message
  pub step : CoreSteps far core (OtherComes bytes) next

-- the open call takes the message that comes as the answer that it awaits
pub record Takes (far : Option (List Named)) (core : Core) (question message : MessageSeen) (next : Core) : Type 0 where
  pub call : core.open_call ≡ Some question
  pub awaited : is_awaited question message ≡ true
  pub comes : CoreSteps far core (Comes message) next ⊎ ComesOther far core message next
