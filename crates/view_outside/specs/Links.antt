-- What a link may be sent and gives, which answer a question awaits, and how one question is asked.
use Rattle.std.specs.Prelude.{◌≡◌, ℕ, ◌+◌, ◌-◌, ◌^◌, ◌<◌, ◌≤◌, ◌==◌, ◌&&◌, ◌⊎◌, Bool, true, false, if◌then◌else◌}
use Rattle.std.specs.Prelude.{min, max}
use Rattle.std.specs.Prelude.{List, length, take, Option, None, Some, ⊤}
use Rattle.view_outside.specs.Faults.{Rose}
use Rattle.view_outside.specs.Files.{Named, HasFile, HasName, Finds, ReadsFile, TellsBytes}
use Rattle.view_outside.specs.Messages.{MessageSeen, AsksBytes, GivesBytes, AsksName, GivesFile, SaysFailed}
use Rattle.view_outside.specs.Messages.{message_number, is_question, message_text, message_in}

-- the count after a call that was to be counted or not: it stays at the last value of a `u64`
abbrev pub counted_after : Bool → ℕ → ℕ
counted_after counts n = if counts then max n (min (n + 1) (2 ^ 64 - 1)) else n

-- ---- questions and their answers

-- the message is the answer that the question awaits: with its number and, of bytes, its file, offset and size
abbrev pub is_awaited : MessageSeen → MessageSeen → Bool
is_awaited (AsksBytes number file offset size) (GivesBytes of_number of_file of_offset of_size bytes) =
    (of_number == number) && ((of_file == file) && ((of_offset == offset) && (of_size == size)))
is_awaited (AsksName number name) (GivesFile of_number file) = of_number == number
is_awaited question message = false

-- the message says that the far side failed at this question
abbrev pub is_refusal : MessageSeen → MessageSeen → Bool
is_refusal question (SaysFailed of_number) = of_number == message_number question
is_refusal question (AsksBytes of_number file offset size) = false
is_refusal question (GivesBytes of_number file offset size bytes) = false
is_refusal question (AsksName of_number name) = false
is_refusal question (GivesFile of_number file) = false

-- the bytes are those of the far file at the offset, whatever buffer with room they come into
pub record IsGiven (far : Option (List Named)) (file offset : ℕ) (bytes : List ℕ) : Type 0 where
  pub told : TellsBytes far file
  pub read : (buffer : List ℕ) → 0 < length buffer → take (length bytes) buffer ≡ bytes
      → ReadsFile far file offset buffer (length bytes)

-- the number is that of the first far file of this name
pub record IsNumberOf (far : Option (List Named)) (name : List ℕ) (file : ℕ) : Type 0 where
  pub there : HasFile far file
  pub found : Finds far name file

-- the message says of the far files what the question asks, where they are told
abbrev pub IsTrueOf : Option (List Named) → MessageSeen → MessageSeen → Type 0
IsTrueOf far (AsksBytes number file offset size) (GivesBytes of_number of_file of_offset of_size bytes) =
    IsGiven far file offset bytes
IsTrueOf far (AsksName number name) (GivesFile of_number file) = IsNumberOf far name file
IsTrueOf far question message = ⊥

-- the message is the far side's answer to this question
pub data IsAnswerTo (far : Option (List Named)) (question message : MessageSeen) : Type 0 where
  IsAwaited : is_awaited question message ≡ true → IsTrueOf far question message → IsAnswerTo far question message
  IsRefusal : is_refusal question message ≡ true → IsAnswerTo far question message

-- where told, the far side has what the question asks for
abbrev pub IsThere : Option (List Named) → MessageSeen → Type 0
IsThere far (AsksBytes number file offset size) = HasFile far file
IsThere far (AsksName number name) = HasName far name
IsThere far (GivesBytes number file offset size bytes) = ⊤
IsThere far (GivesFile number file) = ⊤
IsThere far (SaysFailed number) = ⊤

-- ---- what may be sent, and what an honest link gives

-- the number is above that of the last message sent
abbrev pub IsAbove : Option (List ℕ) → ℕ → Type 0
IsAbove None n = ⊤
IsAbove (Some sent) n = (question : MessageSeen) → message_in sent ≡ Some question → message_number question < n

-- the message is a question, and it is the last one again or has a number above that one's
pub record MaySend (last : Option (List ℕ)) (message : List ℕ) : Type 0 where
  pub question : MessageSeen
  pub is : message_in message ≡ Some question
  pub asks : is_question question ≡ true
  pub above : (last ≡ Some message) ⊎ IsAbove last (message_number question)

-- what was received is the far side's answer to the last message sent, if it carries its number
abbrev pub IsHonestly : Option (List Named) → Option (List ℕ) → List ℕ → Type 0
IsHonestly far None bytes = ⊤
IsHonestly far (Some sent) bytes = (question message : MessageSeen) → message_in sent ≡ Some question
    → message_in bytes ≡ Some message → message_number message ≡ message_number question
    → IsAnswerTo far question message

-- a step leaves this as the last message sent, and the far files and whether the link is honest as they were
pub record StepsTo (sent now : Option (List ℕ)) (before after : Option (List Named)) (honest still : Bool)
    : Type 0 where
  pub last : now ≡ sent
  pub far : after ≡ before
  pub honesty : still ≡ honest

-- ---- how one question is asked

-- what was received isn't the awaited answer, and doesn't say that the far side failed at this question
abbrev pub IsStray : MessageSeen → List ℕ → Type 0
IsStray question bytes = (message : MessageSeen) → message_in bytes ≡ Some message
    → (is_awaited question message ≡ false) × (is_refusal question message ≡ false)

-- a question is under way or not, so many failures and strays were met, and the link stands as it does; then it is
-- asked until the awaited answer comes, or there are 64 failures or 128 strays: it is sent, again after each failure,
-- and what comes is received
pub data Asks {L : Type 0} (sends : L → List ℕ → Bool → L → Type 0) (receives : L → Option (List ℕ) → L → Type 0)
    (question : MessageSeen) : Bool → ℕ → ℕ → L → Option MessageSeen → L → Type 0 where
  GivesUp : (under_way : Bool) (failures strays : ℕ) (link : L) → (64 ≤ failures) ⊎ (128 ≤ strays)
      → Asks sends receives question under_way failures strays link None link
  IsSent : (failures strays : ℕ) (link next : L) (answer : Option MessageSeen) (end : L)
      → failures < 64 → strays < 128 → sends link (message_text question) true next
      → Asks sends receives question true failures strays next answer end
      → Asks sends receives question false failures strays link answer end
  IsNotSent : (failures strays : ℕ) (link next : L) (answer : Option MessageSeen) (end : L)
      → failures < 64 → strays < 128 → sends link (message_text question) false next
      → Asks sends receives question false (failures + 1) strays next answer end
      → Asks sends receives question false failures strays link answer end
  NoneCame : (failures strays : ℕ) (link next : L) (answer : Option MessageSeen) (end : L)
      → failures < 64 → strays < 128 → receives link None next
      → Asks sends receives question false (failures + 1) strays next answer end
      → Asks sends receives question true failures strays link answer end
  IsAnswered : (failures strays : ℕ) (link next : L) (bytes : List ℕ) (message : MessageSeen) → failures < 64
      → strays < 128 → receives link (Some bytes) next → message_in bytes ≡ Some message
      → is_awaited question message ≡ true
      → Asks sends receives question true failures strays link (Some message) next
  IsRefused : (failures strays : ℕ) (link next : L) (bytes : List ℕ) (message : MessageSeen)
      (answer : Option MessageSeen) (end : L) → failures < 64 → strays < 128 → receives link (Some bytes) next
      → message_in bytes ≡ Some message → is_refusal question message ≡ true
      → Asks sends receives question false (failures + 1) strays next answer end
      → Asks sends receives question true failures strays link answer end
  Strays : (failures strays : ℕ) (link next : L) (bytes : List ℕ) (answer : Option MessageSeen) (end : L)
      → failures < 64 → strays < 128 → receives link (Some bytes) next → IsStray question bytes
      → Asks sends receives question true failures (strays + 1) next answer end
      → Asks sends receives question true failures strays link answer end

-- at most 64 answers are left waiting, and the call failed only where the far store did, or lacks what was asked for
pub record IsBounded (waiting before now : ℕ) (there : Type 0) (answer : Option MessageSeen) : Type 0 where
  pub few : waiting ≤ 64
  pub later : before ≤ now
  pub cause : answer ≡ None → there → Rose before now
