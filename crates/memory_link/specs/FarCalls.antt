-- What a far side makes of a question: one call on its store, and the answer that tells what came of it.
use Rattle.std.specs.Prelude.{◌≡◌, ℕ, ◌^◌, ◌<◌, ◌≤◌, false, List, length, take, Option, Some}
use Rattle.std.specs.Prelude.{Result, Ok, Err, IfOk, MatchResult}
use Rattle.std.specs.Borrow.{GName}
use Rattle.view_outside.specs.Faults.{HasCause}
use Rattle.view_outside.specs.Files.{Named, AreBytes, HasFile, HasName, Finds, ReadsFile, TellsBytes}
use Rattle.view_outside.specs.Taken.{taken_after}
use Rattle.view_outside.specs.Messages.{MessageSeen, AsksBytes, GivesBytes, AsksName, GivesFile, SaysFailed}
use Rattle.view_outside.specs.Messages.{is_question, IsMessage, message_text, message_in}
use Rattle.view_outside.specs.declared.failed.Failed.{Failed}

-- a store that is lent, and who lent it
pub record Lent (S : Type 0) : Type 0 where
  pub store : S
  pub lender : GName

-- the store was asked for a name, and this came of it
pub record HasFound {S : Type 0} (files : S → Option (List Named)) (faults taken : S → ℕ) (name : List ℕ)
    (old new : S) (result : Result ℕ Failed) : Type 0 where
  pub there : IfOk result (λ file. HasFile (files old) file)
  pub found : IfOk result (λ file. Finds (files old) name file)
  pub cause : HasCause (faults old) (faults new) (HasName (files old) name) result
  pub kept : files new ≡ files old
  pub counted : taken new ≡ taken old
  pub fits : IfOk result (λ file. file < 2 ^ 32)

-- the store was asked for bytes, and this came of it, the bytes in a buffer of the size
pub record HasRead {S : Type 0} (files : S → Option (List Named)) (faults taken : S → ℕ) (file offset size : ℕ)
    (old new : S) (buffer : List ℕ) (result : Result ℕ Failed) : Type 0 where
  pub room : length buffer ≡ size
  pub given : AreBytes buffer
  pub bound : IfOk result (λ n. n ≤ size)
  pub bytes : IfOk result (λ n. ReadsFile (files old) file offset buffer n)
  pub told : IfOk result (λ _. TellsBytes (files old) file)
  pub cause : HasCause (faults old) (faults new) (HasFile (files old) file) result
  pub kept : files new ≡ files old
  pub counted : MatchResult result (λ n. taken new ≡ taken_after (taken old) n) (λ _. taken new ≡ taken old)

-- the answer to a question for a name: the file's number, or that the call failed
abbrev pub found_answer : ℕ → Result ℕ Failed → MessageSeen
found_answer number (Ok file) = GivesFile number file
found_answer number (Err failed) = SaysFailed number

-- the answer to a question for bytes: the bytes, or that the call failed
abbrev pub read_answer : (number file offset size : ℕ) → List ℕ → Result ℕ Failed → MessageSeen
read_answer number file offset size buffer (Ok n) = GivesBytes number file offset size (take n buffer)
read_answer number file offset size buffer (Err failed) = SaysFailed number

-- the question for a name was answered so by one call
pub record AnswersName {S : Type 0} (files : S → Option (List Named)) (faults taken : S → ℕ) (number : ℕ)
    (name : List ℕ) (old new : S) (bytes : List ℕ) : Type 0 where
  pub result : Result ℕ Failed
  pub called : HasFound files faults taken name old new result
  pub text : bytes ≡ message_text (found_answer number result)

-- the question for bytes was answered so by one call
pub record AnswersRead {S : Type 0} (files : S → Option (List Named)) (faults taken : S → ℕ)
    (number file offset size : ℕ) (old new : S) (bytes : List ℕ) : Type 0 where
  pub buffer : List ℕ
  pub result : Result ℕ Failed
  pub called : HasRead files faults taken file offset size old new buffer result
  pub text : bytes ≡ message_text (read_answer number file offset size buffer result)

-- the question was answered by these bytes, from one call on the store
abbrev pub CallsFor : {S : Type 0} → (S → Option (List Named)) → (S → ℕ) → (S → ℕ) → MessageSeen → S → S → List ℕ
    → Type 0
CallsFor files faults taken (AsksName number name) old new bytes =
    AnswersName files faults taken number name old new bytes
CallsFor files faults taken (AsksBytes number file offset size) old new bytes =
    AnswersRead files faults taken number file offset size old new bytes
CallsFor files faults taken (GivesBytes number file offset size given) old new bytes = ⊥
CallsFor files faults taken (GivesFile number file) old new bytes = ⊥
CallsFor files faults taken (SaysFailed number) old new bytes = ⊥

-- the message is a question, and it was answered by these bytes
pub record HasAnswered {S : Type 0} (files : S → Option (List Named)) (faults taken : S → ℕ) (message : List ℕ)
    (old new : S) (bytes : List ℕ) : Type 0 where
  pub question : MessageSeen
  pub is : message_in message ≡ Some question
  pub right : IsMessage question
  pub calls : CallsFor files faults taken question old new bytes

-- the message is no question
abbrev pub AsksNothing : List ℕ → Type 0
AsksNothing message = (question : MessageSeen) → message_in message ≡ Some question → is_question question ≡ false
