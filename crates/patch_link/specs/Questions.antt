-- What a question's answer gives: the number of a file, or bytes.
use Rattle.std.specs.Prelude.{◌≡◌, ℕ, ◌<◌, ◌≤◌, Bool, false, List, length, take, Option, None, Some}
use Rattle.std.specs.Prelude.{Result, Ok, Err, OnErr}
use Rattle.view_outside.specs.Faults.{Rose}
use Rattle.view_outside.specs.Files.{Named, ReadsFile, TellsBytes}
use Rattle.view_outside.specs.Messages.{MessageSeen, AsksBytes, GivesBytes, AsksName, GivesFile, SaysFailed}
use Rattle.view_outside.specs.Messages.{IsGiving, message_in}
use Rattle.view_outside.specs.Links.{Asks}

-- the file of an answer
abbrev pub file_answer : Option MessageSeen → Option ℕ
file_answer None = None
file_answer (Some (AsksBytes number file offset size)) = None
file_answer (Some (GivesBytes number file offset size bytes)) = None
file_answer (Some (AsksName number name)) = None
file_answer (Some (GivesFile number file)) = Some file
file_answer (Some (SaysFailed number)) = None

-- the bytes of an answer
abbrev pub bytes_answer : Option MessageSeen → Option (List ℕ)
bytes_answer None = None
bytes_answer (Some (AsksBytes number file offset size)) = None
bytes_answer (Some (GivesBytes number file offset size bytes)) = Some bytes
bytes_answer (Some (AsksName number name)) = None
bytes_answer (Some (GivesFile number file)) = None
bytes_answer (Some (SaysFailed number)) = None

-- the message gives these bytes, which are in range
pub record IsGivenIn (message given : List ℕ) : Type 0 where
  pub number : ℕ
  pub file : ℕ
  pub offset : ℕ
  pub size : ℕ
  pub is : message_in message ≡ Some (GivesBytes number file offset size given)
  pub right : IsGiving number file offset size given

-- the answer is that of the call: the file that it gave, or none where the call failed
abbrev pub GivesFileOf : {E : Type 0} → Option MessageSeen → Result ℕ E → Type 0
GivesFileOf answer (Ok file) = (number : ℕ) × (answer ≡ Some (GivesFile number file))
GivesFileOf answer (Err failed) = answer ≡ None

-- the first n bytes of the buffer are those that the answer gave
pub record GaveBytes (buffer : List ℕ) (answer : Option MessageSeen) (n : ℕ) : Type 0 where
  pub number : ℕ
  pub file : ℕ
  pub offset : ℕ
  pub size : ℕ
  pub is : answer ≡ Some (GivesBytes number file offset size (take n buffer))
  pub within : n ≤ length buffer

-- the answer is that of the call: the bytes that it gave, or none where the call failed
abbrev pub GivesBytesOf : {E : Type 0} → List ℕ → Option MessageSeen → Result ℕ E → Type 0
GivesBytesOf buffer answer (Ok n) = GaveBytes buffer answer n
GivesBytesOf buffer answer (Err failed) = answer ≡ None

-- the question was asked over the link, by its steps, until this came of it
pub record AsksFor {L : Type 0} (sends : L → List ℕ → Bool → L → Type 0) (receives : L → Option (List ℕ) → L → Type 0)
    (question : MessageSeen) (gives : Option MessageSeen → Type 0) (before after : L) : Type 0 where
  pub answer : Option MessageSeen
  pub asks : Asks sends receives question false 0 0 before answer after
  pub is : gives answer

-- the first n bytes of the buffer are the far file's from the offset, where told
pub record IsRead (far : Option (List Named)) (file offset : ℕ) (buffer : List ℕ) (n : ℕ) : Type 0 where
  pub told : TellsBytes far file
  pub read : 0 < length buffer → ReadsFile far file offset buffer n

-- at most 64 answers are left waiting, the far store's count of faults didn't fall, and a failed call has its cause
-- there
pub record IsBoundedBy {T E : Type 0} (waiting before now : ℕ) (there : Type 0) (result : Result T E) : Type 0 where
  pub few : waiting ≤ 64
  pub later : before ≤ now
  pub cause : OnErr result (there → Rose before now)
