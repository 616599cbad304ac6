-- How a question is asked, one step after another: what came, what was sent so far, and what it cost.
use Rattle.std.specs.Prelude.{◌≡◌, ℕ, ◌+◌, ◌-◌, ◌^◌, ◌<◌, ◌≤◌, ◌⊎◌, Bool, true, false, List, length, take, Option}
use Rattle.std.specs.Prelude.{None, Some}
use Rattle.std.specs.Prelude.{Result, Ok, Err}
use Rattle.view_outside.specs.Files.{Named}
use Rattle.view_outside.specs.Messages.{MessageSeen, message_number, message_text, message_in}
use Rattle.view_outside.specs.Links.{is_awaited, is_refusal, IsTrueOf, IsAbove, IsStray, Asks}
use Rattle.patch_link.specs.declared.asking.arrivals.Arrival.{Arrival}
use Rattle.patch_link.specs.declared.asking.arrivals.Arrival.TheVariants.{Answer, Refusal, Stray, Nothing}

-- the bytes are the answer that the question awaits
pub record HasAnswer (question : MessageSeen) (bytes : List ℕ) : Type 0 where
  pub message : MessageSeen
  pub is : message_in bytes ≡ Some message
  pub awaited : is_awaited question message ≡ true

-- the bytes say that the far side failed at the question
pub record HasRefusal (question : MessageSeen) (bytes : List ℕ) : Type 0 where
  pub message : MessageSeen
  pub is : message_in bytes ≡ Some message
  pub refuses : is_refusal question message ≡ true

-- the bytes are the awaited answer, and true of the far files
pub record IsTrueMessage (far : Option (List Named)) (question : MessageSeen) (bytes : List ℕ) : Type 0 where
  pub message : MessageSeen
  pub is : message_in bytes ≡ Some message
  pub awaited : is_awaited question message ≡ true
  pub right : IsTrueOf far question message

-- what bytes that came are to the question
abbrev pub IsArrival : MessageSeen → List ℕ → Arrival → Type 0
IsArrival question bytes (Answer size) = (size ≡ length bytes) × HasAnswer question bytes
IsArrival question bytes Refusal = HasRefusal question bytes
IsArrival question bytes Stray = IsStray question bytes
IsArrival question bytes Nothing = ⊥

-- a step gave bytes of which this holds
pub record Gave {L : Type 0} (receives : L → Option (List ℕ) → L → Type 0) (holds : List ℕ → Type 0) (before after : L)
    : Type 0 where
  pub bytes : List ℕ
  pub step : receives before (Some bytes) after
  pub is : holds bytes

-- a step gave the first bytes of the buffer, the awaited answer
pub record GaveAnswer {L : Type 0} (receives : L → Option (List ℕ) → L → Type 0) (question : MessageSeen)
    (before : L) (bytes : List ℕ) (after : L) : Type 0 where
  pub step : receives before (Some bytes) after
  pub has : HasAnswer question bytes

-- the step of the link by which this came
abbrev pub Arrives : {L : Type 0} → (L → Option (List ℕ) → L → Type 0) → MessageSeen → L → List ℕ → Arrival → L → Type 0
Arrives receives question before buffer (Answer size) after =
    GaveAnswer receives question before (take size buffer) after
Arrives receives question before buffer Refusal after = Gave receives (HasRefusal question) before after
Arrives receives question before buffer Stray after = Gave receives (IsStray question) before after
Arrives receives question before buffer Nothing after = receives before None after

-- an answer that came is no longer than a link's messages are
abbrev pub IsFitting : Arrival → Type 0
IsFitting (Answer size) = size ≤ 1280
IsFitting Refusal = Unit {0}
IsFitting Stray = Unit {0}
IsFitting Nothing = Unit {0}

-- an answer that came is true
abbrev pub IsTrueArrival : Option (List Named) → MessageSeen → List ℕ → Arrival → Type 0
IsTrueArrival far question buffer (Answer size) = IsTrueMessage far question (take size buffer)
IsTrueArrival far question buffer Refusal = Unit {0}
IsTrueArrival far question buffer Stray = Unit {0}
IsTrueArrival far question buffer Nothing = Unit {0}

-- the two counts together rose by at least so many, or one of them stands at the last value of a `u64`
abbrev pub RoseTogether : ℕ → ℕ → ℕ → ℕ → ℕ → Type 0
RoseTogether n faults received faults_now received_now =
    (2 ^ 64 - 1 ≤ faults_now) ⊎ ((2 ^ 64 - 1 ≤ received_now) ⊎ (faults + received + n ≤ faults_now + received_now))

-- how far the counts rise at what came
abbrev pub IsCounted : Arrival → ℕ → ℕ → ℕ → ℕ → Type 0
IsCounted (Answer size) faults received faults_now received_now = Unit {0}
IsCounted Refusal faults received faults_now received_now = RoseTogether 1 faults received faults_now received_now
IsCounted Stray faults received faults_now received_now = RoseTogether 1 faults received faults_now received_now
IsCounted Nothing faults received faults_now received_now = RoseTogether 1 faults received faults_now received_now

-- the message that a call took as its answer, read off what it answered and the buffer behind it
abbrev pub outcome : {E : Type 0} → List ℕ → Result ℕ E → Option MessageSeen
outcome buffer (Ok size) = message_in (take size buffer)
outcome buffer (Err failed) = None

-- where the question is asked on from here, it is asked so from the start
pub record IsPartOf {L : Type 0} (sends : L → List ℕ → Bool → L → Type 0) (receives : L → Option (List ℕ) → L → Type 0)
    (question : MessageSeen) (start : L) (under_way : Bool) (failures strays : ℕ) (link : L) : Type 0 where
  pub goes_on : (answer : Option MessageSeen) (end : L)
      → Asks sends receives question under_way failures strays link answer end
      → Asks sends receives question false 0 0 start answer end

-- what of the question was sent
pub record HasSent (last : Option (List ℕ)) (question : MessageSeen) (under_way : Bool) (failures strays : ℕ)
    : Type 0 where
  pub may : (last ≡ Some (message_text question)) ⊎ IsAbove last (message_number question)
  pub sent : under_way ≡ true → last ≡ Some (message_text question)
  pub began : 0 < failures + strays → last ≡ Some (message_text question)
