-- A link in memory, what waits in it, and its steps.
use Rattle.std.specs.Prelude.{◌≡◌, ℕ, ◌^◌, ◌⊎◌, ◌<◌, ◌≤◌, ◌||◌, Bool, true, false, if◌then◌else◌, nat_le}
use Rattle.std.specs.Prelude.{List, [], ◌∷◌, ◌++◌, length, Option, None, Some}
use Rattle.std.specs.Borrow.{GName}
use Rattle.view_outside.specs.Faults.{faults_after}
use Rattle.view_outside.specs.Files.{Named}
use Rattle.view_outside.specs.Messages.{MessageSeen, message_number, message_in}
use Rattle.view_outside.specs.Links.{IsAnswerTo, counted_after}
use Rattle.patch_link.specs.LinkStores.{LinkStoreSeen}
use Rattle.memory_link.specs.Counts.{one_more, is_multiple}
use Rattle.memory_link.specs.FarCalls.{HasAnswered}

-- the far store and who lent it, which messages are lost and repeated with the counts since the last one that was,
-- what waits to be received, the last message sent, and the counts of faults and of messages received
pub record MemoryLinkSeen (S : Type 0) : Type 0 where
  pub store : S
  pub lender : GName
  pub lose : ℕ
  pub repeat : ℕ
  pub since_lost : ℕ
  pub since_repeated : ℕ
  pub waiting : List (List ℕ)
  pub last : Option (List ℕ)
  pub faults : ℕ
  pub received : ℕ

-- ---- what waits

-- the bytes are a message that answers this question or one before it
pub record Waits (far : Option (List Named)) (question : MessageSeen) (bytes : List ℕ) : Type 0 where
  pub message : MessageSeen
  pub is : message_in bytes ≡ Some message
  pub before : message_number message ≤ message_number question
  pub answers : message_number message ≡ message_number question → IsAnswerTo far question message

-- each of them does
abbrev pub AllWait : Option (List Named) → MessageSeen → List (List ℕ) → Type 0
AllWait far question [] = Unit {0}
AllWait far question (bytes ∷ waiting) = Waits far question bytes × AllWait far question waiting

-- nothing waits before the first question, and then only answers to the last question or to those before it
abbrev pub IsInOrder : Option (List Named) → Option (List ℕ) → List (List ℕ) → Type 0
IsInOrder far None waiting = waiting ≡ []
IsInOrder far (Some sent) waiting = (question : MessageSeen) × (message_in sent ≡ Some question)
    × AllWait far question waiting

-- how many answers wait, none before the first question
abbrev pub waiting_count : Option (List ℕ) → List (List ℕ) → ℕ
waiting_count None waiting = 0
waiting_count (Some sent) waiting = length waiting

-- the link tells of its far store where none or at most each third message is lost
abbrev pub tells_far : ℕ → Bool
tells_far lose = nat_le lose 0 || nat_le 3 lose

-- each message is lost, or each second, so that the answer to each question is, and none waits
abbrev pub IsBarren : {S : Type 0} → MemoryLinkSeen S → Type 0
IsBarren link = (link.waiting ≡ []) × ((link.lose ≡ 1) ⊎ ((link.lose ≡ 2) × (link.since_lost ≡ 0)))

-- so it is with the link of this store, whose numbers go on
abbrev pub IsLostStore : {S : Type 0} → LinkStoreSeen (MemoryLinkSeen S) → Type 0
IsLostStore store = IsBarren store.link × (store.number < 2 ^ 64)

-- ---- steps

-- an answer that is received once or twice
abbrev pub arrived : Bool → List ℕ → List (List ℕ)
arrived again answer = if again then answer ∷ answer ∷ [] else answer ∷ []

-- the link after a question that found no room
abbrev pub after_no_room : {S : Type 0} → MemoryLinkSeen S → List ℕ → MemoryLinkSeen S
after_no_room old message = record old { last = Some message; faults = faults_after true old.faults }

-- the link after a question that was lost
abbrev pub after_lost : {S : Type 0} → MemoryLinkSeen S → List ℕ → MemoryLinkSeen S
after_lost old message = record old { last = Some message; since_lost = one_more old.lose old.since_lost }

-- the link after a question whose answer was lost
abbrev pub after_answer_lost : {S : Type 0} → MemoryLinkSeen S → List ℕ → S → MemoryLinkSeen S
after_answer_lost old message store = record old {
  store = store;
  last = Some message;
  since_lost = one_more old.lose (one_more old.lose old.since_lost);
}

-- the link after a question that was answered so
abbrev pub after_answered : {S : Type 0} → MemoryLinkSeen S → List ℕ → S → List ℕ → MemoryLinkSeen S
after_answered old message store answer = record old {
  store = store;
  last = Some message;
  since_lost = one_more old.lose (one_more old.lose old.since_lost);
  since_repeated = one_more old.repeat old.since_repeated;
  waiting = old.waiting ++ arrived (is_multiple old.repeat (one_more old.repeat old.since_repeated)) answer;
}

-- a question is sent, which counts as a message, as its answer does: it finds no room for an answer and its copy, or
-- it is lost, or its answer is, or its answer comes, once or twice
pub data MemorySends {S : Type 0} (files : S → Option (List Named)) (faults taken : S → ℕ) (old : MemoryLinkSeen S)
    (message : List ℕ) : Bool → MemoryLinkSeen S → Type 0 where
  NoRoom : IsInOrder (files old.store) old.last old.waiting → 126 < length old.waiting
      → MemorySends files faults taken old message false (after_no_room old message)
  LostQuestion : IsInOrder (files old.store) old.last old.waiting → length old.waiting ≤ 126
      → is_multiple old.lose (one_more old.lose old.since_lost) ≡ true
      → MemorySends files faults taken old message true (after_lost old message)
  LostAnswer : (store : S) (answer : List ℕ) → IsInOrder (files old.store) old.last old.waiting
      → length old.waiting ≤ 126 → is_multiple old.lose (one_more old.lose old.since_lost) ≡ false
      → is_multiple old.lose (one_more old.lose (one_more old.lose old.since_lost)) ≡ true
      → HasAnswered files faults taken message old.store store answer
      → MemorySends files faults taken old message true (after_answer_lost old message store)
  Answered : (store : S) (answer : List ℕ) → IsInOrder (files old.store) old.last old.waiting
      → length old.waiting ≤ 126 → is_multiple old.lose (one_more old.lose old.since_lost) ≡ false
      → is_multiple old.lose (one_more old.lose (one_more old.lose old.since_lost)) ≡ false
      → HasAnswered files faults taken message old.store store answer
      → MemorySends files faults taken old message true (after_answered old message store answer)

-- the link after a message was received, and these are left
abbrev pub after_received : {S : Type 0} → MemoryLinkSeen S → List (List ℕ) → MemoryLinkSeen S
after_received old rest = record old { waiting = rest; received = counted_after true old.received }

-- the link after a receive that found nothing
abbrev pub after_nothing : {S : Type 0} → MemoryLinkSeen S → MemoryLinkSeen S
after_nothing old = record old { faults = faults_after true old.faults }

-- the first message that waits is received, or none waits
pub data MemoryReceives {S : Type 0} (files : S → Option (List Named)) (old : MemoryLinkSeen S)
    : Option (List ℕ) → MemoryLinkSeen S → Type 0 where
  NoneWaits : old.waiting ≡ [] → MemoryReceives files old None (after_nothing old)
  FirstComes : (bytes : List ℕ) (rest : List (List ℕ)) → IsInOrder (files old.store) old.last old.waiting
      → old.waiting ≡ bytes ∷ rest → MemoryReceives files old (Some bytes) (after_received old rest)
