-- How a link in memory stands within the asking of one question.
use Rattle.std.specs.Prelude.{◌≡◌, ℕ, ◌+◌, ◌<◌, ◌≤◌, ◌⊎◌, Bool, true, false, if◌then◌else◌, List, [], ◌∷◌, ◌++◌}
use Rattle.std.specs.Prelude.{length, Option, Some}
use Rattle.view_outside.specs.Faults.{Rose}
use Rattle.view_outside.specs.Files.{Named}
use Rattle.view_outside.specs.Messages.{MessageSeen, message_number, message_in}
use Rattle.view_outside.specs.Links.{is_awaited, IsAnswerTo, IsThere}
use Rattle.memory_link.specs.MemoryLinks.{MemoryLinkSeen}

-- the bytes are a message of an earlier question
pub record IsOlder (question : MessageSeen) (bytes : List ℕ) : Type 0 where
  pub message : MessageSeen
  pub is : message_in bytes ≡ Some message
  pub before : message_number message < message_number question

-- the bytes are an answer to this question
pub record IsNews (far : Option (List Named)) (question : MessageSeen) (bytes : List ℕ) : Type 0 where
  pub message : MessageSeen
  pub is : message_in bytes ≡ Some message
  pub answers : IsAnswerTo far question message

-- the bytes are the answer that this question awaits
pub record IsSure (question : MessageSeen) (bytes : List ℕ) : Type 0 where
  pub message : MessageSeen
  pub is : message_in bytes ≡ Some message
  pub awaited : is_awaited question message ≡ true

abbrev pub AllOlder : MessageSeen → List (List ℕ) → Type 0
AllOlder question [] = Unit {0}
AllOlder question (bytes ∷ olds) = IsOlder question bytes × AllOlder question olds

abbrev pub AllNews : Option (List Named) → MessageSeen → List (List ℕ) → Type 0
AllNews far question [] = Unit {0}
AllNews far question (bytes ∷ news) = IsNews far question bytes × AllNews far question news

-- the first of them is the awaited answer
abbrev pub BeginsSure : MessageSeen → List (List ℕ) → Type 0
BeginsSure question [] = ⊥
BeginsSure question (bytes ∷ news) = IsSure question bytes

-- the far store hasn't failed at the question: it is yet to be sent, or it or its answer was lost, after which it is
-- sent again, or its answer waits
pub data IsCalm (question : MessageSeen) (lose since : ℕ) : Bool → ℕ → List (List ℕ) → Type 0 where
  IsFresh : IsCalm question lose since false 0 []
  IsLost : 3 ≤ lose → since ≡ 0 → IsCalm question lose since true 0 []
  IsAgain : 3 ≤ lose → since ≡ 0 → IsCalm question lose since false 1 []
  IsComing : (failures : ℕ) (news : List (List ℕ)) → failures ≤ 1 → BeginsSure question news
      → IsCalm question lose since true failures news

-- how many answers may have come since the last failure
abbrev pub fresh_news : Bool → ℕ
fresh_news under_way = if under_way then 2 else 0

-- older answers wait, and behind them those to this question
pub record IsMidway {S : Type 0} (files : S → Option (List Named)) (faults : S → ℕ) (far : Option (List Named))
    (start : ℕ) (question : MessageSeen) (under_way : Bool) (failures strays : ℕ) (link : MemoryLinkSeen S)
    (olds news : List (List ℕ)) : Type 0 where
  pub waits : link.waiting ≡ olds ++ news
  pub far_is : files link.store ≡ far
  pub older : AllOlder question olds
  pub newer : AllNews far question news
  pub left : strays + length olds ≤ 64
  pub few : length news ≤ failures + fresh_news under_way
  pub fresh : (failures ≡ 0) ⊎ (olds ≡ [])
  pub most : failures ≤ 64
  pub below : under_way ≡ true → failures < 64
  pub later : start ≤ faults link.store
  pub tells : (link.lose ≡ 0) ⊎ (3 ≤ link.lose)
  pub calm : (IsThere far question → Rose start (faults link.store))
      ⊎ IsCalm question link.lose link.since_lost under_way failures news
