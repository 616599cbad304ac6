-- What waits in a link in memory stays in order, step by step.
use Rattle.std.proofs.Common.{◌≡◌, ℕ, ◌<◌, ◌⊎◌, inl, inr, Bool, true, false, List, [], ◌∷◌, ◌++◌}
use Rattle.std.proofs.Common.{Option, None, Some, sym, ap, ◌∙◌, subst, arith}
use Rattle.view_outside.specs.Files.{Named}
use Rattle.view_outside.specs.Messages.{MessageSeen, message_number, message_in}
use Rattle.view_outside.specs.Links.{IsAnswerTo, IsAbove, IsHonestly}
use Rattle.memory_link.specs.MemoryLinks.{Waits, AllWait, IsInOrder, arrived}

-- what answers earlier questions waits in order for a later one
later_one : (far : Option (List Named)) (question later : MessageSeen) (bytes : List ℕ)
    → message_number question < message_number later → Waits far question bytes → Waits far later bytes
later_one far question later bytes below waits = record {
  message = waits.message;
  is = waits.is;
  before = omega (arith, waits.before);
  answers = λ same. absurd (omega (arith, same, below, waits.before));
}

pub all_later : (far : Option (List Named)) (question later : MessageSeen) (waiting : List (List ℕ))
    → message_number question < message_number later → AllWait far question waiting → AllWait far later waiting
all_later far question later [] below all = tt
all_later far question later (bytes ∷ waiting) below all =
    (later_one far question later bytes below all.0, all_later far question later waiting below all.1)

pub all_appended : (far : Option (List Named)) (question : MessageSeen) (waiting more : List (List ℕ))
    → AllWait far question waiting → AllWait far question more → AllWait far question (waiting ++ more)
all_appended far question [] more all all_more = all_more
all_appended far question (bytes ∷ waiting) more all all_more =
    (all.0, all_appended far question waiting more all.1 all_more)

pub all_arrived : (far : Option (List Named)) (question : MessageSeen) (again : Bool) (bytes : List ℕ)
    → Waits far question bytes → AllWait far question (arrived again bytes)
all_arrived far question true bytes waits = (waits, (waits, tt))
all_arrived far question false bytes waits = (waits, tt)

-- nothing waits before the first question
none_in_order : (far : Option (List Named)) (question : MessageSeen) (waiting : List (List ℕ)) → waiting ≡ []
    → AllWait far question waiting
none_in_order far question waiting is = subst (λ w. AllWait far question w) (sym is) tt

-- what waits in order waits so for the question that may be sent next
pub all_for_next : (far : Option (List Named)) (last : Option (List ℕ)) (message : List ℕ) (question : MessageSeen)
    (waiting : List (List ℕ)) → message_in message ≡ Some question
    → (last ≡ Some message) ⊎ IsAbove last (message_number question) → IsInOrder far last waiting
    → AllWait far question waiting
all_for_next far None message question waiting is may order = none_in_order far question waiting order
all_for_next far (Some sent) message question waiting is (inl again) order =
    let same : sent ≡ message = cc in
    let reads : message_in sent ≡ Some question = ap message_in same ∙ is in
    let one : order.0 ≡ question = cc (reads, order.1) in
    subst (λ q. AllWait far q waiting) one order.2
all_for_next far (Some sent) message question waiting is (inr above) order =
    all_later far order.0 question waiting (above order.0 order.1) order.2

-- so they stand in order once it was sent
pub in_order_sent : (far : Option (List Named)) (last : Option (List ℕ)) (message : List ℕ) (question : MessageSeen)
    (waiting : List (List ℕ)) → message_in message ≡ Some question
    → (last ≡ Some message) ⊎ IsAbove last (message_number question) → IsInOrder far last waiting
    → IsInOrder far (Some message) waiting
in_order_sent far last message question waiting is may order =
    (question, is, all_for_next far last message question waiting is may order)

-- and its answer behind them, once or twice
pub in_order_answered : (far : Option (List Named)) (last : Option (List ℕ)) (message : List ℕ)
    (question : MessageSeen) (waiting : List (List ℕ)) (again : Bool) (answer : List ℕ)
    → message_in message ≡ Some question → (last ≡ Some message) ⊎ IsAbove last (message_number question)
    → IsInOrder far last waiting → Waits far question answer
    → IsInOrder far (Some message) (waiting ++ arrived again answer)
in_order_answered far last message question waiting again answer is may order waits = (
  question,
  is,
  all_appended far question waiting (arrived again answer)
      (all_for_next far last message question waiting is may order) (all_arrived far question again answer waits),
)

-- the rest of what waits in order does
pub in_order_rest : (far : Option (List Named)) (last : Option (List ℕ)) (bytes : List ℕ) (rest : List (List ℕ))
    → IsInOrder far last (bytes ∷ rest) → IsInOrder far last rest
in_order_rest far None bytes rest order = cc
in_order_rest far (Some sent) bytes rest order = (order.0, order.1, order.2.1)

-- the first of them is honest
pub first_honest : (far : Option (List Named)) (last : Option (List ℕ)) (bytes : List ℕ) (rest : List (List ℕ))
    → IsInOrder far last (bytes ∷ rest) → IsHonestly far last bytes
first_honest far None bytes rest order = tt
first_honest far (Some sent) bytes rest order =
    λ question message asked read same.
    let waits = order.2.0 in
    let one : order.0 ≡ question = cc (asked, order.1) in
    let this : waits.message ≡ message = cc (read, waits.is) in
    let number : message_number waits.message ≡ message_number order.0 =
    ap message_number this ∙ same ∙ sym (ap message_number one) in
    subst (λ q. IsAnswerTo far q message) one
    (subst (λ m. IsAnswerTo far order.0 m) this (waits.answers number))
