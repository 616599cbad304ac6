-- Each step of an honest link is an event of the core, or two.
use Rattle.std.proofs.Common.{◌≡◌, ℕ, ◌⊎◌, inl, inr, true, List, [], ◌∷◌, Option, None, Some, refl, sym, ap, ◌∙◌}
use Rattle.std.proofs.Common.{subst}
use Rattle.std.proofs.lemmas.Bool.{cases_eq}
use Rattle.view_outside.specs.Files.{Named}
use Rattle.view_outside.specs.Messages.{MessageSeen, message_number, is_question, message_text, message_in, IsMessage}
use Rattle.view_outside.specs.Links.{IsAnswerTo, IsAbove, IsHonestly}
use Rattle.link_messages.specs.Spelled.{message_in-text}
use Rattle.link_laws.specs.Cores.{Core, Sent, Comes, Has, MayFollow, IsOther, CoreSteps, IsSending, IsAnswering}
use Rattle.link_laws.specs.Cores.{IsComing, IsStranger, call_heard}
use Rattle.link_laws.specs.Ties.{IsLastSent, LastOf, after_sent, after_heard, after_made, IsAnswerHeard, IsHeard}
use Rattle.link_laws.specs.Ties.{IsOtherHeard, IsAnswer}

-- what may be sent over the link may follow in the core
may_follow : (questions : List MessageSeen) (last : Option (List ℕ)) (question : MessageSeen) → IsMessage question
    → LastOf questions last → (last ≡ Some (message_text question)) ⊎ IsAbove last (message_number question)
    → MayFollow questions question
may_follow [] last question right is may = tt
may_follow (first ∷ questions) last question right is (inl again) =
    let bytes : is.bytes ≡ message_text question = cc (again, is.sent) in
    let reads : message_in is.bytes ≡ Some question = ap message_in bytes ∙ message_in-text question right in
    inl (cc (reads, is.reads))
may_follow (first ∷ questions) last question right is (inr above) =
    inr (subst (λ l. IsAbove l (message_number question)) is.sent above first is.reads)

-- a question that is sent is an event
pub sent_is_event : (far : Option (List Named)) (core : Core) (last after : Option (List ℕ)) (question : MessageSeen)
    → IsMessage question → is_question question ≡ true → LastOf core.questions last
    → (last ≡ Some (message_text question)) ⊎ IsAbove last (message_number question)
    → after ≡ Some (message_text question)
    → CoreSteps far core (Sent question) (after_sent core question) × LastOf (after_sent core question).questions after
sent_is_event far core last after question right asks is may now = (
  IsSending question asks (may_follow core.questions last question right is may),
  record { bytes = message_text question; sent = now; reads = message_in-text question right },
)

-- the core of an answer that comes
comes_now : (far : Option (List Named)) (core : Core) (bytes : List ℕ) (message : MessageSeen)
    → message_in bytes ≡ Some message → Has message core.answers
    → CoreSteps far core (Comes message) (after_heard core bytes)
comes_now far core bytes message is has =
    subst (λ heard. CoreSteps far core (Comes message) (record core { open_call = call_heard core.open_call heard }))
    (sym is) (IsComing message has)

-- the far side's answer to the last question comes
answer_heard : (far : Option (List Named)) (core : Core) (bytes : List ℕ) (message question : MessageSeen)
    → message_in bytes ≡ Some message → Has question core.questions
    → message_number message ≡ message_number question → IsAnswerTo far question message
    → IsAnswerHeard far core bytes
answer_heard far core bytes message question is sent same answers = record {
  message = message;
  is = is;
  question = question;
  made = IsAnswering question message sent same answers;
  comes = comes_now far (after_made core message) bytes message is (inl refl);
  before = λ has. comes_now far core bytes message is has;
}

other_heard : (far : Option (List Named)) (core : Core) (bytes : List ℕ) (questions : List MessageSeen)
    → core.questions ≡ questions → IsOther questions bytes → IsHeard far core bytes
other_heard far core bytes questions same other =
    IsOtherHeard (IsStranger bytes (subst (λ q. IsOther q bytes) (sym same) other))

-- the answer to the last question, over an honest link
honest_heard : (far : Option (List Named)) (last : Option (List ℕ)) (bytes : List ℕ) (question message : MessageSeen)
    → IsLastSent question last → IsHonestly far last bytes → message_in bytes ≡ Some message
    → message_number message ≡ message_number question → IsAnswerTo far question message
honest_heard far last bytes question message sent honestly is same =
    let answers = subst (λ l. IsHonestly far l bytes) sent.sent honestly in
    answers question message sent.reads is same

heard_from : (far : Option (List Named)) (core : Core) (last : Option (List ℕ)) (bytes : List ℕ)
    (questions : List MessageSeen) (heard : Option MessageSeen) → core.questions ≡ questions → LastOf questions last
    → IsHonestly far last bytes → message_in bytes ≡ heard → IsHeard far core bytes
heard_from far core last bytes [] heard same sent honestly is = other_heard far core bytes [] same tt
heard_from far core last bytes (question ∷ questions) None same sent honestly is =
    other_heard far core bytes (question ∷ questions) same (λ message read number. absurd (cc (read, is)))
heard_from far core last bytes (question ∷ questions) (Some message) same sent honestly is =
    elim (cases_eq (message_number message) (message_number question)) [
      | inl number ↦ IsAnswer (answer_heard far core
          bytes message question is (subst (λ q. Has question q) (sym same) (inl refl)) number
          (honest_heard far last bytes question message sent honestly is number))
      | inr differs ↦ other_heard far core bytes (question ∷ questions) same (λ other read number.
          let one : other ≡ message = cc (read, is) in
          differs (sym (ap message_number one) ∙ number))
    ]

-- what is received over an honest link is an event, or two
pub received_is_event : (far : Option (List Named)) (core : Core) (last : Option (List ℕ)) (bytes : List ℕ)
    → LastOf core.questions last → IsHonestly far last bytes → IsHeard far core bytes
received_is_event far core last bytes sent honestly =
    heard_from far core last bytes core.questions (message_in bytes) refl sent honestly refl
