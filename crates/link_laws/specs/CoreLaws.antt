-- The law of the core: each answer made is that to a question sent, with its number, and numbers rise.
use Rattle.std.proofs.Common.{◌≡◌, ℕ, ◌<◌, ◌⊎◌, inl, inr, true, List, [], ◌∷◌, Option, None, Some}
use Rattle.std.proofs.Common.{refl, sym, ap, ◌∙◌, subst, arith}
use Rattle.std.proofs.lemmas.Bool.{cases_Bool}
use Rattle.std.specs.Prelude.{if◌then◌else◌}
use Rattle.view_outside.specs.Files.{Named}
use Rattle.view_outside.specs.Messages.{MessageSeen, message_number, message_in}
use Rattle.view_outside.specs.Links.{is_awaited, IsAnswerTo, IsTrueOf}
use Rattle.patch_link.specs.AskingLaws.{awaited_number, true_of}
use Rattle.link_laws.specs.Cores.{Core, Event, Comes, OtherComes, fresh, Has, MayFollow}
use Rattle.link_laws.specs.Cores.{IsOther, call_after, call_heard, CoreSteps, IsSending, IsAnswering, IsComing}
use Rattle.link_laws.specs.Cores.{IsStranger, IsFailing}
use Rattle.link_laws.specs.Cores.{CoreRuns, Begins, GoesOn, Takes}

-- the numbers of the questions rise; the last may have been sent again
abbrev pub AreRising : List MessageSeen → Type 0
AreRising [] = Unit {0}
AreRising (last ∷ questions) = ((earlier : MessageSeen) → Has earlier questions
    → (earlier ≡ last) ⊎ (message_number earlier < message_number last)) × AreRising questions

-- the answer was made to a question that was sent
pub record IsMade (far : Option (List Named)) (questions : List MessageSeen) (answer : MessageSeen) : Type 0 where
  pub question : MessageSeen
  pub sent : Has question questions
  pub number : message_number answer ≡ message_number question
  pub answers : IsAnswerTo far question answer

-- the open call's question is the last one sent
abbrev pub IsLast : Option MessageSeen → List MessageSeen → Type 0
IsLast None questions = Unit {0}
IsLast (Some question) [] = ⊥
IsLast (Some question) (last ∷ questions) = last ≡ question

pub record IsCore (far : Option (List Named)) (core : Core) : Type 0 where
  pub made : (answer : MessageSeen) → Has answer core.answers → IsMade far core.questions answer
  pub rising : AreRising core.questions
  pub last : IsLast core.open_call core.questions

-- each question before one that may follow is it, or has a number below
follows : (questions : List MessageSeen) (question : MessageSeen) → AreRising questions → MayFollow questions question
    → (earlier : MessageSeen) → Has earlier questions
    → (earlier ≡ question) ⊎ (message_number earlier < message_number question)
follows [] question rising may earlier has = absurd has
follows (last ∷ questions) question rising (inl again) earlier (inl is) = inl (sym is ∙ again)
follows (last ∷ questions) question rising (inl again) earlier (inr has) =
    subst (λ q. (earlier ≡ q) ⊎ (message_number earlier < message_number q)) again (rising.0 earlier has)
follows (last ∷ questions) question rising (inr above) earlier (inl is) =
    inr (omega (arith, above, ap message_number is))
follows (last ∷ questions) question rising (inr above) earlier (inr has) =
    elim (rising.0 earlier has) [
      | inl is ↦ inr (omega (arith, above, ap message_number is))
      | inr below ↦ inr (omega (arith, above, below))
    ]

-- the call stays the last one's, or ends
last_after : (call : Option MessageSeen) (questions : List MessageSeen) (message : MessageSeen)
    → IsLast call questions → IsLast (call_after call message) questions
last_after None questions message last = tt
last_after (Some question) questions message last =
    elim (cases_Bool (is_awaited question message)) [
      | inl taken ↦ subst (λ b. IsLast (if b then None else Some question)
          questions) (sym taken) tt
      | inr on ↦ subst (λ b. IsLast (if b then None else Some question) questions) (sym on) last
    ]

last_heard : (call : Option MessageSeen) (questions : List MessageSeen) (heard : Option MessageSeen)
    → IsLast call questions → IsLast (call_heard call heard) questions
last_heard call questions None last = last
last_heard call questions (Some message) last = last_after call questions message last

made_more : (far : Option (List Named)) (questions : List MessageSeen) (question answer : MessageSeen)
    → IsMade far questions answer → IsMade far (question ∷ questions) answer
made_more far questions question answer made = record {
  question = made.question;
  sent = inr made.sent;
  number = made.number;
  answers = made.answers;
}

-- an answer that was just made, or one from before
made_now : (far : Option (List Named)) (core : Core) (question answer : MessageSeen) → IsCore far core
    → Has question core.questions → message_number answer ≡ message_number question → IsAnswerTo far question answer
    → (other : MessageSeen) → (answer ≡ other) ⊎ Has other core.answers → IsMade far core.questions other
made_now far core question answer is sent number answers other (inl same) =
    subst (λ a. IsMade far core.questions a) same
    (record { question = question; sent = sent; number = number; answers = answers })
made_now far core question answer is sent number answers other (inr has) = is.made other has

core_step : (far : Option (List Named)) (core : Core) (event : Event) (next : Core) → IsCore far core
    → CoreSteps far core event next → IsCore far next
core_step far core event next is (IsSending question asks may) = record {
  made = λ answer has. made_more far core.questions question answer (is.made answer has);
  rising = (follows core.questions question is.rising may, is.rising);
  last = refl;
}
core_step far core event next is (IsAnswering question answer sent number answers) = record {
  made = λ other has. made_now far core question answer is sent number answers other has;
  rising = is.rising;
  last = is.last;
}
core_step far core event next is (IsComing answer has) = record {
  made = is.made;
  rising = is.rising;
  last = last_after core.open_call core.questions answer is.last;
}
core_step far core event next is (IsStranger bytes other) = record {
  made = is.made;
  rising = is.rising;
  last = last_heard core.open_call core.questions (message_in bytes) is.last;
}
core_step far core event next is IsFailing = is

-- so it stands after every list of events
pub core_runs : (far : Option (List Named)) (events : List Event) (core : Core) → CoreRuns far fresh events core
    → IsCore far core
core_runs far events core Begins = record { made = λ answer has. absurd has; rising = tt; last = tt }
core_runs far events core (GoesOn before event mid next runs step) =
    core_step far mid event core (core_runs far before mid runs) step

-- a question with the number of the last one is that
one_number : (questions : List MessageSeen) (last question : MessageSeen) → AreRising (last ∷ questions)
    → Has question (last ∷ questions) → message_number question ≡ message_number last → question ≡ last
one_number questions last question rising (inl is) same = sym is
one_number questions last question rising (inr has) same =
    elim (rising.0 question has) [ inl is ↦ is | inr below ↦ absurd (omega (arith, below, same)) ]

-- an answer made that the last question awaits is true
taken_made : (far : Option (List Named)) (questions : List MessageSeen) (question message : MessageSeen)
    → AreRising questions → IsLast (Some question) questions → is_awaited question message ≡ true
    → IsMade far questions message → IsTrueOf far question message
taken_made far [] question message rising last awaited made = absurd last
taken_made far (first ∷ questions) question message rising last awaited made =
    let number : message_number made.question ≡ message_number first =
    sym made.number ∙ awaited_number question message awaited ∙ sym (ap message_number last) in
    let one : made.question ≡ question = one_number questions first made.question rising made.sent number ∙ last in
    true_of far question message awaited (subst (λ q. IsAnswerTo far q message) one made.answers)

-- other bytes are none that the last question awaits
taken_other : (questions : List MessageSeen) (question message : MessageSeen) (bytes : List ℕ)
    → IsLast (Some question) questions → is_awaited question message ≡ true → message_in bytes ≡ Some message
    → IsOther questions bytes → ⊥
taken_other [] question message bytes last awaited is other = absurd last
taken_other (first ∷ questions) question message bytes last awaited is other =
    other message is (awaited_number question message awaited ∙ sym (ap message_number last))

taken_came : (far : Option (List Named)) (core : Core) (question message : MessageSeen) (next : Core)
    → IsCore far core → IsLast (Some question) core.questions → is_awaited question message ≡ true
    → CoreSteps far core (Comes message) next → IsTrueOf far question message
taken_came far core question message next is last awaited (IsComing answer has) =
    taken_made far core.questions question message is.rising last awaited (is.made message has)

taken_stranger : (far : Option (List Named)) (core : Core) (question message : MessageSeen) (bytes : List ℕ)
    (next : Core) → IsLast (Some question) core.questions → is_awaited question message ≡ true
    → message_in bytes ≡ Some message → CoreSteps far core (OtherComes bytes) next → ⊥
taken_stranger far core question message bytes next last awaited is (IsStranger other stranger) =
    taken_other core.questions question message bytes last awaited is stranger

-- what is taken after any list of events is true
pub taken_true : (far : Option (List Named)) (events : List Event) (core next : Core) (question message : MessageSeen)
    → CoreRuns far fresh events core → Takes far core question message next → IsTrueOf far question message
taken_true far events core next question message runs takes =
    let is = core_runs far events core runs in
    let last : IsLast (Some question) core.questions = subst (λ o. IsLast o core.questions) takes.call is.last in
    elim takes.comes [
      | inl comes ↦ taken_came far core question message next is last takes.awaited comes
      | inr other ↦ absurd (taken_stranger far core question message other.bytes next last takes.awaited other.is
          other.step)
    ]
