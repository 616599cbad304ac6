-- How the core stands beside a link.
use Rattle.std.specs.Prelude.{◌≡◌, ℕ, List, [], ◌∷◌, Option, None, Some}
use Rattle.view_outside.specs.Files.{Named}
use Rattle.view_outside.specs.Messages.{MessageSeen, message_in}
use Rattle.link_laws.specs.Cores.{Core, Comes, OtherComes, FarAnswers, CoreSteps, call_heard, Has}

-- the bytes sent last over the link are this question's
pub record IsLastSent (question : MessageSeen) (last : Option (List ℕ)) : Type 0 where
  pub bytes : List ℕ
  pub sent : last ≡ Some bytes
  pub reads : message_in bytes ≡ Some question

-- the last question of the core is the last one sent over the link
abbrev pub LastOf : List MessageSeen → Option (List ℕ) → Type 0
LastOf [] last = last ≡ None
LastOf (question ∷ questions) last = IsLastSent question last

-- the core once a question was sent
abbrev pub after_sent : Core → MessageSeen → Core
after_sent core question = record core { questions = question ∷ core.questions; open_call = Some question }

-- the core once bytes came
abbrev pub after_heard : Core → List ℕ → Core
after_heard core bytes = record core { open_call = call_heard core.open_call (message_in bytes) }

-- the core once an answer was made
abbrev pub after_made : Core → MessageSeen → Core
after_made core answer = record core { answers = answer ∷ core.answers }

-- an answer comes, which is made then, or was made before
pub record IsAnswerHeard (far : Option (List Named)) (core : Core) (bytes : List ℕ) : Type 0 where
  pub message : MessageSeen
  pub is : message_in bytes ≡ Some message
  pub question : MessageSeen
  pub made : CoreSteps far core (FarAnswers question message) (after_made core message)
  pub comes : CoreSteps far (after_made core message) (Comes message) (after_heard (after_made core message) bytes)
  pub before : Has message core.answers → CoreSteps far core (Comes message) (after_heard core bytes)

-- what comes is an event of the core, or two
pub data IsHeard (far : Option (List Named)) (core : Core) (bytes : List ℕ) : Type 0 where
  IsOtherHeard : CoreSteps far core (OtherComes bytes) (after_heard core bytes) → IsHeard far core bytes
  IsAnswer : IsAnswerHeard far core bytes → IsHeard far core bytes
