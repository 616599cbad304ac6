-- What a store over a link is seen as, and what its calls leave of it.
use Rattle.std.specs.Prelude.{◌≡◌, ℕ, ◌+◌, ◌-◌, ◌^◌, ◌≤◌, ◌&&◌, min, Bool, true, false, if◌then◌else◌, List, Option}
use Rattle.std.specs.Prelude.{None}
use Rattle.std.specs.Prelude.{Result, IfOk}
use Rattle.view_outside.specs.Faults.{faults_after}
use Rattle.view_outside.specs.Files.{Named}
use Rattle.view_outside.specs.Messages.{MessageSeen, message_number}
use Rattle.view_outside.specs.Links.{IsAbove, Asks}

-- its link, the number of its last question, how many calls were turned away, how many failed in all, and how many
-- bytes were handed over
pub record LinkStoreSeen (L : Type 0) : Type 0 where
  pub link : L
  pub number : ℕ
  pub refused : ℕ
  pub failed : ℕ
  pub taken : ℕ

-- the files are the far side's where the link is honest; else nothing is told of them
abbrev pub files_over : Bool → Option (List Named) → Option (List Named)
files_over honest far = if honest then far else None

-- where the link is honest and tells of the far store, its faults and the calls that were turned away; else all that
-- failed
abbrev pub faults_over : Bool → Bool → ℕ → ℕ → ℕ → ℕ
faults_over honest tells far_faults refused failed =
    if honest && tells then min (far_faults + refused) (2 ^ 64 - 1) else failed

-- the link can be sent the next question, and few answers wait
pub record IsReady (last : Option (List ℕ)) (tells : Bool) (waiting number : ℕ) : Type 0 where
  pub above : IsAbove last (number + 1)
  pub few : tells ≡ true → waiting ≤ 64

-- the call failed at once and asked nobody
pub record IsTurnedAway {L T E : Type 0} (old new : LinkStoreSeen L) (result : Result T E) : Type 0 where
  pub answer : IfOk result (λ _. ⊥)
  pub after : new ≡ record old { refused = faults_after true old.refused; failed = faults_after true old.failed }

-- the question with the next number was asked over the link, by its steps, until this came of it
pub record HasAsked {L : Type 0} (sends : L → List ℕ → Bool → L → Type 0) (receives : L → Option (List ℕ) → L → Type 0)
    (question : MessageSeen) (gives : Option MessageSeen → Type 0) (old new : LinkStoreSeen L) : Type 0 where
  pub answer : Option MessageSeen
  pub asks : Asks sends receives question false 0 0 old.link answer new.link
  pub is : gives answer
  pub number : new.number ≡ message_number question
  pub refused : new.refused ≡ old.refused
