-- Laws of asking a question: each step is a part of the whole, and an honest answer is true.
use Rattle.std.proofs.Common.{◌≡◌, ℕ, ◌+◌, ◌-◌, ◌^◌, ◌<◌, ◌≤◌, ◌⊎◌, inl, inr, Bool, true, false, List, Option, None}
use Rattle.std.proofs.Common.{Some}
use Rattle.std.proofs.Common.{length, take, sym, ap, subst, arith}
use Rattle.std.specs.Prelude.{◌&&◌, ◌==◌}
use Rattle.std.proofs.lemmas.Bool.{and_parts, eqb-true, cases_lt}
use Rattle.std.proofs.lemmas.List.{length-take}
use Rattle.view_outside.specs.Faults.{Rose}
use Rattle.view_outside.specs.Files.{Named}
use Rattle.view_outside.specs.Messages.{MessageSeen, AsksBytes, GivesBytes, AsksName, GivesFile, SaysFailed}
use Rattle.view_outside.specs.Messages.{message_number, IsMessage, message_text, message_in, is_question}
use Rattle.view_outside.specs.Links.{is_awaited, is_refusal, IsTrueOf, IsAnswerTo, IsAwaited, IsRefusal, IsAbove}
use Rattle.view_outside.specs.Links.{MaySend}
use Rattle.view_outside.specs.Links.{IsHonestly, IsStray, Asks, GivesUp, IsSent, IsNotSent, NoneCame, IsAnswered}
use Rattle.view_outside.specs.Links.{IsRefused, Strays}
use Rattle.link_messages.specs.Spelled.{message_in-text}
use Rattle.patch_link.specs.declared.asking.arrivals.Arrival.{Arrival}
use Rattle.patch_link.specs.declared.asking.arrivals.Arrival.TheVariants.{Answer, Refusal, Stray, Nothing}
use Rattle.patch_link.specs.Asking.{HasAnswer, HasRefusal, IsTrueMessage, Gave, GaveAnswer, IsPartOf, HasSent}
use Rattle.patch_link.specs.Asking.{RoseTogether}
use Rattle.patch_link.specs.Asking.{IsArrival, IsFitting, IsTrueArrival}

-- ---- answers

-- an awaited answer carries its question's number
pub awaited_number : (question message : MessageSeen) → is_awaited question message ≡ true
    → message_number message ≡ message_number question
awaited_number (AsksBytes n f o s) (GivesBytes m g p t bytes) is =
    eqb-true m n (and_parts (m == n) ((g == f) && ((p == o) && (t == s))) is).0
awaited_number (AsksBytes n f o s) (AsksBytes m g p t) is = cc
awaited_number (AsksBytes n f o s) (AsksName m name) is = cc
awaited_number (AsksBytes n f o s) (GivesFile m g) is = cc
awaited_number (AsksBytes n f o s) (SaysFailed m) is = cc
awaited_number (AsksName n name) (GivesFile m g) is = eqb-true m n is
awaited_number (AsksName n name) (AsksBytes m g p t) is = cc
awaited_number (AsksName n name) (GivesBytes m g p t bytes) is = cc
awaited_number (AsksName n name) (AsksName m other) is = cc
awaited_number (AsksName n name) (SaysFailed m) is = cc
awaited_number (GivesBytes n f o s bytes) message is = cc
awaited_number (GivesFile n f) message is = cc
awaited_number (SaysFailed n) message is = cc

-- an awaited answer is no refusal
pub awaited_is_no_refusal : (question message : MessageSeen) → is_awaited question message ≡ true
    → is_refusal question message ≡ true → ⊥
awaited_is_no_refusal (AsksBytes n f o s) (SaysFailed m) is refuses = cc
awaited_is_no_refusal (AsksName n name) (SaysFailed m) is refuses = cc
awaited_is_no_refusal (GivesBytes n f o s bytes) (SaysFailed m) is refuses = cc
awaited_is_no_refusal (GivesFile n f) (SaysFailed m) is refuses = cc
awaited_is_no_refusal (SaysFailed n) (SaysFailed m) is refuses = cc
awaited_is_no_refusal question (AsksBytes m g p t) is refuses = cc
awaited_is_no_refusal question (GivesBytes m g p t bytes) is refuses = cc
awaited_is_no_refusal question (AsksName m name) is refuses = cc
awaited_is_no_refusal question (GivesFile m g) is refuses = cc

-- the far side's answer that is awaited is true
pub true_of : (far : Option (List Named)) (question message : MessageSeen) → is_awaited question message ≡ true
    → IsAnswerTo far question message → IsTrueOf far question message
true_of far question message awaited (IsAwaited is right) = right
true_of far question message awaited (IsRefusal refuses) =
    absurd (awaited_is_no_refusal question message awaited refuses)

-- over an honest link the awaited answer to the last message sent is true
pub honest_answer : (far : Option (List Named)) (question : MessageSeen) (last : Option (List ℕ)) (bytes : List ℕ)
    → IsMessage question → last ≡ Some (message_text question) → IsHonestly far last bytes → HasAnswer question bytes
    → IsTrueMessage far question bytes
honest_answer far question last bytes right sent honestly has =
    let answers = subst (λ l. IsHonestly far l bytes) sent honestly in
    record {
      message = has.message;
      is = has.is;
      awaited = has.awaited;
      right = true_of far question has.message has.awaited
          (answers question has.message (message_in-text question right) has.is
          (awaited_number question has.message has.awaited));
    }

-- the text of a question that stands above or was the last may be sent
pub may_send : (last : Option (List ℕ)) (question : MessageSeen) (text : List ℕ) (under_way : Bool)
    (failures strays : ℕ) → IsMessage question → is_question question ≡ true → text ≡ message_text question
    → HasSent last question under_way failures strays → MaySend last text
may_send last question text under_way failures strays right asks is has =
    subst (λ t. MaySend last t) (sym is)
    (record { question = question; is = message_in-text question right; asks = asks; above = has.may })

-- what was sent may be sent again
pub sent_now : (last : Option (List ℕ)) (question : MessageSeen) (under_way : Bool) (failures strays : ℕ)
    → last ≡ Some (message_text question) → HasSent last question under_way failures strays
sent_now last question under_way failures strays is = record { may = inl is; sent = λ u. is; began = λ b. is }

-- what is numbered past the last question stands above it
pub above_next : (last : Option (List ℕ)) (question : MessageSeen) (n : ℕ) → IsMessage question
    → last ≡ Some (message_text question) → message_number question ≡ n → IsAbove last (n + 1)
above_next last question n right is number =
    subst (λ l. IsAbove l (n + 1)) (sym is) (λ q read.
    let same : question ≡ q = cc (message_in-text question right, read) in
    let numbers : message_number question ≡ message_number q = ap message_number same in
    omega (arith, numbers, number))

-- before anything was sent
pub not_sent : (last : Option (List ℕ)) (question : MessageSeen) → IsAbove last (message_number question)
    → HasSent last question false 0 0
not_sent last question above = record { may = inr above; sent = λ u. cc; began = λ b. absurd (omega arith) }

-- ---- the parts

module _ {L : Type 0} (sends : L → List ℕ → Bool → L → Type 0) (receives : L → Option (List ℕ) → L → Type 0)
    (question : MessageSeen) (start : L) (failures strays : ℕ) (few : failures < 64) (some : strays < 128)
    (link next : L)
  where
    pub part_sent : sends link (message_text question) true next
        → IsPartOf sends receives question start false failures strays link
        → IsPartOf sends receives question start true failures strays next
    part_sent step part = record {
      goes_on = λ answer end rest.
          part.goes_on answer end (IsSent failures strays link next answer end few some step rest);
    }

    pub part_not_sent : sends link (message_text question) false next
        → IsPartOf sends receives question start false failures strays link
        → IsPartOf sends receives question start false (failures + 1) strays next
    part_not_sent step part = record {
      goes_on = λ answer end rest.
          part.goes_on answer end (IsNotSent failures strays link next answer end few some step rest);
    }

    pub part_none_came : receives link None next
        → IsPartOf sends receives question start true failures strays link
        → IsPartOf sends receives question start false (failures + 1) strays next
    part_none_came step part = record {
      goes_on = λ answer end rest.
          part.goes_on answer end (NoneCame failures strays link next answer end few some step rest);
    }

    pub part_refused : Gave receives (HasRefusal question) link next
        → IsPartOf sends receives question start true failures strays link
        → IsPartOf sends receives question start false (failures + 1) strays next
    part_refused gave part = record {
      goes_on = λ answer end rest.
          part.goes_on answer end (IsRefused failures strays link next gave.bytes gave.is.message answer end few some
          gave.step gave.is.is gave.is.refuses rest);
    }

    pub part_strayed : Gave receives (IsStray question) link next
        → IsPartOf sends receives question start true failures strays link
        → IsPartOf sends receives question start true failures (strays + 1) next
    part_strayed gave part = record {
      goes_on = λ answer end rest.
          part.goes_on answer end (Strays failures strays link next gave.bytes answer end few some gave.step
          gave.is rest);
    }

    pub part_answered : (bytes : List ℕ) → GaveAnswer receives question link bytes next
        → IsPartOf sends receives question start true failures strays link
        → Asks sends receives question false 0 0 start (message_in bytes) next
    part_answered bytes gave part =
        let whole = part.goes_on (Some gave.has.message) next
        (IsAnswered failures strays link next bytes gave.has.message
        few some gave.step gave.has.is gave.has.awaited) in
        subst (λ (answer : Option MessageSeen). Asks sends receives question false 0 0 start answer next)
        (sym gave.has.is) whole

-- giving up
pub part_ended : {L : Type 0} (sends : L → List ℕ → Bool → L → Type 0) (receives : L → Option (List ℕ) → L → Type 0)
    (question : MessageSeen) (start : L) (under_way : Bool) (failures strays : ℕ) (link : L)
    → (64 ≤ failures) ⊎ (128 ≤ strays) → IsPartOf sends receives question start under_way failures strays link
    → Asks sends receives question false 0 0 start None link
part_ended sends receives question start under_way failures strays link many part =
    part.goes_on None link (GivesUp under_way failures strays link many)

-- a part where it is known whether the question is under way
pub part_when : {L : Type 0} (sends : L → List ℕ → Bool → L → Type 0) (receives : L → Option (List ℕ) → L → Type 0)
    (question : MessageSeen) (start : L) (under_way known : Bool) (failures strays : ℕ) (link : L) → under_way ≡ known
    → IsPartOf sends receives question start under_way failures strays link
    → IsPartOf sends receives question start known failures strays link
part_when sends receives question start under_way known failures strays link is part =
    subst (λ (u : Bool). IsPartOf sends receives question start u failures strays link) is part

-- the whole is a part of itself
pub part_begun : {L : Type 0} (sends : L → List ℕ → Bool → L → Type 0) (receives : L → Option (List ℕ) → L → Type 0)
    (question : MessageSeen) (start : L) → IsPartOf sends receives question start false 0 0 start
part_begun sends receives question start = record { goes_on = λ answer end rest. rest }

-- ---- counts

-- two rises are one by their sum
pub rose_more : (n m sum faults received faults_mid received_mid faults_now received_now : ℕ) → n + m ≡ sum
    → faults_mid ≤ faults_now → received_mid ≤ received_now → RoseTogether n faults received faults_mid received_mid
    → RoseTogether m faults_mid received_mid faults_now received_now
    → RoseTogether sum faults received faults_now received_now
rose_more n m sum f r f1 r1 f2 r2 is later more (inl top) second = inl (omega arith)
rose_more n m sum f r f1 r1 f2 r2 is later more (inr (inl top)) second = inr (inl (omega arith))
rose_more n m sum f r f1 r1 f2 r2 is later more (inr (inr both)) (inl top) = inl (omega arith)
rose_more n m sum f r f1 r1 f2 r2 is later more (inr (inr both)) (inr (inl top)) = inr (inl (omega arith))
rose_more n m sum f r f1 r1 f2 r2 is later more (inr (inr both)) (inr (inr more_both)) = inr (inr (omega arith))

-- counts that don't fall rise by nothing
pub rose_by_none : (faults received faults_now received_now : ℕ) → faults ≤ faults_now → received ≤ received_now
    → RoseTogether 0 faults received faults_now received_now
rose_by_none f r f1 r1 later more = inr (inr (omega arith))

-- a fault is a rise by one
pub rose_by_fault : (faults received faults_now received_now : ℕ) → Rose faults faults_now → received ≤ received_now
    → RoseTogether 1 faults received faults_now received_now
rose_by_fault f r f1 r1 rose more =
    elim (cases_lt f1 (2 ^ 64 - 1)) [ inl below ↦ inr (inr (omega arith)) | inr top ↦ inl (omega arith) ]

-- ---- what came

-- the answer that came over an honest link is true
pub true_arrival : (far : Option (List Named)) (question : MessageSeen) (last : Option (List ℕ)) (buffer : List ℕ)
    (size : ℕ) (arrival : Arrival) → IsMessage question → size ≤ length buffer
    → last ≡ Some (message_text question) → IsHonestly far last (take size buffer)
    → IsArrival question (take size buffer) arrival → IsTrueArrival far question buffer arrival
true_arrival far question last buffer size (Answer n) right within sent honestly is =
    let same : size ≡ n = omega (arith, is.0, length-take size buffer, within) in
    subst (λ k. IsTrueMessage far question (take k buffer)) same
    (honest_answer far question last (take size buffer) right sent honestly is.1)
true_arrival far question last buffer size Refusal right within sent honestly is = tt
true_arrival far question last buffer size Stray right within sent honestly is = tt
true_arrival far question last buffer size Nothing right within sent honestly is = tt

-- what came is no longer than what was received
pub fitting_arrival : (question : MessageSeen) (buffer : List ℕ) (size : ℕ) (arrival : Arrival) → size ≤ 1280
    → IsArrival question (take size buffer) arrival → IsFitting arrival
fitting_arrival question buffer size (Answer n) within is = omega (arith, is.0, length-take size buffer, within)
fitting_arrival question buffer size Refusal within is = tt
fitting_arrival question buffer size Stray within is = tt
fitting_arrival question buffer size Nothing within is = tt
