-- The steps of a link in memory, read off what its calls leave.
use Rattle.std.proofs.Common.{◌≡◌, ℕ, ◌<◌, ◌≤◌, Bool, true, false, List, [], ◌∷◌, ◌++◌, length, Option, None, Some}
use Rattle.std.proofs.Common.{sym, ap, ◌∙◌, subst, arith, length-append}
use Rattle.std.specs.Prelude.{get_or, take, drop}
use Rattle.std.specs.Borrow.{GName}
use Rattle.view_outside.specs.Faults.{faults_after}
use Rattle.view_outside.specs.Files.{Named, AreBytes}
use Rattle.view_outside.specs.Links.{MaySend, counted_after}
use Rattle.view_outside.specs.Messages.{MessageSeen, AsksBytes, GivesBytes, AsksName, GivesFile, SaysFailed}
use Rattle.view_outside.specs.Messages.{IsMessage, message_text, message_in}
use Rattle.link_messages.specs.Fields.{length-field, size_range}
use Rattle.link_messages.specs.Spells.{message_in-spells}
use Rattle.memory_link.specs.Counts.{one_more, is_multiple}
use Rattle.memory_link.specs.FarCalls.{HasAnswered}
use Rattle.memory_link.specs.FarLaws.{far_answer, answered_keeps}
use Rattle.memory_link.specs.MemoryLinks.{MemoryLinkSeen, IsInOrder, Waits, arrived, MemorySends, NoRoom, LostQuestion}
use Rattle.memory_link.specs.MemoryLinks.{LostAnswer, Answered, MemoryReceives, NoneWaits, FirstComes}
use Rattle.memory_link.specs.WaitingLaws.{in_order_sent, in_order_answered}

-- ---- a message is short

text_short : (message : MessageSeen) → IsMessage message → length (message_text message) ≤ 1280
unfolding message_text
text_short (AsksBytes number file offset size) right = omega (arith, length-append {A = ℕ}, length-field)
text_short (GivesBytes number file offset size bytes) right =
    let range = size_range size right.asking.size_fits in
    omega (arith, length-append {A = ℕ}, length-field, right.within, range.1)
text_short (AsksName number name) right =
    omega (arith, length-append {A = ℕ}, length-field, right.named.few)
text_short (GivesFile number file) right = omega (arith, length-append {A = ℕ}, length-field)
text_short (SaysFailed number) right = omega (arith, length-field)

pub message_short : (message : MessageSeen) (bytes : List ℕ) → AreBytes bytes → message_in bytes ≡ Some message
    → length bytes ≤ 1280
message_short message bytes are is =
    let spelled = message_in-spells bytes message are is in
    omega (arith, ap length spelled.text, text_short message spelled.right)

-- ---- steps

-- the first, and those behind it
pub first_there : (waiting rest : List (List ℕ)) (bytes : List ℕ) → 0 < length waiting → bytes ≡ get_or waiting 0 bytes
    → rest ≡ take 0 waiting ++ drop 1 waiting → waiting ≡ bytes ∷ rest
first_there [] rest bytes some first behind = absurd (omega arith)
first_there (other ∷ others) rest bytes some first behind =
    sym (ap (λ (r : List (List ℕ)). other ∷ r) behind) ∙ sym (ap (λ (b : List ℕ). b ∷ rest) first)

module _ {S : Type 0} (files : S → Option (List Named)) (faults taken : S → ℕ) (link now : MemoryLinkSeen S)
    (message copy : List ℕ) (same : link ≡ now) (copied : copy ≡ message)
  where
    -- the call found no room
    pub no_room : (counted : ℕ) → counted ≡ faults_after true link.faults
        → IsInOrder (files link.store) link.last link.waiting → 126 < length link.waiting
        → MemorySends files faults taken now message false (record link { last = Some copy; faults = counted })
    no_room counted count order full =
        subst (λ n. MemorySends files faults taken n message false (record link { last = Some copy; faults = counted }))
        same
        (subst (λ f. MemorySends files faults taken link message false (record link { last = Some copy; faults = f }))
        (sym count)
        (subst (λ c. MemorySends files faults taken link message false
        (record link { last = Some c; faults = faults_after true link.faults })) (sym copied) (NoRoom order full)))

    -- the question was lost
    pub question_lost : (first : ℕ) → first ≡ one_more link.lose link.since_lost
        → IsInOrder (files link.store) link.last link.waiting → length link.waiting ≤ 126
        → is_multiple link.lose first ≡ true
        → MemorySends files faults taken now message true (record link { last = Some copy; since_lost = first })
    question_lost first count order room lost =
        subst (λ n. MemorySends files faults taken n message true
        (record link { last = Some copy; since_lost = first }))
        same
        (subst (λ f. MemorySends files faults taken link message true
        (record link { last = Some copy; since_lost = f })) (sym count)
        (subst (λ c. MemorySends files faults taken link message true
        (record link { last = Some c; since_lost = one_more link.lose link.since_lost })) (sym copied)
        (LostQuestion order room (subst (λ f. is_multiple link.lose f ≡ true) count lost))))

    -- the answer was lost
    pub answer_lost : (first second : ℕ) (store : S) (lender : GName) (answer : List ℕ) → lender ≡ link.lender
        → first ≡ one_more link.lose link.since_lost → second ≡ one_more link.lose first
        → IsInOrder (files link.store) link.last link.waiting
        → length link.waiting ≤ 126 → is_multiple link.lose first ≡ false → is_multiple link.lose second ≡ true
        → HasAnswered files faults taken message link.store store answer
        → MemorySends files faults taken now message true
        (record link { store = store; lender = lender; last = Some copy; since_lost = second })
    answer_lost first second store lender answer lent count counted order room kept lost has =
        let twice : second ≡ one_more link.lose (one_more link.lose link.since_lost) =
        counted ∙ ap (one_more link.lose) count in
        subst (λ n. MemorySends files faults taken n message true
        (record link { store = store; lender = lender; last = Some copy; since_lost = second })) same
        (subst (λ g. MemorySends files faults taken link message true
        (record link { store = store; lender = g; last = Some copy; since_lost = second })) (sym lent)
        (subst (λ f. MemorySends files faults taken link message true
        (record link { store = store; last = Some copy; since_lost = f })) (sym twice)
        (subst (λ c. MemorySends files faults taken link message true
        (record link {
          store = store;
          last = Some c;
          since_lost = one_more link.lose (one_more link.lose link.since_lost);
        })) (sym copied)
        (LostAnswer store answer order room (subst (λ f. is_multiple link.lose f ≡ false) count kept)
        (subst (λ f. is_multiple link.lose f ≡ true) twice lost) has))))

    -- the answer came
    pub answer_came : (first second third : ℕ) (again : Bool) (store : S) (lender : GName) (answer : List ℕ)
        (waiting : List (List ℕ)) → lender ≡ link.lender → first ≡ one_more link.lose link.since_lost
        → second ≡ one_more link.lose first → third ≡ one_more link.repeat link.since_repeated
        → again ≡ is_multiple link.repeat third → waiting ≡ link.waiting ++ arrived again answer
        → IsInOrder (files link.store) link.last link.waiting → length link.waiting ≤ 126
        → is_multiple link.lose first ≡ false → is_multiple link.lose second ≡ false
        → HasAnswered files faults taken message link.store store answer
        → MemorySends files faults taken now message true
        (record link {
          store = store;
          lender = lender;
          last = Some copy;
          since_lost = second;
          since_repeated = third;
          waiting = waiting;
        })
    answer_came first second third again store lender answer waiting lent count counted repeats twice_is items order room
        kept came has =
        let twice : second ≡ one_more link.lose (one_more link.lose link.since_lost) =
        counted ∙ ap (one_more link.lose) count in
        let all : waiting
        ≡ link.waiting ++ arrived (is_multiple link.repeat (one_more link.repeat link.since_repeated)) answer =
        items ∙ ap (λ (a : Bool). link.waiting ++ arrived a answer) (twice_is ∙ ap (is_multiple link.repeat) repeats) in
        subst (λ n. MemorySends files faults taken n message true
        (record link {
          store = store;
          lender = lender;
          last = Some copy;
          since_lost = second;
          since_repeated = third;
          waiting = waiting;
        })) same
        (subst (λ g. MemorySends files faults taken link message true
        (record link {
          store = store;
          lender = g;
          last = Some copy;
          since_lost = second;
          since_repeated = third;
          waiting = waiting;
        })) (sym lent)
        (subst (λ w. MemorySends files faults taken link message true
        (record link { store = store; last = Some copy; since_lost = second; since_repeated = third; waiting = w }))
        (sym all)
        (subst (λ t. MemorySends files faults taken link message true
        (record link {
          store = store;
          last = Some copy;
          since_lost = second;
          since_repeated = t;
          waiting = link.waiting ++ arrived (is_multiple link.repeat (one_more link.repeat link.since_repeated)) answer;
        }))
        (sym repeats)
        (subst (λ f. MemorySends files faults taken link message true
        (record link {
          store = store;
          last = Some copy;
          since_lost = f;
          since_repeated = one_more link.repeat link.since_repeated;
          waiting = link.waiting ++ arrived (is_multiple link.repeat (one_more link.repeat link.since_repeated)) answer;
        }))
        (sym twice)
        (subst (λ c. MemorySends files faults taken link message true
        (record link {
          store = store;
          last = Some c;
          since_lost = one_more link.lose (one_more link.lose link.since_lost);
          since_repeated = one_more link.repeat link.since_repeated;
          waiting = link.waiting ++ arrived (is_multiple link.repeat (one_more link.repeat link.since_repeated)) answer;
        }))
        (sym copied)
        (Answered store answer order room (subst (λ f. is_multiple link.lose f ≡ false) count kept)
        (subst (λ f. is_multiple link.lose f ≡ false) twice came) has))))))

    -- ---- what waits then

    -- it stands in order for the question that was sent
    pub order_sent : MaySend now.last message → IsInOrder (files link.store) link.last link.waiting
        → IsInOrder (files link.store) (Some copy) link.waiting
    order_sent may order =
        let last : now.last ≡ link.last = ap (λ l. l.last) (sym same) in
        subst (λ c. IsInOrder (files link.store) (Some c) link.waiting) (sym copied)
        (let sent = subst (λ l. MaySend l message) last may in
        in_order_sent (files link.store) link.last message sent.question link.waiting sent.is sent.above order)

    -- whatever the far store is left as
    pub order_kept : (store : S) (answer : List ℕ) → MaySend now.last message
        → HasAnswered files faults taken message link.store store answer
        → IsInOrder (files link.store) link.last link.waiting → IsInOrder (files store) (Some copy) link.waiting
    order_kept store answer may has order =
        subst (λ f. IsInOrder f (Some copy) link.waiting)
        (sym (answered_keeps files faults taken message link.store store answer has)) (order_sent may order)

    -- and so does its answer behind it
    pub order_answered : (store : S) (answer : List ℕ) (again : Bool) (waiting : List (List ℕ))
        → MaySend now.last message → HasAnswered files faults taken message link.store store answer
        → waiting ≡ link.waiting ++ arrived again answer → IsInOrder (files link.store) link.last link.waiting
        → IsInOrder (files store) (Some copy) waiting
    order_answered store answer again waiting may has items order =
        let last : now.last ≡ link.last = ap (λ l. l.last) (sym same) in
        let sent = subst (λ l. MaySend l message) last may in
        let call = far_answer files faults taken message sent.question link.store store answer sent.is has in
        let waits : Waits (files link.store) sent.question answer = record {
          message = call.answer;
          is = call.is;
          before = omega (arith, call.number);
          answers = λ number. call.answers;
        } in
        let all = in_order_answered (files link.store) link.last message sent.question link.waiting again answer sent.is
        sent.above order waits in
        subst (λ f. IsInOrder f (Some copy) waiting)
        (sym (answered_keeps files faults taken message link.store store answer has))
        (subst (λ w. IsInOrder (files link.store) (Some copy) w) (sym items)
        (subst (λ c. IsInOrder (files link.store) (Some c) (link.waiting ++ arrived again answer)) (sym copied) all))

module _ {S : Type 0} (files : S → Option (List Named)) (link now : MemoryLinkSeen S) (same : link ≡ now)
  where
    -- a receive that found nothing
    pub nothing_came : (counted : ℕ) → counted ≡ faults_after true link.faults → link.waiting ≡ []
        → MemoryReceives files now None (record link { faults = counted })
    nothing_came counted count empty =
        subst (λ n. MemoryReceives files n None (record link { faults = counted })) same
        (subst (λ f. MemoryReceives files link None (record link { faults = f })) (sym count) (NoneWaits empty))

    -- the first message that waited was received
    pub first_came : (counted : ℕ) (bytes copy : List ℕ) (rest : List (List ℕ))
        → counted ≡ counted_after true link.received → copy ≡ bytes
        → IsInOrder (files link.store) link.last link.waiting → link.waiting ≡ bytes ∷ rest
        → MemoryReceives files now (Some copy) (record link { waiting = rest; received = counted })
    first_came counted bytes copy rest count copied order first =
        subst (λ n. MemoryReceives files n (Some copy) (record link { waiting = rest; received = counted })) same
        (subst (λ f. MemoryReceives files link (Some copy) (record link { waiting = rest; received = f })) (sym count)
        (subst (λ c. MemoryReceives files link (Some c)
        (record link { waiting = rest; received = counted_after true link.received })) (sym copied)
        (FirstComes bytes rest order first)))
