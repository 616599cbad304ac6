-- Laws of a link in memory: its steps mean what its clauses say, and a question is asked in vain only where the far
-- store failed or lacks what was asked for.
use Rattle.std.proofs.Common.{◌≡◌, ℕ, ◌+◌, ◌≤◌, ◌⊎◌, inl, inr, Bool, true, false, List, [], length}
use Rattle.std.proofs.Common.{Option, None, Some, refl, sym, ap, ◌∙◌, subst, arith, length-append}
use Rattle.std.specs.Prelude.{nat_le}
use Rattle.std.proofs.lemmas.List.{append-nil}
use Rattle.std.proofs.lemmas.Bool.{leb-true, or_cases}
use Rattle.view_outside.specs.Faults.{Rose}
use Rattle.view_outside.specs.Files.{Named}
use Rattle.view_outside.specs.Messages.{MessageSeen, message_number, is_question, message_text, IsMessage}
use Rattle.view_outside.specs.Links.{IsThere, IsAbove, IsHonestly, StepsTo, Asks, GivesUp, IsSent, IsNotSent, NoneCame}
use Rattle.view_outside.specs.Links.{IsAnswered, IsRefused, Strays, IsBounded}
use Rattle.memory_link.specs.MemoryLinks.{MemoryLinkSeen, IsInOrder, waiting_count, tells_far, MemorySends, NoRoom}
use Rattle.memory_link.specs.MemoryLinks.{LostQuestion, LostAnswer, Answered, MemoryReceives, NoneWaits, FirstComes}
use Rattle.memory_link.specs.FarLaws.{answered_keeps}
use Rattle.memory_link.specs.WaitingLaws.{first_honest}
use Rattle.memory_link.specs.Midway.{IsMidway, IsFresh, IsCalm}
use Rattle.memory_link.specs.MidwayLaws.{order_older, few_wait, counted_few, calm_few}
use Rattle.memory_link.specs.SendLaws.{sent, never_unsent}
use Rattle.memory_link.specs.ReceiveLaws.{strays_on, refusal_received, answer_received, nothing_received}

-- ---- steps

pub memory_sends : {S : Type 0} (files : S → Option (List Named)) (faults taken : S → ℕ)
    (before : MemoryLinkSeen S) (message : List ℕ) (ok : Bool) (after : MemoryLinkSeen S)
    → MemorySends files faults taken before message ok after
    → StepsTo (Some message) after.last (files before.store) (files after.store) true true
memory_sends files faults taken before message ok after (NoRoom order full) =
    record { last = refl; far = refl; honesty = refl }
memory_sends files faults taken before message ok after (LostQuestion order room lost) =
    record { last = refl; far = refl; honesty = refl }
memory_sends files faults taken before message ok after (LostAnswer store answer order room kept lost has) =
    record {
      last = refl;
      far = answered_keeps files faults taken message before.store store answer has;
      honesty = refl;
    }
memory_sends files faults taken before message ok after (Answered store answer order room kept came has) =
    record {
      last = refl;
      far = answered_keeps files faults taken message before.store store answer has;
      honesty = refl;
    }

pub memory_receives : {S : Type 0} (files : S → Option (List Named)) (before : MemoryLinkSeen S)
    (message : Option (List ℕ)) (after : MemoryLinkSeen S) → MemoryReceives files before message after
    → StepsTo before.last after.last (files before.store) (files after.store) true true
memory_receives files before message after (NoneWaits empty) = record { last = refl; far = refl; honesty = refl }
memory_receives files before message after (FirstComes bytes rest order first) =
    record { last = refl; far = refl; honesty = refl }

pub memory_receives_honestly : {S : Type 0} (files : S → Option (List Named)) (before : MemoryLinkSeen S)
    (message : List ℕ) (after : MemoryLinkSeen S) → MemoryReceives files before (Some message) after → true ≡ true
    → IsHonestly (files before.store) before.last message
memory_receives_honestly files before message after (FirstComes bytes rest order first) honest =
    first_honest (files before.store) before.last message rest
    (subst (λ w. IsInOrder (files before.store) before.last w) first order)

pub memory_none_waits : {S : Type 0} (link : MemoryLinkSeen S) → link.last ≡ None
    → waiting_count link.last link.waiting ≡ 0
memory_none_waits link none = ap (λ l. waiting_count l link.waiting) none

-- ---- the asking of a question

-- the question is asked at most so often in vain that the far store has failed
given_up : {S : Type 0} (files : S → Option (List Named)) (faults : S → ℕ) (far : Option (List Named)) (start : ℕ)
    (question : MessageSeen) (under_way : Bool) (failures strays : ℕ) (link : MemoryLinkSeen S)
    (olds news : List (List ℕ))
    → IsMidway files faults far start question under_way failures strays link olds news
    → (64 ≤ failures) ⊎ (128 ≤ strays)
    → (IsThere far question → Rose start (faults link.store))
    ⊎ IsCalm question link.lose link.since_lost under_way failures news
    → IsThere far question → Rose start (faults link.store)
given_up files faults far start question under_way failures strays link olds news mid (inr many) calm =
    absurd (omega (arith, many, mid.left))
given_up files faults far start question under_way failures strays link olds news mid (inl many) (inl rose) = rose
given_up files faults far start question under_way failures strays link olds news mid (inl many) (inr calm) =
    absurd (omega (arith, many, calm_few question link.lose link.since_lost under_way failures news calm))

-- few wait then
few_at_end : {S : Type 0} (files : S → Option (List Named)) (faults : S → ℕ) (far : Option (List Named)) (start : ℕ)
    (question : MessageSeen) (under_way : Bool) (failures strays : ℕ) (link : MemoryLinkSeen S)
    (olds news : List (List ℕ))
    → IsMidway files faults far start question under_way failures strays link olds news
    → (64 ≤ failures) ⊎ (128 ≤ strays) → length link.waiting ≤ 64
few_at_end files faults far start question under_way failures strays link olds news mid (inr many) =
    absurd (omega (arith, many, mid.left))
few_at_end files faults far start question true failures strays link olds news mid (inl many) =
    absurd (omega (arith, many, mid.below refl))
few_at_end files faults far start question false failures strays link olds news mid (inl many) =
    let all = ap length mid.waits ∙ length-append olds news in
    elim mid.fresh [
      | inl first ↦ absurd (omega (arith, many, first))
      | inr none ↦ omega (arith, all, mid.few, mid.most, ap length none)
    ]

module _ {S : Type 0} (files : S → Option (List Named)) (faults taken : S → ℕ) (far : Option (List Named))
    (start : ℕ) (question : MessageSeen) (right : IsMessage question)
  where
    bounded_from : (under_way : Bool) (failures strays : ℕ) (link : MemoryLinkSeen S) (answer : Option MessageSeen)
        (end : MemoryLinkSeen S) (olds news : List (List ℕ))
        → IsMidway files faults far start question under_way failures strays link olds news
        → Asks (MemorySends files faults taken) (MemoryReceives files) question under_way failures strays link answer
        end
        → IsBounded (waiting_count end.last end.waiting) start (faults end.store) (IsThere far question) answer
    bounded_from under_way failures strays link answer end olds news mid (GivesUp u f s l many) = record {
      few = counted_few link.last link.waiting
          (few_at_end files faults far start question under_way failures strays link olds news mid many);
      later = mid.later;
      cause = λ none. given_up files faults far start question under_way failures strays link olds news mid many
          mid.calm;
    }
    bounded_from under_way failures strays link answer end olds news mid (IsSent f s l next a e few some step rest) =
        let goes = sent files faults taken far start question failures strays link olds news next right mid few step in
        bounded_from true failures strays next answer end olds goes.0 goes.1 rest
    bounded_from under_way failures strays link answer end olds news mid (IsNotSent f s l next a e few some step rest) =
        absurd (never_unsent files faults taken far start question failures strays link olds news next
        (message_text question) mid step)
    bounded_from under_way failures strays link answer end olds news mid (NoneCame f s l next a e few some step rest) =
        bounded_from false (failures + 1) strays next answer end [] []
        (nothing_received files faults far start question failures strays link olds news next mid step) rest
    bounded_from under_way failures strays link answer end olds news mid
        (IsAnswered f s l next bytes message few some step is awaited) =
        let left = answer_received files faults far start question failures strays link bytes olds news message next
        mid step is awaited in
        record {
          few = counted_few next.last next.waiting left.few;
          later = left.later;
          cause = λ none. cc;
        }
    bounded_from under_way failures strays link answer end olds news mid
        (IsRefused f s l next bytes message a e few some step is refuses rest) =
        let goes = refusal_received files faults far start question failures strays link bytes olds news message next
        mid step is refuses in
        bounded_from false (failures + 1) strays next answer end [] goes.0 goes.1 rest
    bounded_from under_way failures strays link answer end olds news mid
        (Strays f s l next bytes a e few some step stray rest) =
        let goes = strays_on files faults far start question failures strays link bytes olds news next mid step stray in
        bounded_from true failures (strays + 1) next answer end goes.0 news goes.1 rest

-- where the link tells of its far store, few messages are lost
tells_of : (lose : ℕ) → tells_far lose ≡ true → (lose ≡ 0) ⊎ (3 ≤ lose)
tells_of lose tells =
    elim (or_cases (nat_le lose 0) (nat_le 3 lose) tells) [
      | inl none ↦ inl (omega (arith, leb-true lose 0 none))
      | inr many ↦ inr (leb-true 3 lose many)
    ]

-- before the question is sent
midway_first : {S : Type 0} (files : S → Option (List Named)) (faults : S → ℕ) (question : MessageSeen)
    (link : MemoryLinkSeen S) → tells_far link.lose ≡ true → waiting_count link.last link.waiting ≤ 64
    → IsAbove link.last (message_number question) → IsInOrder (files link.store) link.last link.waiting
    → IsMidway files faults (files link.store) (faults link.store) question false 0 0 link link.waiting []
midway_first files faults question link tells few above order = record {
  waits = sym (append-nil link.waiting);
  far_is = refl;
  older = order_older (files link.store) link.last question link.waiting above order;
  newer = tt;
  left = omega (arith, few_wait (files link.store) link.last link.waiting few order);
  few = omega arith;
  fresh = inl refl;
  most = omega arith;
  below = λ u. cc;
  later = omega arith;
  tells = tells_of link.lose tells;
  calm = inr IsFresh;
}

-- each step of a send starts in order
order_of : {S : Type 0} (files : S → Option (List Named)) (faults taken : S → ℕ) (link : MemoryLinkSeen S)
    (message : List ℕ) (ok : Bool) (next : MemoryLinkSeen S) → MemorySends files faults taken link message ok next
    → IsInOrder (files link.store) link.last link.waiting
order_of files faults taken link message ok next (NoRoom order full) = order
order_of files faults taken link message ok next (LostQuestion order room lost) = order
order_of files faults taken link message ok next (LostAnswer store answer order room kept lost has) = order
order_of files faults taken link message ok next (Answered store answer order room kept came has) = order

-- and so does the asking of a question
starts_in_order : {S : Type 0} (files : S → Option (List Named)) (faults taken : S → ℕ) (question : MessageSeen)
    (failures strays : ℕ) (link : MemoryLinkSeen S) (answer : Option MessageSeen) (end : MemoryLinkSeen S)
    → failures ≡ 0 → strays ≡ 0
    → Asks (MemorySends files faults taken) (MemoryReceives files) question false failures strays link answer end
    → IsInOrder (files link.store) link.last link.waiting
starts_in_order files faults taken question failures strays link answer end none few_strays (GivesUp u f s l many) =
    absurd (elim many [ inl m ↦ omega (arith, m, none) | inr m ↦ omega (arith, m, few_strays) ])
starts_in_order files faults taken question failures strays link answer end none no_strays
    (IsSent f s l next a e few some step rest) =
    order_of files faults taken link (message_text question) true next step
starts_in_order files faults taken question failures strays link answer end none no_strays
    (IsNotSent f s l next a e few some step rest) =
    order_of files faults taken link (message_text question) false next step

pub memory_bounded : {S : Type 0} (files : S → Option (List Named)) (faults taken : S → ℕ) (question : MessageSeen)
    (before after : MemoryLinkSeen S) (answer : Option MessageSeen) → tells_far before.lose ≡ true
    → waiting_count before.last before.waiting ≤ 64 → is_question question ≡ true → IsMessage question
    → IsAbove before.last (message_number question)
    → Asks (MemorySends files faults taken) (MemoryReceives files) question false 0 0 before answer after
    → IsBounded (waiting_count after.last after.waiting) (faults before.store) (faults after.store)
    (IsThere (files before.store) question) answer
memory_bounded files faults taken question before after answer tells few asks right above asked =
    bounded_from files faults taken (files before.store) (faults before.store) question right false 0 0 before answer
    after before.waiting []
    (midway_first files faults question before tells few above
    (starts_in_order files faults taken question 0 0 before answer after refl refl asked))
    asked
