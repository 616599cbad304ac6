-- Laws of sending a question over a link in memory: it finds room, and leaves older answers before those to it.
use Rattle.std.proofs.Common.{◌≡◌, ℕ, ◌<◌, ◌≤◌, ◌⊎◌, inl, inr, Bool, true, false, List, ◌++◌, length}
use Rattle.std.proofs.Common.{Option, ap, ◌∙◌, subst, arith, append_assoc, length-append}
use Rattle.view_outside.specs.Faults.{Rose, Rose-later, Rose-earlier}
use Rattle.view_outside.specs.Files.{Named}
use Rattle.view_outside.specs.Messages.{MessageSeen, message_text, IsMessage}
use Rattle.view_outside.specs.Links.{IsAnswerTo, IsThere}
use Rattle.link_messages.specs.Spelled.{message_in-text}
use Rattle.memory_link.specs.Counts.{one_more, is_multiple}
use Rattle.memory_link.specs.FarLaws.{FarCall, far_answer}
use Rattle.memory_link.specs.MemoryLinks.{MemoryLinkSeen, arrived, MemorySends, NoRoom, LostQuestion}
use Rattle.memory_link.specs.MemoryLinks.{LostAnswer, Answered, after_lost, after_answer_lost, after_answered}
use Rattle.memory_link.specs.Midway.{IsNews, IsSure, IsCalm, IsMidway}
use Rattle.memory_link.specs.MidwayLaws.{news_appended, news_arrived, arrived_few, calm_lost, calm_answer_lost}
use Rattle.memory_link.specs.MidwayLaws.{calm_answered, sure_or_refused}

-- a rise lasts over a later call
rise_lasts : (there : Type 0) (start before now : ℕ) → (there → Rose start before) → before ≤ now
    → there → Rose start now
rise_lasts there start before now rose later is = Rose-later start before now (rose is) later

-- and is one since the start
rise_counts : (there : Type 0) (start before now : ℕ) → start ≤ before → (there → Rose before now)
    → there → Rose start now
rise_counts there start before now earlier rose is = Rose-earlier start before now earlier (rose is)

module _ {S : Type 0} (files : S → Option (List Named)) (faults taken : S → ℕ) (far : Option (List Named))
    (start : ℕ) (question : MessageSeen) (failures strays : ℕ) (link : MemoryLinkSeen S) (olds news : List (List ℕ))
  where
    -- few wait before a question is sent
    few_before : IsMidway files faults far start question false failures strays link olds news
        → length link.waiting ≤ 64
    few_before mid =
        let all = ap length mid.waits ∙ length-append olds news in
        elim mid.fresh [
          | inl first ↦ omega (arith, all, mid.left, mid.few, first)
          | inr none ↦ omega (arith, all, mid.few, mid.most, ap length none)
        ]

    -- so it finds room
    pub never_unsent : (next : MemoryLinkSeen S) (message : List ℕ)
        → IsMidway files faults far start question false failures strays link olds news
        → MemorySends files faults taken link message false next → ⊥
    never_unsent next message mid (NoRoom order full) = omega (arith, few_before mid, full)

    calm_now_lost : (lost : is_multiple link.lose (one_more link.lose link.since_lost) ≡ true)
        → (link.lose ≡ 0) ⊎ (3 ≤ link.lose)
        → (IsThere far question → Rose start (faults link.store))
        ⊎ IsCalm question link.lose link.since_lost false failures news
        → (IsThere far question → Rose start (faults link.store))
        ⊎ IsCalm question link.lose (one_more link.lose link.since_lost) true failures news
    calm_now_lost lost tells (inl rose) = inl rose
    calm_now_lost lost tells (inr calm) =
        inr (calm_lost question link.lose link.since_lost failures news tells lost calm)

    -- the question is lost
    sent_lost : IsMidway files faults far start question false failures strays link olds news → failures < 64
        → is_multiple link.lose (one_more link.lose link.since_lost) ≡ true
        → IsMidway files faults far start question true failures strays
        (after_lost link (message_text question)) olds news
    sent_lost mid few lost = record {
      waits = mid.waits;
      far_is = mid.far_is;
      older = mid.older;
      newer = mid.newer;
      left = mid.left;
      few = omega (arith, mid.few);
      fresh = mid.fresh;
      most = mid.most;
      below = λ u. few;
      later = mid.later;
      tells = mid.tells;
      calm = calm_now_lost lost mid.tells mid.calm;
    }

    calm_now_answer_lost : (store : S) (answer : List ℕ) → files link.store ≡ far
        → is_multiple link.lose (one_more link.lose (one_more link.lose link.since_lost)) ≡ true
        → (link.lose ≡ 0) ⊎ (3 ≤ link.lose) → start ≤ faults link.store
        → FarCall files faults question link.store store answer
        → (IsThere far question → Rose start (faults link.store))
        ⊎ IsCalm question link.lose link.since_lost false failures news
        → (IsThere far question → Rose start (faults store))
        ⊎ IsCalm question link.lose (one_more link.lose (one_more link.lose link.since_lost)) true failures news
    calm_now_answer_lost store answer far_is lost tells earlier call (inl rose) =
        inl (rise_lasts (IsThere far question) start (faults link.store) (faults store) rose call.later)
    calm_now_answer_lost store answer far_is lost tells earlier call (inr calm) =
        inr (calm_answer_lost question link.lose link.since_lost failures news tells lost calm)

    -- the answer is lost
    sent_answer_lost : (store : S) (answer : List ℕ)
        → IsMidway files faults far start question false failures strays link olds news → failures < 64
        → is_multiple link.lose (one_more link.lose (one_more link.lose link.since_lost)) ≡ true
        → FarCall files faults question link.store store answer
        → IsMidway files faults far start question true failures strays
        (after_answer_lost link (message_text question) store) olds news
    sent_answer_lost store answer mid few lost call = record {
      waits = mid.waits;
      far_is = call.kept ∙ mid.far_is;
      older = mid.older;
      newer = mid.newer;
      left = mid.left;
      few = omega (arith, mid.few);
      fresh = mid.fresh;
      most = mid.most;
      below = λ u. few;
      later = omega (arith, mid.later, call.later);
      tells = mid.tells;
      calm = calm_now_answer_lost store answer mid.far_is lost mid.tells mid.later call mid.calm;
    }

    calm_now_answered : (store : S) (answer : List ℕ) (again : Bool) (since : ℕ) → files link.store ≡ far
        → start ≤ faults link.store → FarCall files faults question link.store store answer
        → IsSure question answer ⊎ (IsThere (files link.store) question → Rose (faults link.store) (faults store))
        → (IsThere far question → Rose start (faults link.store))
        ⊎ IsCalm question link.lose link.since_lost false failures news
        → (IsThere far question → Rose start (faults store))
        ⊎ IsCalm question link.lose since true failures (news ++ arrived again answer)
    calm_now_answered store answer again since far_is earlier call which (inl rose) =
        inl (rise_lasts (IsThere far question) start (faults link.store) (faults store) rose call.later)
    calm_now_answered store answer again since far_is earlier call (inl sure) (inr calm) =
        inr (calm_answered question link.lose link.since_lost since failures news again answer sure calm)
    calm_now_answered store answer again since far_is earlier call (inr rose) (inr calm) =
        inl (rise_counts (IsThere far question) start (faults link.store) (faults store) earlier
        (subst (λ f. IsThere f question → Rose (faults link.store) (faults store)) far_is rose))

    -- the answer comes
    sent_answered : (store : S) (answer : List ℕ)
        → IsMidway files faults far start question false failures strays link olds news → failures < 64
        → FarCall files faults question link.store store answer
        → IsMidway files faults far start question true failures strays
        (after_answered link (message_text question) store answer) olds
        (news ++ arrived (is_multiple link.repeat (one_more link.repeat link.since_repeated)) answer)
    sent_answered store answer mid few call =
        let again = is_multiple link.repeat (one_more link.repeat link.since_repeated) in
        let is : IsNews far question answer = record {
          message = call.answer;
          is = call.is;
          answers = subst (λ f. IsAnswerTo f question call.answer) mid.far_is call.answers;
        } in
        record {
          waits = ap (λ w. w ++ arrived again answer) mid.waits ∙ append_assoc olds news (arrived again answer);
          far_is = call.kept ∙ mid.far_is;
          older = mid.older;
          newer = news_appended far question news (arrived again answer) mid.newer
              (news_arrived far question again answer is);
          left = mid.left;
          few = omega (arith, mid.few, length-append news (arrived again answer), arrived_few again answer);
          fresh = mid.fresh;
          most = mid.most;
          below = λ u. few;
          later = omega (arith, mid.later, call.later);
          tells = mid.tells;
          calm = calm_now_answered store answer again
              (one_more link.lose (one_more link.lose link.since_lost)) mid.far_is mid.later call
              (sure_or_refused files faults question link.store store answer call) mid.calm;
        }

    -- a question is sent
    pub sent : (next : MemoryLinkSeen S) → IsMessage question
        → IsMidway files faults far start question false failures strays link olds news → failures < 64
        → MemorySends files faults taken link (message_text question) true next
        → (more : List (List ℕ)) × IsMidway files faults far start question true failures strays next olds more
    sent next right mid few (LostQuestion order room lost) = (news, sent_lost mid few lost)
    sent next right mid few (LostAnswer store answer order room kept lost has) = (
      news,
      sent_answer_lost store answer mid few lost
          (far_answer files faults taken (message_text question) question link.store store answer
          (message_in-text question right) has),
    )
    sent next right mid few (Answered store answer order room kept came has) = (
      news ++ arrived (is_multiple link.repeat (one_more link.repeat link.since_repeated)) answer,
      sent_answered store answer mid few
          (far_answer files faults taken (message_text question) question link.store store answer
          (message_in-text question right) has),
    )
