-- Laws of a link in memory within the asking of one question: each step leaves it so.
use Rattle.std.proofs.Common.{◌≡◌, ℕ, ◌+◌, ◌<◌, ◌≤◌, ◌⊎◌, inl, inr, Bool, true, false, List, [], ◌∷◌, ◌++◌, length}
use Rattle.std.proofs.Common.{Option, None, Some, sym, ap, subst, arith, lit≤}
use Rattle.view_outside.specs.Faults.{Rose}
use Rattle.view_outside.specs.Files.{Named}
use Rattle.view_outside.specs.Messages.{MessageSeen, message_number, message_in}
use Rattle.view_outside.specs.Links.{is_awaited, is_refusal, IsAwaited, IsRefusal, IsThere, IsAbove}
use Rattle.patch_link.specs.AskingLaws.{awaited_is_no_refusal}
use Rattle.memory_link.specs.Counts.{one_more, is_multiple}
use Rattle.memory_link.specs.CountLaws.{at_multiple, none_of_zero, first_is_none, second_is_none}
use Rattle.memory_link.specs.FarLaws.{FarCall}
use Rattle.memory_link.specs.MemoryLinks.{AllWait, IsInOrder, arrived, waiting_count}
use Rattle.memory_link.specs.Midway.{IsNews, IsSure, AllOlder, AllNews, BeginsSure, IsCalm, IsFresh, IsLost}
use Rattle.memory_link.specs.Midway.{IsAgain, IsComing}

-- ---- what waits at the start

-- what waits for earlier questions is older than one above them
all_older : (far : Option (List Named)) (question next : MessageSeen) (waiting : List (List ℕ))
    → message_number question < message_number next → AllWait far question waiting → AllOlder next waiting
all_older far question next [] below all = tt
all_older far question next (bytes ∷ waiting) below all = (
  record { message = all.0.message; is = all.0.is; before = omega (arith, below, all.0.before) },
  all_older far question next waiting below all.1,
)

pub order_older : (far : Option (List Named)) (last : Option (List ℕ)) (next : MessageSeen) (waiting : List (List ℕ))
    → IsAbove last (message_number next) → IsInOrder far last waiting → AllOlder next waiting
order_older far None next waiting above order = subst (λ w. AllOlder next w) (sym order) tt
order_older far (Some sent) next waiting above order =
    all_older far order.0 next waiting (above order.0 order.1) order.2

-- where few are counted, few wait
pub few_wait : (far : Option (List Named)) (last : Option (List ℕ)) (waiting : List (List ℕ))
    → waiting_count last waiting ≤ 64 → IsInOrder far last waiting → length waiting ≤ 64
few_wait far None waiting few order = omega (arith, ap length order)
few_wait far (Some sent) waiting few order = few

-- no more are counted than wait
pub counted_few : (last : Option (List ℕ)) (waiting : List (List ℕ)) → length waiting ≤ 64
    → waiting_count last waiting ≤ 64
counted_few None waiting few = omega arith
counted_few (Some sent) waiting few = few

-- ---- what comes behind

pub news_appended : (far : Option (List Named)) (question : MessageSeen) (news more : List (List ℕ))
    → AllNews far question news → AllNews far question more → AllNews far question (news ++ more)
news_appended far question [] more all all_more = all_more
news_appended far question (bytes ∷ news) more all all_more =
    (all.0, news_appended far question news more all.1 all_more)

pub news_arrived : (far : Option (List Named)) (question : MessageSeen) (again : Bool) (bytes : List ℕ)
    → IsNews far question bytes → AllNews far question (arrived again bytes)
news_arrived far question true bytes is = (is, (is, tt))
news_arrived far question false bytes is = (is, tt)

pub arrived_few : (again : Bool) (bytes : List ℕ) → length (arrived again bytes) ≤ 2
arrived_few true bytes = lit≤ tt
arrived_few false bytes = lit≤ tt

sure_arrived : (question : MessageSeen) (again : Bool) (bytes : List ℕ) → IsSure question bytes
    → BeginsSure question (arrived again bytes)
sure_arrived question true bytes is = is
sure_arrived question false bytes is = is

-- ---- whether the far store has failed

module _ (question : MessageSeen) (lose since : ℕ)
  where
    -- after a question that was lost
    pub calm_lost : (failures : ℕ) (news : List (List ℕ)) → (lose ≡ 0) ⊎ (3 ≤ lose)
        → is_multiple lose (one_more lose since) ≡ true → IsCalm question lose since false failures news
        → IsCalm question lose (one_more lose since) true failures news
    calm_lost failures news (inl none) lost IsFresh = absurd (none_of_zero lose (one_more lose since) none lost)
    calm_lost failures news (inr many) lost IsFresh = IsLost many (at_multiple lose (one_more lose since) lost)
    calm_lost failures news tells lost (IsAgain many at) = absurd (first_is_none lose since many at lost)

    -- after a question whose answer was lost
    pub calm_answer_lost : (failures : ℕ) (news : List (List ℕ)) → (lose ≡ 0) ⊎ (3 ≤ lose)
        → is_multiple lose (one_more lose (one_more lose since)) ≡ true
        → IsCalm question lose since false failures news
        → IsCalm question lose (one_more lose (one_more lose since)) true failures news
    calm_answer_lost failures news (inl none) lost IsFresh =
        absurd (none_of_zero lose (one_more lose (one_more lose since)) none lost)
    calm_answer_lost failures news (inr many) lost IsFresh =
        IsLost many (at_multiple lose (one_more lose (one_more lose since)) lost)
    calm_answer_lost failures news tells lost (IsAgain many at) = absurd (second_is_none lose since many at lost)

    -- after a question that was answered
    pub calm_answered : (next failures : ℕ) (news : List (List ℕ)) (again : Bool) (bytes : List ℕ)
        → IsSure question bytes → IsCalm question lose since false failures news
        → IsCalm question lose next true failures (news ++ arrived again bytes)
    calm_answered next failures news again bytes sure IsFresh =
        IsComing 0 (arrived again bytes) (lit≤ tt) (sure_arrived question again bytes sure)
    calm_answered next failures news again bytes sure (IsAgain many at) =
        IsComing 1 (arrived again bytes) (lit≤ tt) (sure_arrived question again bytes sure)

    -- after a receive that found nothing
    pub calm_none_came : (failures : ℕ) (news : List (List ℕ)) → news ≡ []
        → IsCalm question lose since true failures news → IsCalm question lose since false (failures + 1) []
    calm_none_came failures news none (IsLost many at) = IsAgain many at
    calm_none_came failures news none (IsComing f n few sure) = absurd (subst (λ w. BeginsSure question w) none sure)

    -- the first that comes then isn't that the far side failed
    pub calm_unrefused : (failures : ℕ) (bytes : List ℕ) (news : List (List ℕ)) (message : MessageSeen)
        → message_in bytes ≡ Some message → is_refusal question message ≡ true
        → IsCalm question lose since true failures (bytes ∷ news) → ⊥
    calm_unrefused failures bytes news message is refuses (IsComing f n few sure) =
        let one : sure.message ≡ message = cc (is, sure.is) in
        awaited_is_no_refusal question message (subst (λ m. is_awaited question m ≡ true) one sure.awaited) refuses

    -- few failures are met so
    pub calm_few : (under_way : Bool) (failures : ℕ) (news : List (List ℕ))
        → IsCalm question lose since under_way failures news → failures ≤ 1
    calm_few under_way failures news IsFresh = lit≤ tt
    calm_few under_way failures news (IsLost many at) = lit≤ tt
    calm_few under_way failures news (IsAgain many at) = lit≤ tt
    calm_few under_way failures news (IsComing f n few sure) = few

-- ---- an answer of the far store

-- it is awaited, or says that the far side failed
pub sure_or_refused : {S : Type 0} (files : S → Option (List Named)) (faults : S → ℕ) (question : MessageSeen)
    (old new : S) (bytes : List ℕ) → FarCall files faults question old new bytes
    → IsSure question bytes ⊎ (IsThere (files old) question → Rose (faults old) (faults new))
sure_or_refused files faults question old new bytes call =
    elim call.answers as (λ a. IsSure question bytes
    ⊎ (IsThere (files old) question → Rose (faults old) (faults new))) [
      | IsAwaited awaited right ↦ inl (record { message = call.answer; is = call.is; awaited = awaited })
      | IsRefusal refuses ↦ inr (call.cause refuses)
    ]
