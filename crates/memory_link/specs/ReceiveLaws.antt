-- Laws of receiving over a link in memory: what comes first is an older answer, or one to the question.
use Rattle.std.proofs.Common.{◌≡◌, ℕ, ◌+◌, ◌≤◌, ◌⊎◌, inl, inr, true, false, List, [], ◌∷◌, ◌++◌, length}
use Rattle.std.proofs.Common.{Option, None, Some, refl, sym, ap, ◌∙◌, subst, arith}
use Rattle.std.proofs.lemmas.Bool.{eqb-true}
use Rattle.view_outside.specs.Faults.{Rose}
use Rattle.view_outside.specs.Files.{Named}
use Rattle.view_outside.specs.Messages.{MessageSeen, AsksBytes, GivesBytes, AsksName, GivesFile, SaysFailed}
use Rattle.view_outside.specs.Messages.{message_number, message_in}
use Rattle.view_outside.specs.Links.{is_awaited, is_refusal, IsAwaited, IsRefusal, IsThere, IsStray}
use Rattle.patch_link.specs.AskingLaws.{awaited_number}
use Rattle.memory_link.specs.MemoryLinks.{MemoryLinkSeen, MemoryReceives, NoneWaits, FirstComes, after_received}
use Rattle.memory_link.specs.MemoryLinks.{after_nothing}
use Rattle.memory_link.specs.Midway.{IsOlder, IsNews, AllNews, IsCalm, IsMidway}
use Rattle.memory_link.specs.MidwayLaws.{calm_none_came, calm_unrefused}

-- the message that says that the far side failed carries its question's number
pub refusal_number : (question message : MessageSeen) → is_refusal question message ≡ true
    → message_number message ≡ message_number question
refusal_number question (SaysFailed number) is = eqb-true number (message_number question) is
refusal_number question (AsksBytes number file offset size) is = cc
refusal_number question (GivesBytes number file offset size bytes) is = cc
refusal_number question (AsksName number name) is = cc
refusal_number question (GivesFile number file) is = cc

-- an older message carries another number
older_number : (question message : MessageSeen) (bytes : List ℕ) → message_in bytes ≡ Some message
    → message_number message ≡ message_number question → IsOlder question bytes → ⊥
older_number question message bytes is same older =
    let one : older.message ≡ message = cc (is, older.is) in
    omega (arith, ap message_number one, same, older.before)

-- an answer to the question is no stray
news_astray : (far : Option (List Named)) (question : MessageSeen) (bytes : List ℕ) → IsStray question bytes
    → IsNews far question bytes → ⊥
news_astray far question bytes strays news =
    let not = strays news.message news.is in
    elim news.answers as (λ a. ⊥)
    [ IsAwaited awaited right ↦ cc (awaited, not.0) | IsRefusal refuses ↦ cc (refuses, not.1) ]

-- what is first of the same is the same
first_is : {X : Type 0} (all rest others : List X) (x y : X) → all ≡ x ∷ rest → all ≡ y ∷ others → y ≡ x
first_is all rest others x y one other = cc

-- and what is behind it
behind_is : {X : Type 0} (all rest others : List X) (x y : X) → all ≡ x ∷ rest → all ≡ y ∷ others → rest ≡ others
behind_is all rest others x y one other = cc

-- where both together are none, the second are none
none_behind : (olds news : List (List ℕ)) → olds ++ news ≡ [] → news ≡ []
none_behind [] news none = none
none_behind (bytes ∷ olds) news none = cc

-- few wait after the awaited answer, and the far store's count of faults didn't fall
pub record IsLeft {S : Type 0} (faults : S → ℕ) (start : ℕ) (next : MemoryLinkSeen S) : Type 0 where
  pub few : length next.waiting ≤ 64
  pub later : start ≤ faults next.store

module _ {S : Type 0} (files : S → Option (List Named)) (faults : S → ℕ) (far : Option (List Named)) (start : ℕ)
    (question : MessageSeen) (failures strays : ℕ) (link : MemoryLinkSeen S)
  where
    calm_unheard : (news : List (List ℕ)) → news ≡ []
        → (IsThere far question → Rose start (faults link.store))
        ⊎ IsCalm question link.lose link.since_lost true failures news
        → (IsThere far question → Rose start (faults link.store))
        ⊎ IsCalm question link.lose link.since_lost false (failures + 1) []
    calm_unheard news none (inl rose) = inl rose
    calm_unheard news none (inr calm) = inr (calm_none_came question link.lose link.since_lost failures news none calm)

    -- none waits
    none_came : (olds news : List (List ℕ)) → link.waiting ≡ []
        → IsMidway files faults far start question true failures strays link olds news
        → IsMidway files faults far start question false (failures + 1) strays (after_nothing link) [] []
    none_came olds news empty mid =
        let below = mid.below refl in
        let none : olds ++ news ≡ [] = sym mid.waits ∙ empty in
        record {
          waits = empty;
          far_is = mid.far_is;
          older = tt;
          newer = tt;
          left = omega (arith, mid.left);
          few = omega arith;
          fresh = inr refl;
          most = omega (arith, below);
          below = λ u. cc;
          later = mid.later;
          tells = mid.tells;
          calm = calm_unheard news (none_behind olds news none) mid.calm;
        }

    -- an older answer comes first
    strayed : (old bytes : List ℕ) (olds news rest : List (List ℕ)) → link.waiting ≡ bytes ∷ rest
        → IsMidway files faults far start question true failures strays link (old ∷ olds) news
        → IsMidway files faults far start question true failures (strays + 1) (after_received link rest) olds news
    strayed old bytes olds news rest first mid = record {
      waits = behind_is link.waiting rest (olds ++ news) bytes old first mid.waits;
      far_is = mid.far_is;
      older = mid.older.1;
      newer = mid.newer;
      left = omega (arith, mid.left);
      few = mid.few;
      fresh = elim mid.fresh [ inl none ↦ inl none | inr none ↦ absurd (omega (arith, ap length none)) ];
      most = mid.most;
      below = mid.below;
      later = mid.later;
      tells = mid.tells;
      calm = mid.calm;
    }

    -- the news that come first aren't a stray
    news_first : (new bytes : List ℕ) (news rest : List (List ℕ)) → link.waiting ≡ bytes ∷ rest
        → link.waiting ≡ new ∷ news → AllNews far question (new ∷ news) → IsStray question bytes → ⊥
    news_first new bytes news rest first waits newer strays =
        news_astray far question bytes strays
        (subst (λ b. IsNews far question b) (first_is link.waiting rest news bytes new first waits) newer.0)

    stray_came : (bytes : List ℕ) (rest olds news : List (List ℕ)) → link.waiting ≡ bytes ∷ rest
        → IsMidway files faults far start question true failures strays link olds news → IsStray question bytes
        → (left : List (List ℕ))
        × IsMidway files faults far start question true failures (strays + 1) (after_received link rest) left news
    stray_came bytes rest [] [] first mid strays = absurd (cc (first, mid.waits))
    stray_came bytes rest [] (new ∷ news) first mid strays =
        absurd (news_first new bytes news rest first mid.waits mid.newer strays)
    stray_came bytes rest (old ∷ olds) news first mid strays =
        (olds, strayed old bytes olds news rest first mid)

    -- a stray is received
    pub strays_on : (bytes : List ℕ) (olds news : List (List ℕ)) (next : MemoryLinkSeen S)
        → IsMidway files faults far start question true failures strays link olds news
        → MemoryReceives files link (Some bytes) next → IsStray question bytes
        → (left : List (List ℕ))
        × IsMidway files faults far start question true failures (strays + 1) next left news
    strays_on bytes olds news next mid (FirstComes b rest order first) strays =
        stray_came bytes rest olds news first mid strays

    calm_refused : (bytes : List ℕ) (news : List (List ℕ)) (message : MessageSeen) → message_in bytes ≡ Some message
        → is_refusal question message ≡ true
        → (IsThere far question → Rose start (faults link.store))
        ⊎ IsCalm question link.lose link.since_lost true failures (bytes ∷ news)
        → (IsThere far question → Rose start (faults link.store))
        ⊎ IsCalm question link.lose link.since_lost false (failures + 1) news
    calm_refused bytes news message is refuses (inl rose) = inl rose
    calm_refused bytes news message is refuses (inr calm) =
        absurd (calm_unrefused question link.lose link.since_lost failures bytes news message is refuses calm)

    -- the far side says that it failed
    refused : (new : List ℕ) (news rest : List (List ℕ)) (message : MessageSeen) → rest ≡ news
        → message_in new ≡ Some message → is_refusal question message ≡ true
        → IsMidway files faults far start question true failures strays link [] (new ∷ news)
        → IsMidway files faults far start question false (failures + 1) strays (after_received link rest) [] news
    refused new news rest message same is refuses mid =
        let below = mid.below refl in
        record {
          waits = same;
          far_is = mid.far_is;
          older = tt;
          newer = mid.newer.1;
          left = mid.left;
          few = omega (arith, mid.few);
          fresh = inr refl;
          most = omega (arith, below);
          below = λ u. cc;
          later = mid.later;
          tells = mid.tells;
          calm = calm_refused new news message is refuses mid.calm;
        }

    -- an older message doesn't come first where the number is the question's
    numbered_first : (old bytes : List ℕ) (rest others : List (List ℕ)) (message : MessageSeen)
        → link.waiting ≡ bytes ∷ rest → link.waiting ≡ old ∷ others → message_in bytes ≡ Some message
        → message_number message ≡ message_number question → IsOlder question old → ⊥
    numbered_first old bytes rest others message first waits is same older =
        older_number question message bytes is same
        (subst (λ b. IsOlder question b) (first_is link.waiting rest others bytes old first waits) older)

    refusal_came : (bytes : List ℕ) (rest olds news : List (List ℕ)) (message : MessageSeen)
        → link.waiting ≡ bytes ∷ rest
        → IsMidway files faults far start question true failures strays link olds news
        → message_in bytes ≡ Some message → is_refusal question message ≡ true
        → (left : List (List ℕ))
        × IsMidway files faults far start question false (failures + 1) strays (after_received link rest) [] left
    refusal_came bytes rest [] [] message first mid is refuses = absurd (cc (first, mid.waits))
    refusal_came bytes rest [] (new ∷ news) message first mid is refuses = (
      news,
      refused new news rest message (behind_is link.waiting rest news bytes new first mid.waits)
          (ap message_in (first_is link.waiting rest news bytes new first mid.waits) ∙ is) refuses mid,
    )
    refusal_came bytes rest (old ∷ olds) news message first mid is refuses =
        absurd (numbered_first old bytes rest (olds ++ news) message first mid.waits is
        (refusal_number question message refuses) mid.older.0)

    -- a refusal is received
    pub refusal_received : (bytes : List ℕ) (olds news : List (List ℕ)) (message : MessageSeen)
        (next : MemoryLinkSeen S) → IsMidway files faults far start question true failures strays link olds news
        → MemoryReceives files link (Some bytes) next → message_in bytes ≡ Some message
        → is_refusal question message ≡ true
        → (left : List (List ℕ)) × IsMidway files faults far start question false (failures + 1) strays next [] left
    refusal_received bytes olds news message next mid (FirstComes b rest order first) is refuses =
        refusal_came bytes rest olds news message first mid is refuses

    answer_came : (bytes : List ℕ) (rest olds news : List (List ℕ)) (message : MessageSeen)
        → link.waiting ≡ bytes ∷ rest
        → IsMidway files faults far start question true failures strays link olds news
        → message_in bytes ≡ Some message → is_awaited question message ≡ true
        → IsLeft faults start (after_received link rest)
    answer_came bytes rest [] [] message first mid is awaited = absurd (cc (first, mid.waits))
    answer_came bytes rest [] (new ∷ news) message first mid is awaited =
        let same = behind_is link.waiting rest news bytes new first mid.waits in
        record { few = omega (arith, ap length same, mid.few, mid.below refl); later = mid.later }
    answer_came bytes rest (old ∷ olds) news message first mid is awaited =
        absurd (numbered_first old bytes rest (olds ++ news) message first mid.waits is
        (awaited_number question message awaited) mid.older.0)

    -- the awaited answer is received
    pub answer_received : (bytes : List ℕ) (olds news : List (List ℕ)) (message : MessageSeen)
        (next : MemoryLinkSeen S) → IsMidway files faults far start question true failures strays link olds news
        → MemoryReceives files link (Some bytes) next → message_in bytes ≡ Some message
        → is_awaited question message ≡ true → IsLeft faults start next
    answer_received bytes olds news message next mid (FirstComes b rest order first) is awaited =
        answer_came bytes rest olds news message first mid is awaited

    -- a receive finds nothing
    pub nothing_received : (olds news : List (List ℕ)) (next : MemoryLinkSeen S)
        → IsMidway files faults far start question true failures strays link olds news
        → MemoryReceives files link None next
        → IsMidway files faults far start question false (failures + 1) strays next [] []
    nothing_received olds news next mid (NoneWaits empty) = none_came olds news empty mid
