-- Where each message is lost, or each second, nothing is ever answered.
use Rattle.std.proofs.Common.{◌≡◌, ℕ, ◌+◌, ◌-◌, ◌^◌, ◌<◌, ◌⊎◌, inl, inr, Bool, true, false, List, [], length}
use Rattle.std.proofs.Common.{Option, None, Some, refl, sym, ap, subst, arith}
use Rattle.std.specs.Prelude.{Result, Ok, Err, IfOk}
use Rattle.std.specs.Str.{IsUtf8}
use Rattle.std.proofs.lemmas.Bool.{cases_lt}
use Rattle.view_outside.specs.Files.{Named}
use Rattle.view_outside.specs.Messages.{MessageSeen, AsksName, IsName}
use Rattle.view_outside.specs.Links.{Asks, GivesUp, IsSent, IsNotSent, NoneCame, IsAnswered, IsRefused, Strays}
use Rattle.patch_link.specs.LinkStores.{LinkStoreSeen, HasAsked, IsTurnedAway}
use Rattle.patch_link.specs.Questions.{GivesFileOf}
use Rattle.memory_link.specs.Counts.{one_more, is_multiple}
use Rattle.memory_link.specs.CountLaws.{one_more-below, one_more-at, at_multiple}
use Rattle.memory_link.specs.MemoryLinks.{MemoryLinkSeen, MemorySends, NoRoom, LostQuestion, LostAnswer, Answered}
use Rattle.memory_link.specs.MemoryLinks.{MemoryReceives, NoneWaits, FirstComes, IsBarren, IsLostStore}

-- a first message of each is lost
each_lost : (lose since : ℕ) → lose ≡ 1 → is_multiple lose (one_more lose since) ≡ false → ⊥
each_lost lose since one kept =
    let at : one_more lose since ≡ 0 = one_more-at lose since (omega (arith, one)) in
    let none : is_multiple 1 0 ≡ false = subst (λ l. is_multiple l 0 ≡ false) one
    (subst (λ c. is_multiple lose c ≡ false) at kept) in
    cc none

-- of each second one, the first isn't
first_kept : (lose since : ℕ) → lose ≡ 2 → since ≡ 0 → is_multiple lose (one_more lose since) ≡ true → ⊥
first_kept lose since two at lost =
    let next : one_more lose since ≡ since + 1 = one_more-below lose since (omega (arith, two, at)) in
    let none : one_more lose since ≡ 0 = at_multiple lose (one_more lose since) lost in
    omega (arith, next, none, at)

-- and the second is
second_lost : (lose since : ℕ) → lose ≡ 2 → since ≡ 0
    → is_multiple lose (one_more lose (one_more lose since)) ≡ false → ⊥
second_lost lose since two at kept =
    let next : one_more lose since ≡ since + 1 = one_more-below lose since (omega (arith, two, at)) in
    let full : one_more lose (one_more lose since) ≡ 0 = one_more-at lose (one_more lose since)
    (omega (arith, next, two, at)) in
    let none : is_multiple 2 0 ≡ false = subst (λ l. is_multiple l 0 ≡ false) two
    (subst (λ c. is_multiple lose c ≡ false) full kept) in
    cc none

module _ {S : Type 0} (files : S → Option (List Named)) (faults taken : S → ℕ)
  where
    barren_sent : (link : MemoryLinkSeen S) (message : List ℕ) (ok : Bool) (next : MemoryLinkSeen S)
        → MemorySends files faults taken link message ok next → link.waiting ≡ []
        → (link.lose ≡ 1) ⊎ ((link.lose ≡ 2) × (link.since_lost ≡ 0)) → IsBarren next
    barren_sent link message ok next (NoRoom order full) empty which = absurd (omega (arith, ap length empty, full))
    barren_sent link message ok next (LostQuestion order room lost) empty (inl one) = (empty, inl one)
    barren_sent link message ok next (LostQuestion order room lost) empty (inr two) =
        absurd (first_kept link.lose link.since_lost two.0 two.1 lost)
    barren_sent link message ok next (LostAnswer store answer order room kept lost has) empty (inl one) =
        absurd (each_lost link.lose link.since_lost one kept)
    barren_sent link message ok next (LostAnswer store answer order room kept lost has) empty (inr two) =
        (empty, inr (two.0, at_multiple link.lose (one_more link.lose (one_more link.lose link.since_lost)) lost))
    barren_sent link message ok next (Answered store answer order room kept came has) empty (inl one) =
        absurd (each_lost link.lose link.since_lost one kept)
    barren_sent link message ok next (Answered store answer order room kept came has) empty (inr two) =
        absurd (second_lost link.lose link.since_lost two.0 two.1 came)

    barren_unheard : (link next : MemoryLinkSeen S) → MemoryReceives files link None next → IsBarren link
        → IsBarren next
    barren_unheard link next (NoneWaits empty) barren = barren

    barren_heard : (link : MemoryLinkSeen S) (bytes : List ℕ) (next : MemoryLinkSeen S)
        → MemoryReceives files link (Some bytes) next → IsBarren link → ⊥
    barren_heard link bytes next (FirstComes b rest order first) barren = cc (first, barren.0)

    -- a question is never answered, and it stays so
    pub never_answered : (question : MessageSeen) (under_way : Bool) (failures strays : ℕ) (link : MemoryLinkSeen S)
        (answer : Option MessageSeen) (end : MemoryLinkSeen S)
        → Asks (MemorySends files faults taken) (MemoryReceives files) question under_way failures strays link answer
        end
        → IsBarren link → (answer ≡ None) × IsBarren end
    never_answered question u failures strays link answer end (GivesUp w f s l many) barren = (refl, barren)
    never_answered question u failures strays link answer end (IsSent f s l next a e few some step rest) barren =
        never_answered question true failures strays next answer end rest
        (barren_sent link _ true next step barren.0 barren.1)
    never_answered question u failures strays link answer end (IsNotSent f s l next a e few some step rest) barren =
        never_answered question false (failures + 1) strays next answer end rest
        (barren_sent link _ false next step barren.0 barren.1)
    never_answered question u failures strays link answer end (NoneCame f s l next a e few some step rest) barren =
        never_answered question false (failures + 1) strays next answer end rest
        (barren_unheard link next step barren)
    never_answered question u failures strays link answer end
        (IsAnswered f s l next bytes message few some step is awaited) barren =
        absurd (barren_heard link bytes next step barren)
    never_answered question u failures strays link answer end
        (IsRefused f s l next bytes message a e few some step is refuses rest) barren =
        absurd (barren_heard link bytes next step barren)
    never_answered question u failures strays link answer end
        (Strays f s l next bytes a e few some step stray rest) barren =
        absurd (barren_heard link bytes next step barren)

-- ---- a look-up

-- a look-up without an answer has failed
no_file : {E : Type 0} (answer : Option MessageSeen) (result : Result ℕ E) → answer ≡ None → GivesFileOf answer result
    → IfOk result (λ file. ⊥)
no_file answer (Ok file) none gives = cc (none, gives.1)
no_file answer (Err failed) none gives = tt

-- the look-up failed, and so will the next
pub record IsLost {S E : Type 0} (new : LinkStoreSeen (MemoryLinkSeen S)) (result : Result ℕ E) : Type 0 where
  pub fails : IfOk result (λ file. ⊥)
  pub stays : IsLostStore new

module _ {S E : Type 0} (files : S → Option (List Named)) (faults taken : S → ℕ)
    (old new : LinkStoreSeen (MemoryLinkSeen S)) (name : List ℕ) (result : Result ℕ E) (lost : IsLostStore old)
  where
    lost_away : IsTurnedAway old new result → IsLost new result
    lost_away away = record {
      fails = away.answer;
      stays = subst IsLostStore (sym away.after) lost;
    }

    lost_asked : HasAsked (MemorySends files faults taken) (MemoryReceives files) (AsksName (old.number + 1) name)
        (λ answer. GivesFileOf answer result) old new → old.number < 2 ^ 64 - 1 → IsLost new result
    lost_asked asked below =
        let ends = never_answered files faults taken (AsksName (old.number + 1) name) false 0 0 old.link asked.answer
        new.link asked.asks lost.0 in
        record {
          fails = no_file asked.answer result ends.0 asked.is;
          stays = (ends.1, omega (arith, asked.number, below));
        }

    lost_named : IsName name
        → (IsName name → old.number < 2 ^ 64 - 1 → HasAsked (MemorySends files faults taken) (MemoryReceives files)
        (AsksName (old.number + 1) name) (λ answer. GivesFileOf answer result) old new)
        → (old.number ≡ 2 ^ 64 - 1 → IsTurnedAway old new result) → IsLost new result
    lost_named named asked last =
        elim (cases_lt old.number (2 ^ 64 - 1)) [
          | inl below ↦ lost_asked (asked named below) below
          | inr top ↦ lost_away (last (omega (arith, top, lost.1)))
        ]

    -- each look-up fails
    pub lost_find : IsUtf8 name
        → (IsName name → old.number < 2 ^ 64 - 1 → HasAsked (MemorySends files faults taken) (MemoryReceives files)
        (AsksName (old.number + 1) name) (λ answer. GivesFileOf answer result) old new)
        → ((IsName name → ⊥) → IsTurnedAway old new result)
        → (old.number ≡ 2 ^ 64 - 1 → IsTurnedAway old new result) → IsLost new result
    lost_find text asked no_name last =
        elim (cases_lt (length name) 1) [
          | inl none ↦ lost_away (no_name (λ named. omega (arith, none, named.some)))
          | inr some ↦ elim (cases_lt 255 (length name)) [
            | inl many ↦ lost_away (no_name (λ named.
                omega (arith, many, named.few)))
            | inr few ↦ lost_named (record { some = some; few = few; text = text }) asked last
          ]
        ]
