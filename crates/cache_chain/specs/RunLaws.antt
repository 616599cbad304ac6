-- What turns of a chain keep, one after the other.
use Rattle.std.proofs.Common.{ℕ, ◌≤◌, List, [], ◌∷◌, ◌++◌, Result, Ok, Err, IfOk, OnErr, refl, sym, subst, ◌∙◌, inl, arith, append_assoc, append-nil}
use Rattle.view_outside.specs.Taken.{taken_after-zero}
use Rattle.tier_model.specs.declared.turns.Turn.{Turn}
use Rattle.cache_chain.specs.declared.parts.TurnLine.{TurnLine}
use Rattle.cache_chain.specs.WordTurns.{WordsSeen}
use Rattle.cache_chain.specs.SettleRuns.{LogsSettling, LogsStop}
use Rattle.cache_chain.specs.TurnRuns.{Setting, Moment, KeepsSets, MakesTurns, Begins, Then, RefusesTurn, StopsTurns}

-- turns and then more turns
pub makes_more : (u : Setting) (l m n : Moment) (made more : List (ℕ × Turn)) → MakesTurns u l made m → MakesTurns u m more n → MakesTurns u l (made ++ more) n
makes_more u l m n made more turns Begins = subst (λ (all : List (ℕ × Turn)). MakesTurns u l all m) (sym (append-nil made)) turns
makes_more u l m o made more turns (Then {made = first} {n = n} k answer earlier turn) =
    subst (λ (all : List (ℕ × Turn)). MakesTurns u l all o) (append_assoc made first ((k, answer) ∷ [])) (Then k answer (makes_more u l m n made first turns earlier) turn)

-- ---- sets and pins

sets_same : (u : Setting) (a : WordsSeen) → KeepsSets u a a
sets_same u a = record { pins = λ p. refl; users = λ tells s p. refl; lockers = λ tells s p. refl; patches = refl }

sets_both : (u : Setting) (a b c : WordsSeen) → KeepsSets u a b → KeepsSets u b c → KeepsSets u a c
sets_both u a b c first second = record {
  pins = λ p. second.pins p ∙ first.pins p;
  users = λ tells s p. second.users tells s p ∙ first.users tells s p;
  lockers = λ tells s p. second.lockers tells s p ∙ first.lockers tells s p;
  patches = second.patches ∙ first.patches;
}

pub sets_kept : (u : Setting) (m n : Moment) (made : List (ℕ × Turn)) → MakesTurns u m made n → KeepsSets u m.words n.words
sets_kept u m n made Begins = sets_same u m.words
sets_kept u m o made (Then {made = first} {n = n} k answer earlier turn) = sets_both u m.words n.words o.words (sets_kept u m n first earlier) turn.sets

pub sets_at_stop : (u : Setting) (m n : Moment) (made : List (ℕ × Turn)) → StopsTurns u m made n → KeepsSets u m.words n.words
sets_at_stop u m n made stops = sets_both u m.words stops.last.words n.words (sets_kept u m stops.last made stops.turns) stops.refused.sets

-- ---- faults

pub faults_later : (u : Setting) (m n : Moment) (made : List (ℕ × Turn)) → MakesTurns u m made n → m.faults ≤ n.faults
faults_later u m n made Begins = omega arith
faults_later u m o made (Then {made = first} {n = n} k answer earlier turn) =
    let before = faults_later u m n first earlier in
    let now = turn.later in
    omega arith

pub faults_at_stop : (u : Setting) (m n : Moment) (made : List (ℕ × Turn)) → StopsTurns u m made n → m.faults ≤ n.faults
faults_at_stop u m n made stops =
    let before = faults_later u m stops.last made stops.turns in
    let now = stops.refused.later in
    omega arith

-- ---- a turn that didn't begin

pub refuses_before : (u : Setting) (k : ℕ) (m : Moment) → RefusesTurn u k m m
refuses_before u k m = record {
  tiers = inl refl;
  epochs = λ p. refl;
  misses = λ tells. refl;
  sets = sets_same u m.words;
  taken = λ none s at. record { bytes = 0; below = omega arith; sum = sym (taken_after-zero m.taken) };
  upper = λ t at. refl;
  later = omega arith;
}

-- ---- a settling, whether it ended or was refused memory

pub settling_sets : {E : Type 0} (u : Setting) (n : ℕ) (before after : Moment) (old new : List TurnLine) (result : Result (Unit {0}) E) → IfOk result (λ _. LogsSettling u n before after old new) → OnErr result (LogsStop u n before after old new) → KeepsSets u before.words after.words
settling_sets u n before after old new (Ok x) settled stopped = sets_kept u before after settled.made settled.turns
settling_sets u n before after old new (Err e) settled stopped = sets_at_stop u before after stopped.made stopped.stops

pub settling_later : {E : Type 0} (u : Setting) (n : ℕ) (before after : Moment) (old new : List TurnLine) (result : Result (Unit {0}) E) → IfOk result (λ _. LogsSettling u n before after old new) → OnErr result (LogsStop u n before after old new) → before.faults ≤ after.faults
settling_later u n before after old new (Ok x) settled stopped = faults_later u before after settled.made settled.turns
settling_later u n before after old new (Err e) settled stopped = faults_at_stop u before after stopped.made stopped.stops
