-- A step towards no use ends a use, or there was none.
use Rattle.std.proofs.Common.{◌≡◌, ℕ, ◌<◌, true, false, ◌||◌, length, Option, Some, None, refl, sym, ap, ◌∙◌, arith}
use Rattle.std.specs.Option.{option_map_or}
use Rattle.std.proofs.lemmas.Bool.{or_left}
use Rattle.std.proofs.lemmas.List.{length-set}
use Rattle.mesh_model.specs.Meshes.{MeshLists, IsMesh}
use Rattle.round_model.specs.Refiners.{Refining}
use Rattle.token_words.specs.Changes.{SetAt}
use Rattle.session_model.specs.declared.steps.Stepped.TheVariants.{Unlocked, Withdrew}
use Rattle.session_model.specs.Locks.{round_locks}
use Rattle.session_model.specs.Sessions.{SessionState, is_left_over, locks, is_in_flight, uses, least_old, round_ended, without_flight, without_old}
use Rattle.session_model.specs.Steps.{free_old, free_or, free_step}
use Rattle.session_model.specs.Counts.{count_falls}
use Rattle.session_model.specs.SessionStates.{IsSessionState, IsLike, like_uses}
use Rattle.session_laws.specs.StateLaws.{ended_is, ended_like, ended_many}
use Rattle.session_model.specs.Does.{does_like}
use Rattle.session_laws.specs.StepLaws.{unlocked_step, withdraw_step}
use Rattle.session_laws.specs.RoundSteps.{none_old_in, some_old_in}
use Rattle.session_model.specs.Freeing.{uses_left, IsFreeStep, FreesAll, NoUse, MoreUse}

-- one use less
fewer : (s t : SessionState) (p : ℕ) → length t.leftover ≡ length s.leftover → p < length s.leftover → uses s p ≡ true → SetAt (uses s) p false (uses t) → (uses_left t < uses_left s) × ((q : ℕ) × (uses s q ≡ true))
unfolding uses_left
fewer s t p many within used set =
    let falls = count_falls (length s.leftover) p (uses s) (uses t) within used set.here set.others in
    (rw many (omega (arith, falls)), (p, used))

module _ (mesh : MeshLists) (accepted : IsMesh mesh) (s : SessionState) (is : IsSessionState mesh s) where
  abbrev ended : SessionState
  ended = round_ended s

  like : IsLike s ended
  like = ended_like mesh s is

  no_round_now : ended.round ≡ None
  unfolding round_ended
  no_round_now = refl

  going : ended.printed ≡ false
  unfolding round_ended
  going = refl

  by_flight : (flight : Option ℕ) → s.flight ≡ flight → IsFreeStep mesh s (free_or ended flight)
  by_flight (Some p) there =
      let step = withdraw_step mesh ended (ended_is mesh s is) p (like.flight ∙ there) in
      let does = does_like s ended (without_flight ended) (Withdrew p) like step.does in
      record {
        does = does;
        keeps = step.keeps;
        frees = fewer s (without_flight ended) p (ended_many s) does.within does.tried does.used;
        view = like.view;
        no_round = no_round_now;
      }
  by_flight None none = by_old (least_old ended) refl
    where
      by_old : (old : Option ℕ) → least_old ended ≡ old → IsFreeStep mesh s (free_old ended old)
      by_old (Some p) e =
          let step = unlocked_step mesh accepted ended (ended_is mesh s is) (like.flight ∙ none) going p (some_old_in ended p e) in
          let does = does_like s ended (without_old ended p) (Unlocked p) like step.does in
          record {
            does = does;
            keeps = step.keeps;
            frees = fewer s (without_old ended p) p (length-set ended.leftover p false ∙ ended_many s) does.within (or_left (locks s p) (is_in_flight s.flight p) does.held) does.used;
            view = like.view;
            no_round = no_round_now;
          }
      by_old None e = record {
        does = record {
          free = λ p. sym (like_uses s ended like p) ∙ no_use p;
          same = record { locked = like.locks_are; used = like_uses s ended like };
        };
        keeps = ended_is mesh s is;
        frees = tt;
        view = like.view;
        no_round = no_round_now;
      }
        where
          no_use : (p : ℕ) → uses ended p ≡ false
          no_use p =
              ap (λ (o : Option ℕ). locks ended p || is_in_flight o p) (like.flight ∙ none)
              ∙ ap (λ (o : Option Refining). (is_left_over ended p || option_map_or (λ (r : Refining). round_locks r p) o false) || false) no_round_now
              ∙ rw (none_old_in ended e p) refl

  pub free_step_is : IsFreeStep mesh s (free_step s)
  unfolding free_step
  free_step_is = by_flight s.flight refl

-- ---- until there is no use

-- a session that is as free as this has no use
free_by_old : (s : SessionState) (p : ℕ) → s.flight ≡ None → (old : Option ℕ) → least_old (round_ended s) ≡ old → (free_old (round_ended s) old).did ≡ None → uses (free_old (round_ended s) old).state p ≡ false
unfolding round_ended
free_by_old s p none (Some q) e is = absurd (cc)
free_by_old s p none None e is = rw none (rw (none_old_in (round_ended s) e p) refl)

free_by_flight : (s : SessionState) (p : ℕ) (flight : Option ℕ) → s.flight ≡ flight → (free_or (round_ended s) flight).did ≡ None → uses (free_or (round_ended s) flight).state p ≡ false
free_by_flight s p (Some q) e is = absurd (cc)
free_by_flight s p None e is = free_by_old s p e (least_old (round_ended s)) refl is

pub free_has_no_use : (s : SessionState) → (free_step s).did ≡ None → (p : ℕ) → uses (free_step s).state p ≡ false
unfolding free_step
free_has_no_use s is p = free_by_flight s p s.flight refl is

pub freed_has_no_use : (s t : SessionState) (unlocks : ℕ) → FreesAll s unlocks t → (p : ℕ) → uses t p ≡ false
freed_has_no_use s _ _ (NoUse none) p = free_has_no_use s none p
freed_has_no_use s t _ (MoreUse {n = n} did is rest) p = freed_has_no_use (free_step s).state t n rest p

-- such a session has no round
no_round_by_old : (s : SessionState) (old : Option ℕ) → (free_old (round_ended s) old).state.round ≡ None
unfolding round_ended
no_round_by_old s (Some p) = refl
no_round_by_old s None = refl

no_round_by_flight : (s : SessionState) (flight : Option ℕ) → (free_or (round_ended s) flight).state.round ≡ None
unfolding round_ended
no_round_by_flight s (Some p) = refl
no_round_by_flight s None = no_round_by_old s (least_old (round_ended s))

pub freed_has_no_round : (s t : SessionState) (unlocks : ℕ) → FreesAll s unlocks t → t.round ≡ None
unfolding free_step
freed_has_no_round s _ _ (NoUse none) = no_round_by_flight s s.flight
freed_has_no_round s t _ (MoreUse {n = n} did is rest) = freed_has_no_round (free_step s).state t n rest
