-- A session that gives back all that it uses gives back as many locks as it has.
use Rattle.std.proofs.Common.{◌≡◌, ℕ, zero, suc, ◌+◌, ◌<◌, Bool, true, false, ◌||◌, cond, length, Option, Some, None, refl, sym, ap, subst, ◌∙◌, arith}
use Rattle.std.proofs.lemmas.Bool.{or_left, both_ways}
use Rattle.mesh_model.specs.Meshes.{MeshLists, IsMesh}
use Rattle.session_model.specs.declared.steps.Stepped.{Stepped}
use Rattle.session_model.specs.declared.steps.Stepped.TheVariants.{Unlocked, Tried, Withdrew, GaveBack, Done}
use Rattle.session_model.specs.Counts.{count_below, count_falls}
use Rattle.session_model.specs.Sessions.{SessionState, locks, is_in_flight, least_old, uses, round_ended}
use Rattle.session_model.specs.Steps.{free_old, free_or, free_step}
use Rattle.session_model.specs.SessionStates.{IsSessionState}
use Rattle.session_model.specs.Freeing.{uses_left, DoesFree, Frees, unlocks_in, FreesAll, NoUse, MoreUse}
use Rattle.session_model.specs.Told.{SessionTold}
use Rattle.session_laws.specs.FreeLaws.{free_step_is, freed_has_no_use, freed_has_no_round}
use Rattle.session_laws.specs.ToldLaws.{told_frees}
use Rattle.audit_sessions.specs.Summaries.{Summary, summary_freed, Stands, CanFree}

pub count_none : (n : ℕ) (test : ℕ → Bool) → ((q : ℕ) → test q ≡ false) → count_below n test ≡ 0
unfolding count_below
count_none zero test none = refl
count_none (suc n) test none = let rest = count_none n test none in rw (none n) (omega arith)

none_left : (s : SessionState) → ((p : ℕ) → uses s p ≡ false) → uses_left s ≡ 0
unfolding uses_left
none_left s none = count_none (length s.leftover) (uses s) none

-- ---- flights

old_flight : (s : SessionState) (old : Option ℕ) → (free_old s old).state.flight ≡ s.flight
old_flight s (Some p) = refl
old_flight s None = refl

free_flight : (s : SessionState) → s.flight ≡ None → (free_step s).state.flight ≡ None
unfolding free_step round_ended
free_flight s none =
    ap (λ (o : Option ℕ). (free_or (round_ended s) o).state.flight) none
    ∙ old_flight (round_ended s) (least_old (round_ended s)) ∙ none

freed_flight : (s t : SessionState) (n : ℕ) → s.flight ≡ None → FreesAll s n t → t.flight ≡ None
freed_flight s _ _ none (NoUse is) = free_flight s none
freed_flight s t _ none (MoreUse {n = n} did is rest) = freed_flight (free_step s).state t n (free_flight s none) rest

-- ---- counts

module _ (mesh : MeshLists) (accepted : IsMesh mesh) where
  freed_is : (s t : SessionState) (n : ℕ) → IsSessionState mesh s → FreesAll s n t → IsSessionState mesh t
  freed_is s _ _ is (NoUse none) = (free_step_is mesh accepted s is).keeps
  freed_is s t _ is (MoreUse {n = n} did e rest) = freed_is (free_step s).state t n
      (free_step_is mesh accepted s is).keeps rest

  one_use_less : (s t : SessionState) (did : Stepped) → IsSessionState mesh s → IsSessionState mesh t → s.flight ≡ None
      → DoesFree s (Some did) t → unlocks_in did + uses_left t ≡ uses_left s
  unfolding uses_left
  one_use_less s t (Unlocked p) is after none does =
      let falls = count_falls (length s.leftover) p (uses s) (uses t) does.within
      (or_left (locks s p) (is_in_flight s.flight p) does.held) does.used.here does.used.others in
      let many : length t.leftover ≡ length s.leftover = after.many ∙ sym is.many in
      rw many (omega (arith, falls))
  one_use_less s t (Withdrew p) is after none does =
      absurd (both_ways (uses s p)
      (ap (λ (b : Bool). b || is_in_flight s.flight p) does.free
      ∙ ap (λ (o : Option ℕ). is_in_flight o p) none) does.tried)
  one_use_less s t (Tried p epoch) is after none does = absurd does
  one_use_less s t (GaveBack p) is after none does = absurd does
  one_use_less s t Done is after none does = absurd does

  step_count : (s : SessionState) (did : Stepped) → IsSessionState mesh s → s.flight ≡ None
      → (free_step s).did ≡ Some did → unlocks_in did + uses_left (free_step s).state ≡ uses_left s
  step_count s did is none e =
      let step = free_step_is mesh accepted s is in
      let does : DoesFree s (Some did) (free_step s).state = subst
      (λ (o : Option Stepped). DoesFree s o (free_step s).state) e step.does in
      one_use_less s (free_step s).state did is step.keeps none does

  no_step_count : (s : SessionState) → IsSessionState mesh s → (free_step s).did ≡ None → 0 ≡ uses_left s
  no_step_count s is e =
      let does : DoesFree s None (free_step s).state = subst
      (λ (o : Option Stepped). DoesFree s o (free_step s).state) e (free_step_is mesh accepted s is).does in
      sym (none_left s does.free)

  -- as many locks are given back as there were uses
  pub frees_count : (s t : SessionState) (n : ℕ) → IsSessionState mesh s → s.flight ≡ None → FreesAll s n t
      → n ≡ uses_left s
  frees_count s _ _ is none (NoUse e) = no_step_count s is e
  frees_count s t _ is none (MoreUse {n = n} did e rest) =
      let later = frees_count (free_step s).state t n (free_step_is mesh accepted s is).keeps
      (free_flight s none) rest in
      ap (λ (m : ℕ). unlocks_in did + m) later ∙ step_count s did is none e

  can_free_within : (fuel : ℕ) (s : SessionState) (did : Option Stepped) → IsSessionState mesh s → uses_left s < fuel
      → (free_step s).did ≡ did → CanFree s
  can_free_within zero s did is few e = absurd (omega arith)
  can_free_within (suc fuel) s None is few e = record { unlocks = 0; last = (free_step s).state; frees = NoUse e }
  can_free_within (suc fuel) s (Some did) is few e =
      let step = free_step_is mesh accepted s is in
      let less : Frees s (Some did) (free_step s).state = subst
      (λ (o : Option Stepped). Frees s o (free_step s).state) e step.frees in
      let fewer = less.0 in
      let rest = can_free_within fuel (free_step s).state (free_step (free_step s).state).did step.keeps
      (omega arith) refl in
      record { unlocks = unlocks_in did + rest.unlocks; last = rest.last; frees = MoreUse did e rest.frees }

  -- a session comes to no use
  pub can_free : (s : SessionState) → IsSessionState mesh s → CanFree s
  can_free s is = can_free_within (suc (uses_left s)) s (free_step s).did is (omega arith) refl

  -- what is kept of a session that has given back all
  pub stands_freed : (s t : SessionState) (n : ℕ) (m : Summary) → Stands mesh s m → FreesAll s n t
      → Stands mesh t (summary_freed m)
  stands_freed s t n m stands frees =
      let told = told_frees s t n frees in
      record {
        is = freed_is s t n stands.is frees;
        view = ap (λ (x : SessionTold). x.view) told ∙ stands.view;
        frames = ap (λ (x : SessionTold). x.frames) told ∙ stands.frames;
        locks = none_left t (freed_has_no_use s t n frees);
        no_flight = freed_flight s t n stands.no_flight frees;
        none_going = no_round_going t.printed (freed_has_no_round s t n frees);
      }
    where
      no_round_going : (printed : Bool) → t.round ≡ None → cond printed None t.round ≡ None
      no_round_going true none = refl
      no_round_going false none = none

  pub freed_locks : (s t : SessionState) (n : ℕ) (m : Summary) → Stands mesh s m → FreesAll s n t → n ≡ m.locks
  freed_locks s t n m stands frees = frees_count s t n stands.is stands.no_flight frees ∙ stands.locks
