-- A step in which the round goes on: what it asks for next, or that it is over.
use Rattle.std.proofs.Common.{◌≡◌, ◌≢◌, ℕ, ◌<◌, Bool, true, false, ◌||◌, cond, eqb, List, [], ◌∷◌, ◌++◌, length, get_or, Option, Some, None, refl, sym, ap, subst, ◌∙◌, append-nil, arith, inl, inr}
use Rattle.std.specs.Prelude.{nat_lt}
use Rattle.std.specs.List.{position, position_or_len}
use Rattle.std.specs.Option.{option_map_or}
use Rattle.std.proofs.lemmas.Bool.{cond-true, cond-false, cases_Bool, cases_lt, lt-ltb, or_left, or_right, eq-eqb, ne_eqb}
use Rattle.std.proofs.lemmas.List.{get_or_past}
use Rattle.std.proofs.lemmas.List.Sums.{fails_before_first}
use Rattle.std.proofs.lemmas.List.Quantifiers.{position-Some}
use Rattle.file_model.specs.declared.fields.Try.{Try}
use Rattle.file_model.specs.Tries.{is_odd}
use Rattle.mesh_model.specs.Meshes.{MeshLists}
use Rattle.round_model.specs.declared.asks.Ask.{Ask}
use Rattle.round_model.specs.declared.asks.Ask.TheVariants.{Lock, GiveBack, Done as NothingAsked}
use Rattle.round_model.specs.Refiners.{Refining, pending_ask, after_answer, after_release}
use Rattle.round_laws.specs.Answers.{try_of}
use Rattle.token_words.specs.Changes.{SetAt}
use Rattle.session_model.specs.declared.steps.Stepped.TheVariants.{Tried, GaveBack, Done}
use Rattle.session_model.specs.Locks.{was_tried, round_locks}
use Rattle.session_laws.specs.Tested.{tried_one_more}
use Rattle.session_laws.specs.Refinings.{owed_is_locked, release_locks, release_refining, locked_within}
use Rattle.session_laws.specs.AskedPatches.{never_tried, asked_is_free, answer_locks, answer_refining, asked_within}
use Rattle.session_model.specs.GoingRounds.{IsRefining}
use Rattle.session_model.specs.Sessions.{SessionState, is_left_over, locks, is_in_flight, uses, least_old}
use Rattle.session_model.specs.Steps.{stepped, with_round, after_try, answer_ask, go_on}
use Rattle.session_model.specs.SessionStates.{IsRunning, IsRefused, IsSessionState, tries_of}
use Rattle.session_laws.specs.StateLaws.{running_mesh}
use Rattle.session_model.specs.Does.{less_by_use, less_by_try, IsStep}

pub or_false : (t : Bool) → (t || false) ≡ t
or_false true = refl
or_false false = refl

-- ---- the least old lock

none_old : (flags : List Bool) → position (λ (old : Bool). old) flags ≡ None → (p : ℕ) → get_or flags p false ≡ false
none_old flags none p =
    let first = position_or_len (λ (old : Bool). old) flags in
    elim (cases_lt first (length flags)) [
      | inl less ↦ absurd (let some : position (λ (old : Bool). old) flags ≡ Some first = cond-true (nat_lt first (length flags)) (Some first) None (lt-ltb first (length flags) less) in cc)
      | inr more ↦ elim (cases_lt p (length flags)) [
        | inl within ↦ fails_before_first (λ (old : Bool). old) flags p false (omega arith)
        | inr past ↦ get_or_past flags p false past
      ]
    ]

pub record IsLeast (flags : List Bool) (p : ℕ) : Type 0 where
  pub within : p < length flags
  pub there : get_or flags p false ≡ true

least_there : (flags : List Bool) (p : ℕ) → position (λ (old : Bool). old) flags ≡ Some p → IsLeast flags p
least_there flags p is = let parts = position-Some (λ (old : Bool). old) flags p false is in record { within = parts.0; there = parts.1 }

pub none_old_in : (s : SessionState) → least_old s ≡ None → (p : ℕ) → is_left_over s p ≡ false
unfolding least_old
none_old_in s none p = none_old s.leftover none p

pub some_old_in : (s : SessionState) (p : ℕ) → least_old s ≡ Some p → IsLeast s.leftover p
unfolding least_old
some_old_in s p is = least_there s.leftover p is

pub round_is : (r t : Refining) → Some r ≡ Some t → r ≡ t
round_is r t e = cc

patch_is : (p q : ℕ) → Some p ≡ Some q → p ≡ q
patch_is p q e = cc

-- ---- the round goes on

module _ (mesh : MeshLists) (s : SessionState) (is : IsSessionState mesh s) (r : Refining) (there : s.round ≡ Some r) (none : s.flight ≡ None) (going : s.printed ≡ false) where
  pub running : IsRunning mesh s r
  running = is.running r there

  pub refining : IsRefining r
  refining = running.refining

  within_mesh : (p : ℕ) → p < length r.rules.mesh.index.fields → p < length s.leftover
  within_mesh p less = subst (λ (n : ℕ). p < n) (ap (λ (m : MeshLists). length m.index.fields) (running_mesh mesh s r running) ∙ sym is.many) less

  locks_here : (q : ℕ) → locks s q ≡ round_locks r q
  locks_here q = ap (λ (o : Option Refining). is_left_over s q || option_map_or (λ (t : Refining). round_locks t q) o false) there ∙ ap (λ (t : Bool). t || round_locks r q) (running.no_old q)

  uses_here : (q : ℕ) → uses s q ≡ round_locks r q
  uses_here q = ap (λ (o : Option ℕ). locks s q || is_in_flight o q) none ∙ or_false (locks s q) ∙ locks_here q

  tries_here : (round : Option Refining) → option_map_or (λ (t : Refining). t.tries) (cond s.printed None round) [] ≡ option_map_or (λ (t : Refining). t.tries) round []
  tries_here round = ap (λ (printed : Bool). option_map_or (λ (t : Refining). t.tries) (cond printed None round) []) going

  tries_now : tries_of s ≡ r.tries
  tries_now = tries_here s.round ∙ ap (λ (o : Option Refining). option_map_or (λ (t : Refining). t.tries) o []) there

  -- the session with another round of the same rules
  locks_with : (t : Refining) (q : ℕ) → (is_left_over s q || round_locks t q) ≡ round_locks t q
  locks_with t q = ap (λ (b : Bool). b || round_locks t q) (running.no_old q)

  module _ (p epoch : ℕ) (asks : pending_ask r ≡ Lock p) where
    abbrev after : SessionState
    after = after_try s r p epoch

    flight_odd : is_odd epoch ≡ true → cond (is_odd epoch) None (Some p) ≡ None
    flight_odd odd = cond-true (is_odd epoch) None (Some p) odd

    flight_even : is_odd epoch ≡ false → cond (is_odd epoch) None (Some p) ≡ Some p
    flight_even even = cond-false (is_odd epoch) None (Some p) even

    flight_other : (q : ℕ) → q ≢ p → is_in_flight (cond (is_odd epoch) None (Some p)) q ≡ false
    flight_other q apart =
        elim (cases_Bool (is_odd epoch)) [
          | inl odd ↦ ap (λ (o : Option ℕ). is_in_flight o q) (flight_odd odd)
          | inr even ↦ ap (λ (o : Option ℕ). is_in_flight o q) (flight_even even) ∙ ne_eqb p q (λ same. apart (sym same))
        ]

    locks_then : (q : ℕ) → locks after q ≡ round_locks (after_answer r p epoch) q
    unfolding after_try
    locks_then q = locks_with (after_answer r p epoch) q

    locked : SetAt (locks s) p (is_odd epoch) (locks after)
    locked =
        let changed = answer_locks r refining p asks epoch in
        record { here = locks_then p ∙ changed.here; others = λ q apart. locks_then q ∙ changed.others q apart ∙ sym (locks_here q) }

    used : SetAt (uses s) p true (uses after)
    unfolding after_try
    used = record {
      here = elim (cases_Bool (is_odd epoch)) [
        | inl odd ↦ or_left (locks after p) (is_in_flight after.flight p) (locked.here ∙ odd)
        | inr even ↦ or_right (locks after p) (is_in_flight after.flight p) (ap (λ (o : Option ℕ). is_in_flight o p) (flight_even even) ∙ eq-eqb p p refl)
      ];
      others = λ q apart.
          ap (λ (t : Bool). locks after q || t) (flight_other q apart) ∙ or_false (locks after q) ∙ locked.others q apart ∙ locks_here q ∙ sym (uses_here q);
    }

    tried_running : IsRunning mesh after (after_answer r p epoch)
    unfolding after_try after_answer
    tried_running = record { refining = answer_refining r refining p asks epoch; view = running.view; viewed = running.viewed; rules = running.rules; no_old = running.no_old }

    try_keeps : IsSessionState mesh after
    unfolding after_try
    try_keeps = record {
      many = is.many;
      running = λ t e. subst (IsRunning mesh after) (round_is (after_answer r p epoch) t e) tried_running;
      flight = λ q e. elim (cases_Bool (is_odd epoch)) [
        | inl odd ↦ absurd (let left = flight_odd odd in cc)
        | inr even ↦ subst (IsRefused after) (patch_is p q (sym (flight_even even) ∙ e)) (record { within = within_mesh p (asked_within r refining p asks); free = locked.here ∙ even })
      ];
    }

    tries_then : tries_of after ≡ r.tries ++ try_of p epoch ∷ []
    unfolding after_try after_answer
    tries_then = tries_here (Some (after_answer r p epoch))

    tried_then : (q : ℕ) → was_tried (tries_of after) q ≡ (was_tried r.tries q || eqb p q)
    tried_then q = ap (λ (ts : List Try). was_tried ts q) tries_then ∙ tried_one_more r.tries p epoch q

    tried_before : (q : ℕ) → was_tried (tries_of s) q ≡ was_tried r.tries q
    tried_before q = ap (λ (ts : List Try). was_tried ts q) tries_now

    many_then : length after.leftover ≡ length s.leftover
    unfolding after_try
    many_then = refl

    view_then : after.view ≡ s.view
    unfolding after_try
    view_then = refl

    pub tried_step : IsStep mesh s (stepped (Tried p epoch) after)
    tried_step = record {
      does = record { within = within_mesh p (asked_within r refining p asks); free = uses_here p ∙ asked_is_free r refining p asks; locked = locked; used = used };
      keeps = try_keeps;
      view = view_then;
      tries = tries_then ∙ ap (λ (ts : List Try). ts ++ try_of p epoch ∷ []) (sym tries_now);
      lowers = inr (less_by_try s after p many_then (within_mesh p (asked_within r refining p asks)) (tried_before p ∙ never_tried r refining p asks) (tried_then p ∙ or_right (was_tried r.tries p) (eqb p p) (eq-eqb p p refl))
          (λ q apart. tried_then q ∙ ap (λ (t : Bool). was_tried r.tries q || t) (ne_eqb p q (λ same. apart (sym same))) ∙ or_false (was_tried r.tries q) ∙ sym (tried_before q)) (uses_here p ∙ asked_is_free r refining p asks) used);
    }

  module _ (p : ℕ) (asks : pending_ask r ≡ GiveBack p) where
    abbrev given : SessionState
    given = with_round s (after_release r)

    given_locks : SetAt (locks s) p false (locks given)
    given_locks =
        let changed = release_locks r refining p asks in
        record { here = locks_with (after_release r) p ∙ changed.here; others = λ q apart. locks_with (after_release r) q ∙ changed.others q apart ∙ sym (locks_here q) }

    given_uses : SetAt (uses s) p false (uses given)
    given_uses =
        let flight : (q : ℕ) → uses given q ≡ locks given q = λ q. ap (λ (o : Option ℕ). locks given q || is_in_flight o q) none ∙ or_false (locks given q) in
        record { here = flight p ∙ given_locks.here; others = λ q apart. flight q ∙ given_locks.others q apart ∙ locks_here q ∙ sym (uses_here q) }

    given_running : IsRunning mesh given (after_release r)
    unfolding after_release
    given_running = record { refining = release_refining r refining p asks; view = running.view; viewed = running.viewed; rules = running.rules; no_old = running.no_old }

    given_tries : tries_of given ≡ tries_of s ++ []
    unfolding after_release
    given_tries = tries_here (Some (after_release r)) ∙ sym tries_now ∙ sym (append-nil (tries_of s))

    given_held : locks s p ≡ true
    given_held = locks_here p ∙ owed_is_locked r refining p asks

    given_within : p < length s.leftover
    given_within = within_mesh p (locked_within r refining p (owed_is_locked r refining p asks))

    pub given_step : IsStep mesh s (stepped (GaveBack p) given)
    given_step = record {
      does = record { within = given_within; held = given_held; locked = given_locks; used = given_uses };
      keeps = record {
        many = is.many;
        running = λ t e. subst (IsRunning mesh given) (round_is (after_release r) t e) given_running;
        flight = λ q e. absurd (cc);
      };
      view = refl;
      tries = given_tries;
      lowers = inr (less_by_use s given p refl (given_tries ∙ append-nil (tries_of s)) given_within (uses_here p ∙ owed_is_locked r refining p asks) given_uses);
    }

  done_locks : (q : ℕ) → locks (with_round s r) q ≡ locks s q
  done_locks q = ap (λ (o : Option Refining). is_left_over s q || option_map_or (λ (t : Refining). round_locks t q) o false) (sym there)

  is_done : IsStep mesh s (stepped Done (with_round s r))
  is_done = record {
    does = record { locked = done_locks; used = λ q. ap (λ (t : Bool). t || is_in_flight s.flight q) (done_locks q) };
    keeps = record {
      many = is.many;
      running = λ t e. let same = round_is r t e in subst (IsRunning mesh (with_round s r)) same (record { refining = refining; view = running.view; viewed = running.viewed; rules = running.rules; no_old = running.no_old });
      flight = λ q e. absurd (cc);
    };
    view = refl;
    tries = tries_here (Some r) ∙ sym tries_now ∙ sym (append-nil (tries_of s));
    lowers = inl refl;
  }

  by_ask : (epoch : ℕ) (ask : Ask) → pending_ask r ≡ ask → IsStep mesh s (answer_ask s r epoch ask)
  by_ask epoch (Lock p) asks = tried_step p epoch asks
  by_ask epoch (GiveBack p) asks = given_step p asks
  by_ask epoch NothingAsked asks = is_done

  pub asked_step : (epoch : ℕ) → IsStep mesh s (go_on s epoch (Some r))
  asked_step epoch = by_ask epoch (pending_ask r) refl
