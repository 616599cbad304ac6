-- What the parts of a session keep in each of its changes.
use Rattle.std.proofs.Common.{◌≡◌, ℕ, ◌+◌, ◌<◌, ◌≤◌, Bool, true, false, ◌||◌, cond, List, length, map, get_or, set, replicate, Option, Some, None, refl, sym, ap, subst, ◌∙◌, arith}
use Rattle.std.specs.List.{range_with_len, position}
use Rattle.std.proofs.lemmas.List.Quantifiers.{position-Some}
use Rattle.std.specs.Option.{is_some}
use Rattle.std.proofs.lemmas.Bool.{cond-true, cond-false}
use Rattle.std.proofs.lemmas.List.{ext_get_or, get_or-replicate, length-replicate, length-set}
use Rattle.std.proofs.lemmas.List.FromFn.{get_or-map-range_with_len, length-map-range_with_len}
use Rattle.file_model.specs.Tries.{is_odd}
use Rattle.mesh_model.specs.Meshes.{MeshLists, IsMesh}
use Rattle.round_model.specs.declared.asks.Ask.TheVariants.{Lock, GiveBack}
use Rattle.round_model.specs.Views.{ViewSeen}
use Rattle.round_model.specs.Refiners.{Refining, after_answer, after_release}
use Rattle.token_words.specs.Changes.{SetAt}
use Rattle.session_model.specs.Sessions.{SessionState, is_left_over, locks, least_old, opened, round_ended, settled, with_view, printed_once, counted_from, without_flight, without_old}
use Rattle.session_model.specs.declared.steps.Stepped.TheVariants.{Unlocked, Tried, GaveBack}
use Rattle.session_model.specs.Steps.{stepped, begun_round, with_round, after_try}
use Rattle.session_model.specs.SessionStates.{IsSessionState}
use Rattle.session_laws.specs.StateLaws.{counted_is, ended_is, ended_locks, ended_like, opened_is, printed_is}
use Rattle.session_model.specs.Does.{IsStep}
use Rattle.session_laws.specs.StepLaws.{withdraw_step, unlocked_step, no_round, begun_is, begun_like}
use Rattle.session_laws.specs.RoundSteps.{tried_step, given_step}
use Rattle.session_laws.specs.RoundSteps.{IsLeast, some_old_in}
use Rattle.session_locks.specs.Sessions.{SessionSeen, session_of, with_state, old_of, session_seen, AreParts}
use Rattle.session_locks.specs.Passes.{HasSameUses, same_of_like}
use Rattle.session_locks.specs.Taken.{IsAsking}
use Rattle.session_locks.proofs.PassLaws.{moves_by, flag_set}

-- ---- flags

-- a list of flags is what they say
flags_are : (n : ℕ) (test : ℕ → Bool) (flags : List Bool) → length flags ≡ n → ((p : ℕ) → get_or flags p false ≡ test p) → map test (range_with_len 0 n) ≡ flags
flags_are n test flags many same =
    let length_is = length-map-range_with_len test 0 n in
    ext_get_or false (map test (range_with_len 0 n)) flags (length_is ∙ sym many)
    (λ i within. get_or-map-range_with_len test 0 n i i false (omega (arith, length_is)) (omega arith) ∙ sym (same i))

-- flags that are all down
all_down : (flags : List Bool) → ((p : ℕ) → get_or flags p false ≡ false) → replicate (length flags) false ≡ flags
all_down flags down =
    let many = length-replicate (length flags) false in
    ext_get_or false (replicate (length flags) false) flags many
    (λ i within. get_or-replicate (length flags) i false false (omega (arith, many)) ∙ sym (down i))

old_many : (round : Option Refining) (locked : List Bool) → length (old_of round locked) ≡ length locked
unfolding old_of
old_many None locked = refl
old_many (Some r) locked = length-replicate (length locked) false

-- without a round the old locks are all that is locked
old_set : (round : Option Refining) (locked : List Bool) (p : ℕ) → round ≡ None → old_of round (set locked p false) ≡ set (old_of round locked) p false
unfolding old_of
old_set None locked p none = refl
old_set (Some r) locked p none = absurd (cc)

none_kept : (round : Option Refining) (locked : List Bool) → round ≡ None → ((p : ℕ) → get_or (old_of round locked) p false ≡ false) → replicate (length locked) false ≡ old_of round locked
unfolding old_of
none_kept None locked none down = all_down locked down
none_kept (Some r) locked none down = absurd (cc)

-- beside a round there are none
kept_old : (round now : Option Refining) (r t : Refining) (locked flags : List Bool) → round ≡ Some r → now ≡ Some t → length flags ≡ length locked → old_of now flags ≡ old_of round locked
unfolding old_of
kept_old None now r t locked flags there is many = absurd (cc)
kept_old (Some q) None r t locked flags there is many = absurd (cc)
kept_old (Some q) (Some u) r t locked flags there is many = ap (λ (n : ℕ). replicate n false) many

set_many : (locked flags : List Bool) (p : ℕ) (value : Bool) → flags ≡ set locked p value → length flags ≡ length locked
set_many locked flags p value is = ap (λ (f : List Bool). length f) is ∙ length-set locked p value

flag_set_in : (locked flags : List Bool) (p : ℕ) (value : Bool) → p < length locked → flags ≡ set locked p value → SetAt (λ q. get_or locked q false) p value (λ q. get_or flags q false)
flag_set_in locked flags p value within is = subst (λ (f : List Bool). SetAt (λ q. get_or locked q false) p value (λ q. get_or f q false)) (sym is) (flag_set locked p value within)

none_there : (o : Option Refining) → o ≡ None → is_some o ≡ false
none_there None is = refl
none_there (Some r) is = absurd (cc)

none_first : (flags : List Bool) → ((p : ℕ) → get_or flags p false ≡ false) → position (λ (old : Bool). old) flags ≡ None
none_first flags down = by_place (position (λ (old : Bool). old) flags) refl
  where
    by_place : (o : Option ℕ) → position (λ (old : Bool). old) flags ≡ o → o ≡ None
    by_place None e = refl
    by_place (Some p) e = absurd (let up = (position-Some (λ (old : Bool). old) flags p false e).1 in let fails = down p in cc)

-- ---- a round that was printed

pub settled_then : (s : SessionState) → s.printed ≡ true → settled s ≡ round_ended s
unfolding settled
settled_then s printed = cond-true s.printed (round_ended s) s printed

pub settled_else : (s : SessionState) → s.printed ≡ false → settled s ≡ s
unfolding settled
settled_else s going = cond-false s.printed (round_ended s) s going

-- ---- a session as it opens

pub opened_seen : (mesh : MeshLists) (number patches : ℕ) (locked : List Bool) → locked ≡ replicate patches false → patches ≡ length mesh.index.fields → session_seen mesh number None None false locked None 0 ≡ session_of mesh number (opened (length mesh.index.fields))
unfolding opened old_of
opened_seen mesh number patches locked is many = rw (is, many) refl

pub opened_parts : (mesh : MeshLists) (number patches : ℕ) (locked : List Bool) → IsMesh mesh → locked ≡ replicate patches false → patches ≡ length mesh.index.fields → AreParts (session_seen mesh number None None false locked None 0) locked
unfolding old_of opened
opened_parts mesh number patches locked accepted is many =
    rw (is, many) (record {
      session = record { accepted = accepted; is = opened_is mesh };
      many = length-replicate (length mesh.index.fields) false;
      flags = λ p. or_false (get_or (replicate (length mesh.index.fields) false) p false);
    })
  where
    or_false : (t : Bool) → t ≡ (t || false)
    or_false true = refl
    or_false false = refl

-- ---- changes

module _ (mesh : MeshLists) (number : ℕ) (view : Option ViewSeen) (round : Option Refining) (printed : Bool) (locked : List Bool) (flight : Option ℕ) (frames : ℕ) where
  abbrev seen : SessionSeen
  seen = session_seen mesh number view round printed locked flight frames

  abbrev state : SessionState
  state = seen.state

  -- what a change keeps
  changed : (t : SessionState) (now : SessionSeen) (flags : List Bool) → AreParts seen locked → now ≡ with_state seen t → IsSessionState mesh t → length flags ≡ length locked → ((p : ℕ) → get_or flags p false ≡ locks t p) → AreParts now flags
  changed t now flags parts same is many are =
      let P : SessionSeen → Type 0 = λ s. AreParts s flags in
      subst P (sym same) (record { session = record { accepted = parts.session.accepted; is = is }; many = many ∙ parts.many; flags = are })

  -- ---- a frame was printed

  pub printed_seen : session_seen mesh number view round true locked flight (frames + 1) ≡ with_state seen (printed_once state)
  unfolding printed_once
  printed_seen = refl

  pub printed_parts : AreParts seen locked → AreParts (session_seen mesh number view round true locked flight (frames + 1)) locked
  unfolding printed_once
  printed_parts parts = changed (printed_once state) (session_seen mesh number view round true locked flight (frames + 1)) locked parts printed_seen (printed_is mesh state parts.session.is) refl parts.flags

  pub printed_same : HasSameUses state (session_seen mesh number view round true locked flight (frames + 1)).state
  printed_same = record { uses_are = λ p. refl; locks_are = λ p. refl }

  -- ---- frames are counted on from a number

  pub counted_seen : (now : ℕ) → session_seen mesh number view round printed locked flight now ≡ with_state seen (counted_from now state)
  unfolding counted_from
  counted_seen now = refl

  pub counted_parts : (now : ℕ) → AreParts seen locked → AreParts (session_seen mesh number view round printed locked flight now) locked
  unfolding counted_from
  counted_parts now parts = changed (counted_from now state) (session_seen mesh number view round printed locked flight now) locked parts (counted_seen now) (counted_is mesh state now parts.session.is) refl parts.flags

  pub counted_same : (now : ℕ) → HasSameUses state (session_seen mesh number view round printed locked flight now).state
  counted_same now = record { uses_are = λ p. refl; locks_are = λ p. refl }

  -- ---- the round ends

  pub ended_seen : AreParts seen locked → session_seen mesh number view None false locked flight frames ≡ with_state seen (round_ended state)
  unfolding round_ended old_of
  ended_seen parts =
      ap (λ (flags : List Bool). session_of mesh number (record { view = view; round = None; printed = false; leftover = flags; flight = flight; frames = frames }))
      (sym (flags_are (length (old_of round locked)) (locks state) locked (sym (old_many round locked)) parts.flags))

  pub ended_parts : AreParts seen locked → AreParts (session_seen mesh number view None false locked flight frames) locked
  ended_parts parts =
      changed (round_ended state) (session_seen mesh number view None false locked flight frames) locked parts (ended_seen parts) (ended_is mesh state parts.session.is) refl
      (λ p. parts.flags p ∙ sym (ended_locks mesh state parts.session.is p))

  pub ended_same : AreParts seen locked → HasSameUses state (session_seen mesh number view None false locked flight frames).state
  ended_same parts =
      let P : SessionSeen → Type 0 = λ s. HasSameUses state s.state in
      subst P (sym (ended_seen parts)) (same_of_like state (round_ended state) (ended_like mesh state parts.session.is))

  -- ---- a view is set on a session without a round

  pub viewed_parts : (now : ViewSeen) → AreParts seen locked → round ≡ None → AreParts (session_seen mesh number (Some now) round printed locked flight frames) locked
  viewed_parts now parts none = record {
    session = record {
      accepted = parts.session.accepted;
      is = record {
        many = parts.session.is.many;
        running = λ r e. absurd (cc);
        flight = λ p e. let refused = parts.session.is.flight p e in record { within = refused.within; free = refused.free };
      };
    };
    many = parts.many;
    flags = parts.flags;
  }

  pub viewed_seen : (now : ViewSeen) (arg : SessionSeen) → seen ≡ with_state arg (round_ended arg.state) → session_seen mesh number (Some now) round printed locked flight frames ≡ with_state arg (with_view now arg.state)
  unfolding with_view
  viewed_seen now arg same = ap (λ (s : SessionSeen). with_state s (record s.state { view = Some now })) same

  -- ---- the least old lock

  pub least_without : is_some round ≡ false → least_old state ≡ position (λ (old : Bool). old) locked
  unfolding least_old old_of
  least_without none = of_round round none
    where
      of_round : (o : Option Refining) → is_some o ≡ false → position (λ (old : Bool). old) (old_of o locked) ≡ position (λ (old : Bool). old) locked
      of_round None e = refl
      of_round (Some r) e = absurd (cc)

  pub least_beside_some : AreParts seen locked → is_some round ≡ true → least_old state ≡ None
  unfolding least_old
  least_beside_some parts some = of_round round refl some
    where
      of_round : (o : Option Refining) → round ≡ o → is_some o ≡ true → position (λ (old : Bool). old) (old_of round locked) ≡ None
      of_round None there e = absurd (cc)
      of_round (Some r) there e = none_first (old_of round locked) (parts.session.is.running r there).no_old

  -- ---- a refused try is withdrawn

  pub withdrawn_within : (p patches : ℕ) → AreParts seen locked → flight ≡ Some p → length mesh.index.fields ≤ patches → p < patches
  withdrawn_within p patches parts there many =
      let refused = parts.session.is.flight p there in
      omega (arith, refused.within, parts.session.is.many)

  pub withdrawn_parts : (p : ℕ) → AreParts seen locked → flight ≡ Some p → AreParts (session_seen mesh number view round printed locked None frames) locked
  withdrawn_parts p parts there =
      changed (without_flight state) (session_seen mesh number view round printed locked None frames) locked parts refl (withdraw_step mesh state parts.session.is p there).keeps refl parts.flags

  -- ---- an old lock is given back

  module _ (p : ℕ) (parts : AreParts seen locked) (there : least_old state ≡ Some p) (none : flight ≡ None) (going : printed ≡ false) where
    least : IsLeast (old_of round locked) p
    least = some_old_in state p there

    pub without_round : round ≡ None
    without_round = no_round mesh parts.session.accepted state parts.session.is none going p least

    pub unlock : IsStep mesh state (stepped (Unlocked p) (without_old state p))
    unlock = unlocked_step mesh parts.session.accepted state parts.session.is none going p least

    pub old_within : p < length locked
    old_within = subst (λ (n : ℕ). p < n) (old_many round locked) least.within

    pub old_below : (patches : ℕ) → length mesh.index.fields ≤ patches → p < patches
    old_below patches many = let within = old_within in omega (arith, parts.many)

    module _ (flags : List Bool) (unlocks : flags ≡ set locked p false) where
      pub unlocked_seen : session_seen mesh number view round printed flags flight frames ≡ with_state seen (without_old state p)
      unlocked_seen = ap (λ (old : List Bool). session_of mesh number (record { view = view; round = round; printed = printed; leftover = old; flight = flight; frames = frames })) (ap (old_of round) unlocks ∙ old_set round locked p without_round)

      pub unlocked_parts : AreParts (session_seen mesh number view round printed flags flight frames) flags
      unlocked_parts =
          changed (without_old state p) (session_seen mesh number view round printed flags flight frames) flags parts unlocked_seen unlock.keeps (set_many locked flags p false unlocks)
          (moves_by (λ q. get_or locked q false) (locks state) (λ q. get_or flags q false) (locks (without_old state p)) p false parts.flags (flag_set_in locked flags p false old_within unlocks) unlock.does.locked)

    pub least_locked : position (λ (old : Bool). old) locked ≡ Some p
    least_locked = sym (least_without (none_there round without_round)) ∙ there

  -- ---- a round begins

  module _ (now : ViewSeen) (parts : AreParts seen locked) (viewed : view ≡ Some now) (no_round_yet : round ≡ None) (no_old : (p : ℕ) → is_left_over state p ≡ false) (none : flight ≡ None) (going : printed ≡ false) where
    pub begun_seen : session_seen mesh number view (Some (begun_round mesh now)) printed locked flight frames ≡ with_state seen (with_round state (begun_round mesh now))
    unfolding old_of
    begun_seen = ap (λ (flags : List Bool). session_of mesh number (record { view = view; round = Some (begun_round mesh now); printed = printed; leftover = flags; flight = flight; frames = frames })) (none_kept round locked no_round_yet no_old)

    pub begun_parts : AreParts (session_seen mesh number view (Some (begun_round mesh now)) printed locked flight frames) locked
    begun_parts =
        let like = begun_like mesh parts.session.accepted state parts.session.is none going now no_round_yet viewed no_old in
        changed (with_round state (begun_round mesh now)) (session_seen mesh number view (Some (begun_round mesh now)) printed locked flight frames) locked parts begun_seen
        (begun_is mesh parts.session.accepted state parts.session.is none going now no_round_yet viewed no_old) refl (λ p. parts.flags p ∙ sym (like.locks_are p))

    pub begun_same : HasSameUses state (session_seen mesh number view (Some (begun_round mesh now)) printed locked flight frames).state
    begun_same =
        let P : SessionSeen → Type 0 = λ s. HasSameUses state s.state in
        subst P (sym begun_seen) (same_of_like state (with_round state (begun_round mesh now)) (begun_like mesh parts.session.accepted state parts.session.is none going now no_round_yet viewed no_old))

  -- ---- a patch is tried

  module _ (p : ℕ) (parts : AreParts seen locked) (asking : IsAsking round (Lock p)) (none : flight ≡ None) (going : printed ≡ false) (epoch : ℕ) where
    abbrev tried : SessionState
    tried = after_try state asking.r p epoch

    pub try : IsStep mesh state (stepped (Tried p epoch) tried)
    try = tried_step mesh state parts.session.is asking.r asking.there none going p epoch asking.asks

    pub tried_within : p < length locked
    tried_within = subst (λ (n : ℕ). p < n) (old_many round locked) try.does.within

    pub tried_below : (patches : ℕ) → length mesh.index.fields ≤ patches → p < patches
    tried_below patches many = let within = tried_within in omega (arith, parts.many)

    module _ (now : Option Refining) (granted : Bool) (refused : Option ℕ) (flags : List Bool) (answers : now ≡ Some (after_answer asking.r p epoch)) (grants : granted ≡ is_odd epoch) (refuses : refused ≡ cond (is_odd epoch) None (Some p)) (sets : flags ≡ set locked p granted) where
      pub tried_seen : session_seen mesh number view now printed flags refused frames ≡ with_state seen tried
      unfolding after_try
      tried_seen =
          ap (λ (o : Option ℕ). session_seen mesh number view now printed flags o frames) refuses
          ∙ ap (λ (old : List Bool). session_of mesh number (record { view = view; round = now; printed = printed; leftover = old; flight = cond (is_odd epoch) None (Some p); frames = frames }))
          (kept_old round now asking.r (after_answer asking.r p epoch) locked flags asking.there answers (set_many locked flags p granted sets))
          ∙ ap (λ (o : Option Refining). session_of mesh number (record { view = view; round = o; printed = printed; leftover = old_of round locked; flight = cond (is_odd epoch) None (Some p); frames = frames })) answers

      pub tried_parts : AreParts (session_seen mesh number view now printed flags refused frames) flags
      tried_parts =
          changed tried (session_seen mesh number view now printed flags refused frames) flags parts tried_seen try.keeps (set_many locked flags p granted sets)
          (moves_by (λ q. get_or locked q false) (locks state) (λ q. get_or flags q false) (locks tried) p granted parts.flags (flag_set_in locked flags p granted tried_within sets)
          (subst (λ (b : Bool). SetAt (locks state) p b (locks tried)) (sym grants) try.does.locked))

  -- ---- a lock is given back

  module _ (p : ℕ) (parts : AreParts seen locked) (asking : IsAsking round (GiveBack p)) (none : flight ≡ None) (going : printed ≡ false) where
    abbrev given : SessionState
    given = with_round state (after_release asking.r)

    pub give : IsStep mesh state (stepped (GaveBack p) given)
    give = given_step mesh state parts.session.is asking.r asking.there none going p asking.asks

    pub given_within : p < length locked
    given_within = subst (λ (n : ℕ). p < n) (old_many round locked) give.does.within

    pub given_below : (patches : ℕ) → length mesh.index.fields ≤ patches → p < patches
    given_below patches many = let within = given_within in omega (arith, parts.many)

    module _ (now : Option Refining) (flags : List Bool) (given_is : now ≡ Some (after_release asking.r)) (unlocks : flags ≡ set locked p false) where
      pub given_seen : session_seen mesh number view now printed flags flight frames ≡ with_state seen given
      given_seen =
          ap (λ (old : List Bool). session_of mesh number (record { view = view; round = now; printed = printed; leftover = old; flight = flight; frames = frames }))
          (kept_old round now asking.r (after_release asking.r) locked flags asking.there given_is (set_many locked flags p false unlocks))
          ∙ ap (λ (o : Option Refining). session_of mesh number (record { view = view; round = o; printed = printed; leftover = old_of round locked; flight = flight; frames = frames })) given_is

      pub given_parts : AreParts (session_seen mesh number view now printed flags flight frames) flags
      given_parts =
          changed given (session_seen mesh number view now printed flags flight frames) flags parts given_seen give.keeps (set_many locked flags p false unlocks)
          (moves_by (λ q. get_or locked q false) (locks state) (λ q. get_or flags q false) (locks given) p false parts.flags (flag_set_in locked flags p false given_within unlocks) give.does.locked)
