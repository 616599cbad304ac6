-- How each step changes the locks and the uses of a session, and by how much less is left to do.
use Rattle.std.proofs.Common.{◌≡◌, ◌≢◌, ℕ, ◌+◌, ◌*◌, ◌<◌, ◌⊎◌, Bool, true, false, not, List, [], ◌∷◌, ◌++◌, length, sym, ap, subst, ◌∙◌, arith, inl, inr}
use Rattle.file_model.specs.declared.fields.Try.{Try}
use Rattle.file_model.specs.Tries.{is_odd}
use Rattle.mesh_model.specs.Meshes.{MeshLists}
use Rattle.round_laws.specs.Answers.{try_of}
use Rattle.token_words.specs.Changes.{SetAt, Stays}
use Rattle.session_model.specs.declared.steps.Stepped.{Stepped}
use Rattle.session_model.specs.declared.steps.Stepped.TheVariants.{Unlocked, Tried, Withdrew, GaveBack, Done}
use Rattle.session_model.specs.Locks.{was_tried}
use Rattle.session_model.specs.Sessions.{SessionState, locks, uses}
use Rattle.session_model.specs.Steps.{SessionStep}
use Rattle.session_model.specs.Counts.{count_below, same_count, count_falls}
use Rattle.session_model.specs.SessionStates.{IsSessionState, tries_of, IsLike, like_uses}

-- a patch that wasn't used is tried: it is used, and locked where the epoch is odd
pub record DoesTry (s : SessionState) (p epoch : ℕ) (t : SessionState) : Type 0 where
  pub within : p < length s.leftover
  pub free : uses s p ≡ false
  pub locked : SetAt (locks s) p (is_odd epoch) (locks t)
  pub used : SetAt (uses s) p true (uses t)

-- a lock is given back
pub record DoesUnlock (s : SessionState) (p : ℕ) (t : SessionState) : Type 0 where
  pub within : p < length s.leftover
  pub held : locks s p ≡ true
  pub locked : SetAt (locks s) p false (locks t)
  pub used : SetAt (uses s) p false (uses t)

-- a refused try ends
pub record DoesWithdraw (s : SessionState) (p : ℕ) (t : SessionState) : Type 0 where
  pub within : p < length s.leftover
  pub tried : uses s p ≡ true
  pub free : locks s p ≡ false
  pub locked : Stays (locks s) (locks t)
  pub used : SetAt (uses s) p false (uses t)

-- nothing changes
pub record DoesNothing (s t : SessionState) : Type 0 where
  pub locked : Stays (locks s) (locks t)
  pub used : Stays (uses s) (uses t)

-- what the step's answer says of the locks and the uses
abbrev pub Does : SessionState → Stepped → SessionState → Type 0
Does s (Tried p epoch) t = DoesTry s p epoch t
Does s (Unlocked p) t = DoesUnlock s p t
Does s (GaveBack p) t = DoesUnlock s p t
Does s (Withdrew p) t = DoesWithdraw s p t
Does s Done t = DoesNothing s t

-- ---- of sessions that are alike

set_like : {A : Type 0} (f g h : ℕ → A) (p : ℕ) (value : A) → ((q : ℕ) → g q ≡ f q) → SetAt g p value h → SetAt f p value h
set_like f g h p value same set = record { here = set.here; others = λ q apart. set.others q apart ∙ same q }

unlock_like : (s t u : SessionState) (p : ℕ) → IsLike s t → DoesUnlock t p u → DoesUnlock s p u
unlock_like s t u p like does = record {
  within = subst (λ (n : ℕ). p < n) like.many does.within;
  held = sym (like.locks_are p) ∙ does.held;
  locked = set_like (locks s) (locks t) (locks u) p false like.locks_are does.locked;
  used = set_like (uses s) (uses t) (uses u) p false (like_uses s t like) does.used;
}

pub does_like : (s t u : SessionState) (did : Stepped) → IsLike s t → Does t did u → Does s did u
does_like s t u (Tried p epoch) like does = record {
  within = subst (λ (n : ℕ). p < n) like.many does.within;
  free = sym (like_uses s t like p) ∙ does.free;
  locked = set_like (locks s) (locks t) (locks u) p (is_odd epoch) like.locks_are does.locked;
  used = set_like (uses s) (uses t) (uses u) p true (like_uses s t like) does.used;
}
does_like s t u (Unlocked p) like does = unlock_like s t u p like does
does_like s t u (GaveBack p) like does = unlock_like s t u p like does
does_like s t u (Withdrew p) like does = record {
  within = subst (λ (n : ℕ). p < n) like.many does.within;
  tried = sym (like_uses s t like p) ∙ does.tried;
  free = sym (like.locks_are p) ∙ does.free;
  locked = λ q. does.locked q ∙ like.locks_are q;
  used = set_like (uses s) (uses t) (uses u) p false (like_uses s t like) does.used;
}
does_like s t u Done like does = record { locked = λ q. does.locked q ∙ like.locks_are q; used = λ q. does.used q ∙ like_uses s t like q }

-- ---- what is left to do

-- the round that goes on, or the one that follows, hasn't tried the patch
abbrev pub is_untried : SessionState → ℕ → Bool
is_untried s p = not (was_tried (tries_of s) p)

-- each patch that the round may still try counts twice, each use once
unfoldable pub steps_left : SessionState → ℕ
steps_left s = 2 * count_below (length s.leftover) (is_untried s) + count_below (length s.leftover) (uses s)

left_like : (s t : SessionState) → IsLike s t → tries_of t ≡ tries_of s → steps_left t ≡ steps_left s
unfolding steps_left
left_like s t like tries =
    let untried = same_count (length s.leftover) (is_untried s) (is_untried t) (λ q. ap (λ (ts : List Try). not (was_tried ts q)) tries) in
    let used = same_count (length s.leftover) (uses s) (uses t) (like_uses s t like) in
    rw like.many (omega (arith, untried, used))

-- a use ends
pub less_by_use : (s t : SessionState) (p : ℕ) → length t.leftover ≡ length s.leftover → tries_of t ≡ tries_of s → p < length s.leftover → uses s p ≡ true → SetAt (uses s) p false (uses t) → steps_left t < steps_left s
unfolding steps_left
less_by_use s t p many tries within used set =
    let untried = same_count (length s.leftover) (is_untried s) (is_untried t) (λ q. ap (λ (ts : List Try). not (was_tried ts q)) tries) in
    let falls = count_falls (length s.leftover) p (uses s) (uses t) within used set.here set.others in
    rw many (omega (arith, untried, falls))

-- a patch is tried
pub less_by_try : (s t : SessionState) (p : ℕ) → length t.leftover ≡ length s.leftover → p < length s.leftover → was_tried (tries_of s) p ≡ false → was_tried (tries_of t) p ≡ true → ((q : ℕ) → q ≢ p → was_tried (tries_of t) q ≡ was_tried (tries_of s) q) → uses s p ≡ false → SetAt (uses s) p true (uses t) → steps_left t < steps_left s
unfolding steps_left
less_by_try s t p many within before now others free set =
    let untried = count_falls (length s.leftover) p (is_untried s) (is_untried t) within (ap not before) (ap not now) (λ q apart. ap not (others q apart)) in
    let used = count_falls (length s.leftover) p (uses t) (uses s) within set.here free (λ q apart. sym (set.others q apart)) in
    rw many (omega (arith, untried, used))

-- ---- one step

-- the tries that a step made
abbrev pub tries_in : Stepped → List Try
tries_in (Tried p epoch) = try_of p epoch ∷ []
tries_in _ = []

-- a step of a session over a mesh: the locks and the uses change as it says, the tries of the round that goes
-- on grow by those made, and less is left to do unless it was done
pub record IsStep (mesh : MeshLists) (s : SessionState) (result : SessionStep) : Type 0 where
  pub does : Does s result.did result.state
  pub keeps : IsSessionState mesh result.state
  pub view : result.state.view ≡ s.view
  pub tries : tries_of result.state ≡ tries_of s ++ tries_in result.did
  pub lowers : (result.did ≡ Done) ⊎ (steps_left result.state < steps_left s)

pub step_like : (mesh : MeshLists) (s t : SessionState) (result : SessionStep) → IsLike s t → tries_of t ≡ tries_of s → IsStep mesh t result → IsStep mesh s result
step_like mesh s t result like tries is = record {
  does = does_like s t result.state result.did like is.does;
  keeps = is.keeps;
  view = is.view ∙ like.view;
  tries = is.tries ∙ ap (λ (ts : List Try). ts ++ tries_in result.did) tries;
  lowers = elim is.lowers [ inl done ↦ inl done | inr less ↦ inr (subst (λ (n : ℕ). steps_left result.state < n) (left_like s t like tries) less) ];
}
