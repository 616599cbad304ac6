-- Bodies that may be had at once: those of base patches, and of patches that some session has locked.
use Rattle.std.proofs.Common.{◌≡◌, ℕ, zero, suc, ◌<◌, Bool, true, false, ◌||◌, List, length, Option, Some, None, is_some, refl, ap₂, subst, nat_lt, inl, inr, arith}
use Rattle.std.proofs.Math.Path.{fun_ext}
use Rattle.std.specs.Prelude.{slice_get, IfSome, MatchOption}
use Rattle.std.proofs.lemmas.Bool.{cases_Bool, ltb-true, or_cases}
use Rattle.file_model.specs.Lists.{SeenBody}
use Rattle.mesh_model.specs.Meshes.{MeshLists}
use Rattle.session_model.specs.Sessions.{SessionState}
use Rattle.tier_model.specs.Tiers.{TierState}
use Rattle.token_words.specs.PlainTokens.{is_pinned, is_user, is_locker, is_user-of_locker, words_seen}
use Rattle.token_words.specs.Sessions.{count_to, session_count}
use Rattle.token_words.specs.declared.plain_words.PlainTokens.{PlainTokens}
use Rattle.token_words.specs.declared.session_sets.TheConstants.{SESSIONS}
use Rattle.wish_board.specs.Boards.{BoardSeen}
use Rattle.run_model.specs.Worlds.{World, is_base, patch_count}
use Rattle.run_model.specs.States.{State, seat_uses}
use Rattle.run_model.specs.Safe.{IsSafe, IsHeldAtTop}
use Rattle.run_laws.specs.Sound.{base_within, locked_within}
use Rattle.run_model.specs.Stages.{seat_locks}
use Rattle.live_model.specs.Places.{is_fast}
use Rattle.session_seats.specs.Seats.{SeatsSeen, at_seat, state_of}
use Rattle.view_machine.specs.Machines.{world_with, state_in, IsMachine}

-- the top tier holds the patch, with this body, which is its file's
pub record IsFastBody (w : World) (a : State) (p : ℕ) (body : SeenBody) : Type 0 where
  pub held : IsHeldAtTop w a p
  pub same : held.body ≡ body

-- ---- a set that isn't empty has a session

pub record HasOne (last : ℕ) (is_in : ℕ → Bool) : Type 0 where
  pub session : ℕ
  pub has : is_in session ≡ true

some_to : (last : ℕ) (is_in : ℕ → Bool) → 0 < count_to last is_in → HasOne last is_in
unfolding count_to
some_to zero is_in more = absurd (omega (arith, more))
some_to (suc last) is_in more =
    elim (cases_Bool (is_in (suc last))) [
      | inl there ↦ record { session = suc last; has = there }
      | inr away ↦
          let low : 0 < count_to last is_in = omega (arith, rw away at more) in
          let one = some_to last is_in low in
          record { session = one.session; has = one.has }
    ]

some_in : (is_in : ℕ → Bool) → 0 < session_count is_in → HasOne SESSIONS is_in
unfolding session_count
some_in is_in more = some_to SESSIONS is_in more

-- ---- what may be had at once is held

module _ (w : World) (a : State) (p : ℕ) (safe : IsSafe w a) where
  seat_held : (i : ℕ) (seat : Option SessionState) → a.sessions i ≡ seat → seat_locks seat p ≡ true → (p < patch_count w) × IsHeldAtTop w a p
  seat_held i None at locked = absurd cc
  seat_held i (Some s) at locked = (locked_within w s p (safe.seats i s at) locked, safe.locked_are_held i s p at locked)

  pub fast_held : is_fast w a p ≡ true → (p < patch_count w) × IsHeldAtTop w a p
  fast_held fast =
      let is_in : ℕ → Bool = λ i. seat_locks (a.sessions i) p in
      elim (or_cases (is_base w p) (nat_lt 0 (session_count is_in)) fast) [
        | inl base ↦ (base_within w p base, safe.base_is_held p base)
        | inr locked ↦
            let one = some_in is_in (ltb-true 0 (session_count is_in) locked) in
            seat_held one.session (a.sessions one.session) refl one.has
      ]

-- what was found where it is held
module _ (w : World) (a : State) (p : ℕ) (held : IsHeldAtTop w a p) {X : Type 0} (value : X → SeenBody) where
  there : (o : Option X) → MatchOption o (slice_get held.top.held p ≡ Some None) (λ (x : X). slice_get held.top.held p ≡ Some (Some (value x))) → (is_some o ≡ true) × IfSome o (λ (x : X). IsFastBody w a p (value x))
  there None none = absurd (let holds = held.holds in cc)
  there (Some x) some = let holds = held.holds in let body : held.body ≡ value x = cc in (refl, record { held = held; same = body })

  pub fast_found : (o : Option X) → IfSome (slice_get a.chain.tiers 0) (λ (top : TierState). MatchOption o (slice_get top.held p ≡ Some None) (λ (x : X). slice_get top.held p ≡ Some (Some (value x)))) → (is_some o ≡ true) × IfSome o (λ (x : X). IsFastBody w a p (value x))
  fast_found o gives = there o (subst (λ (t : Option TierState). IfSome t (λ (top : TierState). MatchOption o (slice_get top.held p ≡ Some None) (λ (x : X). slice_get top.held p ≡ Some (Some (value x))))) held.is_top gives)

-- ---- a machine's words tell it

module _ (mesh : MeshLists) (bytes : Option (List ℕ)) (tiers : List TierState) (tokens : PlainTokens) (seats : SeatsSeen) (board : BoardSeen) (is : IsMachine mesh bytes tiers (words_seen tokens) seats board) (p : ℕ) where
  abbrev w : World
  w = world_with mesh bytes tiers

  abbrev a : State
  a = state_in tiers (words_seen tokens) seats board

  no_locker : (i : ℕ) (locks : Bool) → is_locker tokens i p ≡ locks → is_user tokens i p ≡ false → locks ≡ false
  no_locker i false locked unused = refl
  no_locker i true locked unused = absurd (let used = is_user-of_locker tokens i p locked in cc)

  locker_of : (i : ℕ) (seat : Option SessionState) → at_seat seats.sessions i ≡ seat → is_locker tokens i p ≡ seat_locks seat p
  locker_of i None at = no_locker i (is_locker tokens i p) refl (subst (λ (o : Option SessionState). is_user tokens i p ≡ seat_uses o p) at (is.seated.uses_are i p))
  locker_of i (Some s) at = is.seated.locks_are i s at p

  pub fast_word : (is_pinned tokens p || nat_lt 0 (session_count (λ i. is_locker tokens i p))) ≡ is_fast w a p
  unfolding state_of
  fast_word = ap₂ (λ (b : Bool) (locker : ℕ → Bool). b || nat_lt 0 (session_count locker)) (is.pins p) (fun_ext (λ (i : ℕ). locker_of i (at_seat seats.sessions i) refl))

  -- a patch whose body may be had at once is one of the mesh's, and it is held
  pub fast_in : is_fast w a p ≡ true → (p < length mesh.index.fields) × IsHeldAtTop w a p
  fast_in fast = fast_held w a p is.safe fast

  pub fast_gives : {X : Type 0} (value : X → SeenBody) (o : Option X) → is_fast w a p ≡ true
      → IfSome (slice_get tiers 0) (λ (top : TierState). MatchOption o (slice_get top.held p ≡ Some None) (λ (x : X). slice_get top.held p ≡ Some (Some (value x)))) → (is_some o ≡ true) × IfSome o (λ (x : X). IsFastBody w a p (value x))
  unfolding state_of
  fast_gives value o fast gives = fast_found w a p (fast_in fast).1 value o gives
