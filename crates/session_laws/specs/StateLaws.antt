-- Sessions over a mesh stay so where a round ends, a view is set or a frame is printed, and so do their locks.
use Rattle.std.proofs.Common.{◌≡◌, ℕ, ◌<◌, Bool, true, false, ◌||◌, cond, [], length, map, get_or, replicate, Option, Some, None, refl, sym, ap, subst, ◌∙◌, arith, inl, inr}
use Rattle.std.specs.List.{range_with_len}
use Rattle.std.specs.Option.{option_map_or}
use Rattle.std.proofs.lemmas.Bool.{cond_both, cases_lt, or_cases, false_from_ne_true}
use Rattle.std.proofs.lemmas.List.{get_or_past, get_or-replicate, length-replicate}
use Rattle.std.proofs.lemmas.List.FromFn.{get_or-map-range_with_len, length-map-range_with_len}
use Rattle.mesh_model.specs.Meshes.{MeshLists}
use Rattle.round_model.specs.Order.{Rules}
use Rattle.round_model.specs.Views.{ViewSeen, rules_of, view_rules}
use Rattle.round_model.specs.Refiners.{Refining}
use Rattle.session_model.specs.Locks.{round_locks}
use Rattle.session_laws.specs.Refinings.{locked_within}
use Rattle.session_model.specs.Sessions.{SessionState, is_left_over, locks, uses, opened, round_ended, settled, with_view, printed_once, counted_from}
use Rattle.session_model.specs.SessionStates.{IsRunning, IsSessionState, tries_of, IsLike, like_itself}

-- the rules of a view are of the mesh
pub rules_mesh : (view : ViewSeen) (mesh : MeshLists) → (view_rules view mesh).mesh ≡ mesh
unfolding rules_of
rules_mesh view mesh = refl

pub running_mesh : (mesh : MeshLists) (s : SessionState) (r : Refining) → IsRunning mesh s r → r.rules.mesh ≡ mesh
running_mesh mesh s r running = ap (λ (rules : Rules). rules.mesh) running.rules ∙ rules_mesh running.view mesh

left_over_within : (s : SessionState) (p : ℕ) → is_left_over s p ≡ true → p < length s.leftover
left_over_within s p is =
    elim (cases_lt p (length s.leftover)) [
      | inl less ↦ less
      | inr more ↦ absurd (let past = get_or_past s.leftover p false more in cc)
    ]

-- what is locked is a patch of the mesh
pub locks_within : (mesh : MeshLists) (s : SessionState) → IsSessionState mesh s → (p : ℕ) → locks s p ≡ true → p < length s.leftover
locks_within mesh s is p locked =
    elim (or_cases (is_left_over s p) (option_map_or (λ (r : Refining). round_locks r p) s.round false) locked) [
      | inl old ↦ left_over_within s p old
      | inr held ↦ of_round s.round refl held
    ]
  where
    of_round : (round : Option Refining) → s.round ≡ round → option_map_or (λ (r : Refining). round_locks r p) round false ≡ true → p < length s.leftover
    of_round None none held = absurd (cc)
    of_round (Some r) there held =
        let running = is.running r there in
        let within = locked_within r running.refining p held in
        subst (λ (n : ℕ). p < n) (ap (λ (m : MeshLists). length m.index.fields) (running_mesh mesh s r running) ∙ sym is.many) within

-- a session without a round, an old lock and a refused try uses nothing
pub none_used : (s : SessionState) → s.round ≡ None → ((p : ℕ) → is_left_over s p ≡ false) → s.flight ≡ None → (p : ℕ) → uses s p ≡ false
none_used s no_round no_old no_flight p = rw no_round (rw no_flight (rw (no_old p) refl))

-- ---- the round ends

pub ended_locks : (mesh : MeshLists) (s : SessionState) → IsSessionState mesh s → (p : ℕ) → locks (round_ended s) p ≡ locks s p
unfolding round_ended
ended_locks mesh s is p =
    let flags = map (locks s) (range_with_len 0 (length s.leftover)) in
    elim (cases_lt p (length s.leftover)) [
      | inl less ↦ or_false (get_or flags p false) ∙ get_or-map-range_with_len (locks s) 0 (length s.leftover) p p false less (omega arith)
      | inr more ↦
          let many = length-map-range_with_len (locks s) 0 (length s.leftover) in
          or_false (get_or flags p false)
          ∙ get_or_past flags p false (omega (arith, many))
          ∙ sym (false_from_ne_true (locks s p) (λ locked. let within = locks_within mesh s is p locked in omega arith))
    ]
  where
    or_false : (t : Bool) → (t || false) ≡ t
    or_false true = refl
    or_false false = refl

pub ended_many : (s : SessionState) → length (round_ended s).leftover ≡ length s.leftover
unfolding round_ended
ended_many s = length-map-range_with_len (locks s) 0 (length s.leftover)

pub ended_no_round : (s : SessionState) → (round_ended s).round ≡ None
unfolding round_ended
ended_no_round s = refl

pub ended_is : (mesh : MeshLists) (s : SessionState) → IsSessionState mesh s → IsSessionState mesh (round_ended s)
unfolding round_ended
ended_is mesh s is = record {
  many = ended_many s ∙ is.many;
  running = λ r there. absurd (cc);
  flight = λ p there.
      let refused = is.flight p there in
      record { within = subst (λ (n : ℕ). p < n) (sym (ended_many s)) refused.within; free = ended_locks mesh s is p ∙ refused.free };
}

pub ended_like : (mesh : MeshLists) (s : SessionState) → IsSessionState mesh s → IsLike s (round_ended s)
unfolding round_ended
ended_like mesh s is = record { view = refl; many = ended_many s; locks_are = ended_locks mesh s is; flight = refl }

pub settled_is : (mesh : MeshLists) (s : SessionState) → IsSessionState mesh s → IsSessionState mesh (settled s)
unfolding settled
settled_is mesh s is = cond_both s.printed (round_ended s) s (IsSessionState mesh) (λ printed. ended_is mesh s is) (λ going. is)

pub settled_like : (mesh : MeshLists) (s : SessionState) → IsSessionState mesh s → IsLike s (settled s)
unfolding settled
settled_like mesh s is = cond_both s.printed (round_ended s) s (IsLike s) (λ printed. ended_like mesh s is) (λ going. like_itself s)

pub settled_tries : (s : SessionState) → tries_of (settled s) ≡ tries_of s
unfolding settled round_ended
settled_tries s =
    cond_both s.printed (round_ended s) s (λ (t : SessionState). tries_of t ≡ tries_of s)
    (λ printed. sym (ap (λ (t : Bool). option_map_or (λ (r : Refining). r.tries) (cond t None s.round) []) printed)) (λ going. refl)

-- a settled session's round isn't printed
pub settled_going : (s : SessionState) → (settled s).printed ≡ false
unfolding settled round_ended
settled_going s = cond_both s.printed (round_ended s) s (λ (t : SessionState). t.printed ≡ false) (λ printed. refl) (λ going. going)

-- ---- other changes

pub opened_is : (mesh : MeshLists) → IsSessionState mesh (opened (length mesh.index.fields))
unfolding opened
opened_is mesh = record {
  many = length-replicate (length mesh.index.fields) false;
  running = λ r there. absurd (cc);
  flight = λ p there. absurd (cc);
}

pub none_left_over : (n p : ℕ) → get_or (replicate n false) p false ≡ false
none_left_over n p =
    elim (cases_lt p n) [
      | inl less ↦ get_or-replicate n p false false less
      | inr more ↦ get_or_past (replicate n false) p false (let many = length-replicate n false in omega (arith, many))
    ]

pub opened_uses : (patches p : ℕ) → uses (opened patches) p ≡ false
unfolding opened
opened_uses patches p = ap (λ (t : Bool). (t || false) || false) (none_left_over patches p)

pub viewed_is : (mesh : MeshLists) (s : SessionState) (view : ViewSeen) → IsSessionState mesh s → IsSessionState mesh (with_view view s)
unfolding with_view round_ended
viewed_is mesh s view is = let ended = ended_is mesh s is in record {
  many = ended.many;
  running = λ r there. absurd (cc);
  flight = λ p there. let refused = ended.flight p there in record { within = refused.within; free = refused.free };
}

pub viewed_locks : (mesh : MeshLists) (s : SessionState) (view : ViewSeen) → IsSessionState mesh s → (p : ℕ) → locks (with_view view s) p ≡ locks s p
unfolding with_view
viewed_locks mesh s view is p = ended_locks mesh s is p

pub printed_is : (mesh : MeshLists) (s : SessionState) → IsSessionState mesh s → IsSessionState mesh (printed_once s)
unfolding printed_once
printed_is mesh s is = record {
  many = is.many;
  running = λ r there. let running = is.running r there in record { refining = running.refining; view = running.view; viewed = running.viewed; rules = running.rules; no_old = running.no_old };
  flight = λ p there. let refused = is.flight p there in record { within = refused.within; free = refused.free };
}

pub printed_locks : (s : SessionState) (p : ℕ) → locks (printed_once s) p ≡ locks s p
unfolding printed_once
printed_locks s p = refl

pub counted_is : (mesh : MeshLists) (s : SessionState) (frames : ℕ) → IsSessionState mesh s → IsSessionState mesh (counted_from frames s)
unfolding counted_from
counted_is mesh s frames is = record {
  many = is.many;
  running = λ r there. let running = is.running r there in record { refining = running.refining; view = running.view; viewed = running.viewed; rules = running.rules; no_old = running.no_old };
  flight = λ p there. let refused = is.flight p there in record { within = refused.within; free = refused.free };
}

pub counted_locks : (s : SessionState) (frames p : ℕ) → locks (counted_from frames s) p ≡ locks s p
unfolding counted_from
counted_locks s frames p = refl

pub counted_uses : (s : SessionState) (frames p : ℕ) → uses (counted_from frames s) p ≡ uses s p
unfolding counted_from
counted_uses s frames p = refl
