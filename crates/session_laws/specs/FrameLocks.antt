-- The patches of a round's frame are locked, but for those that lead from the root.
use Rattle.std.proofs.Common.{◌≡◌, ℕ, ◌⊎◌, Bool, true, false, ◌||◌, Option, Some, sym, ap, subst, ◌∙◌, inl, inr}
use Rattle.std.specs.Option.{option_map_or}
use Rattle.std.proofs.lemmas.Bool.{cases_eq, or_right}
use Rattle.mesh_model.specs.Frames.{leads_out}
use Rattle.round_model.specs.Rounds.{has}
use Rattle.round_model.specs.Refiners.{Refining, round_state, cut_patches}
use Rattle.round_laws.specs.Among.{is_among}
use Rattle.mesh_model.specs.Meshes.{MeshLists, IsMesh}
use Rattle.round_model.specs.Views.{ViewSeen}
use Rattle.session_model.specs.declared.steps.Stepped.TheVariants.{Done}
use Rattle.session_model.specs.Locks.{round_locks}
use Rattle.session_model.specs.Sessions.{SessionState, is_left_over, locks}
use Rattle.session_model.specs.Steps.{step}
use Rattle.session_model.specs.SessionStates.{IsSessionState}
use Rattle.session_laws.specs.StepLaws.{step_is}
use Rattle.session_model.specs.DoneRounds.{HasDone}
use Rattle.session_laws.specs.DoneLaws.{step_done}
use Rattle.round_laws.specs.Arcs.{is_from, is_from_tail, IsPassing, passing_at, among_passing}
use Rattle.session_laws.specs.Refinings.{frame_is_locked}
use Rattle.session_model.specs.GoingRounds.{IsRefining}

-- a base patch leads from the root
abbrev pub is_base : Refining → ℕ → Bool
is_base r p = is_from r.rules.mesh.index.fields r.rules.mesh.root p

pub frame_is_base_or_locked : (r : Refining) → IsRefining r → (p : ℕ) → is_among (cut_patches r) p ≡ true → (is_base r p ≡ true) ⊎ (round_locks r p ≡ true)
unfolding cut_patches
frame_is_base_or_locked r refining p there =
    by_tail (passing_at (leads_out (has (round_state r).set)) r.rules.mesh.index.fields p (sym (among_passing (leads_out (has (round_state r).set)) r.rules.mesh.index.fields p) ∙ there))
  where
    by_tail : IsPassing (leads_out (has (round_state r).set)) r.rules.mesh.index.fields p → (is_base r p ≡ true) ⊎ (round_locks r p ≡ true)
    by_tail is =
        elim (cases_eq r.rules.mesh.root is.field.tail) [
          | inl same ↦ inl (subst (λ (v : ℕ). is_from r.rules.mesh.index.fields v p ≡ true) (sym same) (is_from_tail r.rules.mesh.index.fields p is.field is.there))
          | inr other ↦ inr (frame_is_locked r refining p is.field is.there is.passes other)
        ]

-- the session's round is done, and each patch of its frame is a base patch or locked
pub record IsLockedFrame (s : SessionState) : Type 0 where
  pub has : HasDone s
  pub locked : (p : ℕ) → is_among (cut_patches has.round) p ≡ true → (is_base has.round p ≡ true) ⊎ (locks s p ≡ true)

pub done_frame_is_locked : (mesh : MeshLists) → IsMesh mesh → (s : SessionState) → IsSessionState mesh s → (view : ViewSeen) → s.view ≡ Some view → (epoch : ℕ) → (step mesh s epoch).did ≡ Done → IsLockedFrame (step mesh s epoch).state
done_frame_is_locked mesh accepted s is view viewed epoch done =
    let has = step_done mesh epoch s is view viewed done in
    let after = (step mesh s epoch).state in
    let running = (step_is mesh accepted s is epoch).keeps.running has.round has.there in
    record {
      has = has;
      locked = λ p there. elim (frame_is_base_or_locked has.round running.refining p there) [
        | inl base ↦ inl base
        | inr held ↦ inr (ap (λ (o : Option Refining). is_left_over after p || option_map_or (λ (r : Refining). round_locks r p) o false) has.there ∙ or_right (is_left_over after p) (round_locks has.round p) held)
      ];
    }
