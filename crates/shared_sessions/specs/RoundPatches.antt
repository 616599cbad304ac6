-- The patches of a round's frame: the session's seat has each of them locked, but for the base patches.
use Rattle.std.proofs.Common.{◌≡◌, ◌⊎◌, ℕ, ◌<◌, true, false, ◌||◌, length, Option, Some, sym, ap, subst, ◌∙◌, inl, inr}
use Rattle.std.specs.Option.{option_map_or}
use Rattle.std.proofs.lemmas.Bool.{or_right}
use Rattle.std.proofs.lemmas.Option.{slice_get_within}
use Rattle.atomic_table.specs.Seated.{TableId}
use Rattle.mesh_model.specs.Frames.{leads_out}
use Rattle.mesh_model.specs.Meshes.{MeshLists}
use Rattle.round_model.specs.Rounds.{has as is_in}
use Rattle.round_model.specs.Refiners.{Refining, round_state, cut_patches}
use Rattle.round_laws.specs.Among.{is_among}
use Rattle.round_laws.specs.Arcs.{is_from, passing_at, among_passing}
use Rattle.session_model.specs.Locks.{round_locks}
use Rattle.session_model.specs.Sessions.{is_left_over}
use Rattle.session_laws.specs.StateLaws.{running_mesh}
use Rattle.session_laws.specs.FrameLocks.{frame_is_base_or_locked}
use Rattle.session_locks.specs.Sessions.{SessionSeen, IsSession}
use Rattle.tier_model.specs.Places.{is_marked}
use Rattle.tier_model.specs.Tiers.{base_marks}
use Rattle.token_table.specs.Known.{has}
use Rattle.token_table.specs.Seats.{SessionSeen as SeatSeen}
use Rattle.run_laws.specs.OpeningLaws.{base_is_marked}
use Rattle.shared_sessions.specs.SharedSeats.{HasSeat}

-- the patch is one of the mesh's, and is a base patch or locked by the seat
pub record IsBaseOrLocked (mesh : MeshLists) (seat : SeatSeen) (p : ℕ) : Type 0 where
  pub within : p < length mesh.index.fields
  pub there : (is_marked (base_marks mesh.index.fields) p ≡ true) ⊎ (has seat.own.locks p ≡ true)

frame_within : (r : Refining) (p : ℕ) → is_among (cut_patches r) p ≡ true → p < length r.rules.mesh.index.fields
unfolding cut_patches
frame_within r p among =
    let fields = r.rules.mesh.index.fields in
    let test = leads_out (is_in (round_state r).set) in
    let is = passing_at test fields p (sym (among_passing test fields p) ∙ among) in
    slice_get_within fields p is.field is.there

pub round_patch : (table : TableId) (seat : SeatSeen) (seen : SessionSeen) → HasSeat table seat seen → IsSession seen
    → (r : Refining) → seen.state.round ≡ Some r → (p : ℕ) → is_among (cut_patches r) p ≡ true
    → IsBaseOrLocked seen.mesh seat p
round_patch table seat seen pass facts r there p among =
    let s = seen.state in
    let running = facts.is.running r there in
    let same : r.rules.mesh ≡ seen.mesh = running_mesh seen.mesh s r running in
    record {
      within = subst (λ (m : MeshLists). p < length m.index.fields) same (frame_within r p among);
      there = elim (frame_is_base_or_locked r running.refining p among) [
        | inl base ↦ inl (sym (base_is_marked seen.mesh facts.accepted p)
            ∙ subst (λ (m : MeshLists). is_from m.index.fields m.root p ≡ true) same base)
        | inr held ↦ inr (pass.locks_are p
            ∙ (ap (λ (o : Option Refining). is_left_over s p || option_map_or
            (λ (q : Refining). round_locks q p) o false) there
            ∙ or_right (is_left_over s p) (round_locks r p) held))
      ];
    }
