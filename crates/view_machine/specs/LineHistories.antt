-- How far sessions have come after a line, and how many frames they printed, from what is told of them.
use Rattle.std.proofs.Common.{◌≡◌, ℕ, ◌+◌, ◌<◌, ◌≤◌, ◌^◌, eqb, List, Option, Some, None, refl, sym, ap, subst, ◌∙◌, arith, inl, inr}
use Rattle.std.specs.Option.{option_map, option_map_or}
use Rattle.std.proofs.Math.Path.{fun_ext}
use Rattle.std.proofs.lemmas.Bool.{cases_eq, cond-false, cond-true, eq-eqb, ne_eqb}
use Rattle.script_model.specs.declared.stages.SessionStage.{SessionStage}
use Rattle.script_model.specs.declared.stages.SessionStage.TheVariants.{Closed}
use Rattle.script_model.specs.Histories.{with_stage}
use Rattle.session_model.specs.Sessions.{SessionState}
use Rattle.token_words.specs.Changes.{SetAt, Stays}
use Rattle.session_seats.specs.Seats.{at_seat, seat_told}
use Rattle.session_model.specs.Told.{SessionTold, session_told}
use Rattle.view_machine.specs.LineEnds.{viewed_stage, stage_of, stages_in, frames_at}

-- ---- what is told tells the stage and the frames

abbrev pub told_stage : Option SessionTold → SessionStage
told_stage None = Closed
told_stage (Some told) = viewed_stage told.view

abbrev pub told_frames : Option SessionTold → ℕ
told_frames told = option_map_or (λ (t : SessionTold). t.frames) told 0

stage_told : (o : Option SessionState) → stage_of o ≡ told_stage (option_map session_told o)
stage_told None = refl
stage_told (Some s) = refl

frames_told : (o : Option SessionState) → option_map_or (λ (s : SessionState). s.frames) o 0 ≡ told_frames (option_map session_told o)
frames_told None = refl
frames_told (Some s) = refl

pub told_is : (sessions : List (Option SessionState)) (i : ℕ) (s : SessionState) → at_seat sessions i ≡ Some s → seat_told sessions i ≡ Some (session_told s)
told_is sessions i s at = ap (λ (o : Option SessionState). option_map session_told o) at

pub frames_open : (sessions : List (Option SessionState)) (i : ℕ) (s : SessionState) → at_seat sessions i ≡ Some s → frames_at sessions i ≡ s.frames
frames_open sessions i s at = ap (λ (o : Option SessionState). option_map_or (λ (t : SessionState). t.frames) o 0) at

-- an open session printed few frames
pub few_of : (sessions : List (Option SessionState)) (i : ℕ) → frames_at sessions i < 2 ^ 63 → (s : SessionState) → at_seat sessions i ≡ Some s → s.frames < 2 ^ 63
few_of sessions i few s at = subst (λ (n : ℕ). n < 2 ^ 63) (frames_open sessions i s at) few

-- a session that has come as far as before
pub stage_again : (sessions : List (Option SessionState)) (i : ℕ) (s : SessionState) → at_seat sessions i ≡ Some s → with_stage i (viewed_stage s.view) (stages_in sessions) ≡ stages_in sessions
stage_again sessions i s at =
    fun_ext (λ (j : ℕ). elim (cases_eq j i) [
      | inl same ↦ cond-true (eqb j i) (viewed_stage s.view) (stages_in sessions j) (eq-eqb j i same) ∙ sym (ap (stages_in sessions) same ∙ ap stage_of at)
      | inr ne ↦ cond-false (eqb j i) (viewed_stage s.view) (stages_in sessions j) (ne_eqb j i ne)
    ])

-- ---- one session's number

module _ (old new : List (Option SessionState)) (i : ℕ) (value : Option SessionTold) (sets : SetAt (seat_told old) i value (seat_told new)) where
  stage_then : (j : ℕ) → stage_of (at_seat new j) ≡ with_stage i (told_stage value) (stages_in old) j
  stage_then j =
      elim (cases_eq j i) [
        | inl same ↦
            stage_told (at_seat new j) ∙ ap told_stage (ap (seat_told new) same ∙ sets.here)
            ∙ sym (cond-true (eqb j i) (told_stage value) (stages_in old j) (eq-eqb j i same))
        | inr ne ↦
            stage_told (at_seat new j) ∙ ap told_stage (sets.others j ne) ∙ sym (stage_told (at_seat old j))
            ∙ sym (cond-false (eqb j i) (told_stage value) (stages_in old j) (ne_eqb j i ne))
      ]

  -- the session at this number has come so far, and the others as far as before
  pub stages_set : stages_in new ≡ with_stage i (told_stage value) (stages_in old)
  stages_set = fun_ext stage_then

  pub frames_set : told_frames value ≤ frames_at old i + 1 → (j : ℕ) → frames_at new j ≤ frames_at old j + 1
  frames_set most j =
      elim (cases_eq j i) [
        | inl same ↦
            let is : frames_at new i ≡ told_frames value = frames_told (at_seat new i) ∙ ap told_frames sets.here in
            subst (λ (n : ℕ). frames_at new n ≤ frames_at old n + 1) (sym same) (omega (arith, is, most))
        | inr ne ↦
            let is : frames_at new j ≡ frames_at old j = frames_told (at_seat new j) ∙ ap told_frames (sets.others j ne) ∙ sym (frames_told (at_seat old j)) in
            omega (arith, is)
      ]

module _ (old new : List (Option SessionState)) (stays : Stays (seat_told old) (seat_told new)) where
  -- each session has come as far as before
  pub stages_stay : stages_in new ≡ stages_in old
  stages_stay = fun_ext (λ (j : ℕ). stage_told (at_seat new j) ∙ ap told_stage (stays j) ∙ sym (stage_told (at_seat old j)))

  -- and printed as many frames
  pub frames_kept : (j : ℕ) → frames_at new j ≡ frames_at old j
  frames_kept j = frames_told (at_seat new j) ∙ ap told_frames (stays j) ∙ sym (frames_told (at_seat old j))

  pub frames_stay : (j : ℕ) → frames_at new j ≤ frames_at old j + 1
  frames_stay j = let is : frames_at new j ≡ frames_at old j = frames_kept j in omega (arith, is)
