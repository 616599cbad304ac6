use Rattle.std.proofs.Common.{◌≡◌, ℕ, ◌+◌, List, map, Option, Some, sym, ap, subst, ◌∙◌}
use Rattle.std.specs.Arc.{arc_value}
use Rattle.std.specs.List.{AllByRecursion}
use Rattle.frame_writer.specs.Frames.{AreBodiesOf}
use Rattle.frame_writer.specs.Frames.{frame_of as text_frame}
use Rattle.std.proofs.lemmas.Option.{same_Some}
use Rattle.view_outside.specs.Files.{file_bytes}
use Rattle.round_model.specs.Refiners.{Refining, cut_of, cut_patches}
use Rattle.session_model.specs.Sessions.{SessionState}
use Rattle.session_model.specs.DoneRounds.{HasDone}
use Rattle.token_words.specs.PlainTokens.{words_seen}
use Rattle.run_model.specs.Lines.{top_body}
use Rattle.session_seats.specs.Seats.{SeatsSeen, at_seat, IsDoneAt}
use Rattle.view_machine.specs.FrameSeats.{shown_at_top}
use Rattle.view_machine.specs.FrameLines.{bodies_of_patches, round_frame}
use Rattle.view_machine.specs.Machines.{MachineSeen, world_of, world_with}
use Rattle.view_machine.specs.ShownFrames.{IsRoundShown, IsBodyAtTop, round_bodies}
use Rattle.view_machine.proofs.machines.Machine.shown_of_round.Goals as goal

is_done : (m : SeatsSeen) (i : ℕ) (seen : SeatsSeen) → m ≡ seen → IsDoneAt seen.sessions i → IsDoneAt m.sessions i
is_done m i seen is done = subst (λ (seats : SeatsSeen). IsDoneAt seats.sessions i) (sym is) done

-- the round at a seat, where it is done
round_is : (sessions : List (Option SessionState)) (i : ℕ) (round : Refining) → ((s : SessionState) → at_seat sessions i ≡ Some s → s.round ≡ Some round) → (s : SessionState) → at_seat sessions i ≡ Some s → (done : HasDone s) → done.round ≡ round
round_is sessions i round rounds s at done = same_Some done.round round (sym done.there ∙ rounds s at)

pub round-round-requires : goal.round-round-requires
round-round-requires g c =
    let d = is_done c.self.inside.seats c.args.session c.args.self.now.seats (ap (λ (m : MachineSeen g.row.S.Denot). m.seats) c.self.view_is) c.requires.done in
    record { session = d.session; at = d.at; round = d.done.round; there = d.done.there }

pub shared_bodies-requires : goal.shared_bodies-requires
shared_bodies-requires g c =
    let m = c.self.inside in
    let d = is_done m.seats c.args.session c.args.self.now.seats (ap (λ (seen : MachineSeen g.row.S.Denot). seen.seats) c.self.view_is) c.requires.done in
    shown_at_top m.chain.mesh.lists (file_bytes (g.S.Store.files m.chain.store) m.chain.file) m.chain.tiers (words_seen m.words) m.seats m.board c.self.invariant c.args.session c.round-round.result.now c.round-round.ensures d c.patches-shown.result.now c.patches-shown.ensures.patches

-- the bodies are those of the patches
pub new-requires-clause-bodies : goal.new-requires-clause-bodies
new-requires-clause-bodies g c =
    let m = c.self.inside in
    let d = is_done m.seats c.args.session c.args.self.now.seats (ap (λ (seen : MachineSeen g.row.S.Denot). seen.seats) c.self.view_is) c.requires.done in
    let patches = c.patches-shown.result.now in
    let top = shown_at_top m.chain.mesh.lists (file_bytes (g.S.Store.files m.chain.store) m.chain.file) m.chain.tiers (words_seen m.words) m.seats m.board c.self.invariant c.args.session c.round-round.result.now c.round-round.ensures d patches c.patches-shown.ensures.patches in
    let are : map arc_value c.in_ok-bodies.bodies.items ≡ map (top_body m.chain.tiers) patches = c.in_ok-bodies.ensures in
    subst (λ (ps : List ℕ). AreBodiesOf ps (map arc_value c.in_ok-bodies.bodies.items)) (sym c.in_ok-patches.ensures.items)
    (subst (AreBodiesOf patches) (sym are) (bodies_of_patches m.chain.mesh.lists.index.fields m.chain.tiers patches top))

pub returns : goal.returns
returns g c =
    let m = c.self.inside in
    let i = c.args.session in
    let bytes = file_bytes (g.S.Store.files m.chain.store) m.chain.file in
    let e = c.new.ensures in
    subst (λ (seen : MachineSeen g.row.S.Denot). (s : SessionState) (done : HasDone s) → at_seat seen.seats.sessions i ≡ Some s → IsRoundShown (world_of seen) seen.chain.tiers i s done.round c.new.result) c.self.view_is
    (λ s done at.
    let same = round_is m.seats.sessions i c.round-round.result.now c.round-round.ensures s at done in
    let shown : c.patches-shown.result.now ≡ cut_patches done.round = c.patches-shown.ensures.patches ∙ ap cut_patches (sym same) in
    let bodies : c.new.result.bodies ≡ map (top_body m.chain.tiers) (cut_patches done.round) = e.bodies ∙ c.in_ok-bodies.ensures ∙ ap (map (top_body m.chain.tiers)) shown in
    record {
      frame =
          ap (λ (n : ℕ). text_frame n c.new.result.number c.new.result.cut c.new.result.tries c.new.result.patches c.new.result.bodies) e.session
          ∙ round_frame m.chain.tiers i s done.round c.new.result.number c.new.result.cut c.new.result.tries c.new.result.patches c.new.result.bodies
          (e.number ∙ ap (λ (n : ℕ). n + 1) (c.frames-number.ensures.value s at))
          (e.cut ∙ c.in_ok-cut.ensures.items ∙ c.cut.ensures.nodes ∙ ap cut_of (sym same))
          (e.tries ∙ c.in_ok-tries.ensures.items ∙ c.tries.ensures.value ∙ ap (λ (r : Refining). r.tries) (sym same))
          (e.patches ∙ c.in_ok-patches.ensures.items ∙ shown)
          bodies;
      held = subst (AllByRecursion (IsBodyAtTop (world_with m.chain.mesh.lists bytes m.chain.tiers) m.chain.tiers)) (sym bodies)
          (round_bodies m.chain.mesh.lists bytes m.chain.tiers (words_seen m.words) m.seats m.board c.self.invariant i s at done.round done.there);
    })
