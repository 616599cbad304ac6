use Rattle.std.proofs.Common.{◌≡◌, ℕ, ◌+◌, List, map, Option, Some, sym, ap, subst, ◌∙◌}
use Rattle.std.specs.Arc.{arc_value}
use Rattle.std.proofs.lemmas.Option.{same_Some}
use Rattle.view_outside.specs.Files.{file_bytes}
use Rattle.round_model.specs.Refiners.{Refining, cut_of, cut_patches}
use Rattle.session_model.specs.Sessions.{SessionState}
use Rattle.session_model.specs.DoneRounds.{HasDone}
use Rattle.token_words.specs.PlainTokens.{words_seen}
use Rattle.frame_writer.specs.Frames.{AreBodiesOf}
use Rattle.text_model.specs.FrameText.{IsFrameText}
use Rattle.run_model.specs.Lines.{top_body, frame_of}
use Rattle.session_seats.specs.Seats.{SeatsSeen, at_seat, IsDoneAt}
use Rattle.view_machine.specs.Machines.{MachineSeen}
use Rattle.view_machine.specs.FrameLines.{bodies_of_patches, round_frame, first_frame}
use Rattle.view_machine.specs.FrameSeats.{shown_at_top}
use Rattle.view_machine.proofs.machines.Machine.frame_of_round.Goals as goal

-- the round that was done, of the session that stands there
is_done : (m : SeatsSeen) (i : ℕ) (seen : SeatsSeen) → m ≡ seen → IsDoneAt seen.sessions i → IsDoneAt m.sessions i
is_done m i seen is done = subst (λ (seats : SeatsSeen). IsDoneAt seats.sessions i) (sym is) done

-- the round at a seat, where it is done
round_is : (sessions : List (Option SessionState)) (i : ℕ) (round : Refining) → ((s : SessionState) → at_seat sessions i ≡ Some s → s.round ≡ Some round) → (s : SessionState) → at_seat sessions i ≡ Some s → (done : HasDone s) → done.round ≡ round
round_is sessions i round rounds s at done = same_Some done.round round (sym done.there ∙ rounds s at)

pub round-round-requires : goal.round-round-requires
round-round-requires g c =
    let d = is_done c.self.inside.seats c.args.session c.args.self.now.seats (ap (λ (m : MachineSeen g.row.S.Denot). m.seats) c.self.view_is) c.requires.done in
    record { session = d.session; at = d.at; round = d.done.round; there = d.done.there }

pub shared_bodies-requires : goal.shared_bodies-requires
shared_bodies-requires g c =
    let m = c.self.inside in
    let d = is_done m.seats c.args.session c.args.self.now.seats (ap (λ (seen : MachineSeen g.row.S.Denot). seen.seats) c.self.view_is) c.requires.done in
    shown_at_top m.chain.mesh.lists (file_bytes (g.S.Store.files m.chain.store) m.chain.file) m.chain.tiers (words_seen m.words) m.seats m.board c.self.invariant c.args.session c.round-round.result.now c.round-round.ensures d c.patches-patches.result.now c.patches-patches.ensures.patches

pub frame_text-requires-clause-bodies : goal.frame_text-requires-clause-bodies
frame_text-requires-clause-bodies g c =
    let m = c.self.inside in
    let d = is_done m.seats c.args.session c.args.self.now.seats (ap (λ (seen : MachineSeen g.row.S.Denot). seen.seats) c.self.view_is) c.requires.done in
    let patches = c.patches-patches.result.now in
    let top = shown_at_top m.chain.mesh.lists (file_bytes (g.S.Store.files m.chain.store) m.chain.file) m.chain.tiers (words_seen m.words) m.seats m.board c.self.invariant c.args.session c.round-round.result.now c.round-round.ensures d patches c.patches-patches.ensures.patches in
    let are : map arc_value c.deref.result.now ≡ map (top_body m.chain.tiers) patches = ap (map arc_value) c.deref.ensures.value ∙ c.in_ok-bodies.ensures in
    subst (AreBodiesOf patches) (sym are) (bodies_of_patches m.chain.mesh.lists.index.fields m.chain.tiers patches top)

pub returns : goal.returns
returns g c =
    let m = c.self.inside in
    let i = c.args.session in
    let patches = c.patches-patches.result.now in
    let are : map arc_value c.deref.result.now ≡ map (top_body m.chain.tiers) patches = ap (map arc_value) c.deref.ensures.value ∙ c.in_ok-bodies.ensures in
    subst (λ (seen : MachineSeen g.row.S.Denot). (s : SessionState) (done : HasDone s) → at_seat seen.seats.sessions i ≡ Some s → IsFrameText (frame_of seen.chain.tiers i s done.round) c.frame_text.new.out.items) c.self.view_is
    (λ s done at.
    let same = round_is m.seats.sessions i c.round-round.result.now c.round-round.ensures s at done in
    let shown : patches ≡ cut_patches done.round = c.patches-patches.ensures.patches ∙ ap cut_patches (sym same) in
    first_frame _ c.frame_text.new.out.items _ (frame_of m.chain.tiers i s done.round) c.new-text.ensures.items
    (round_frame m.chain.tiers i s done.round _ c.cut.result.now c.tries.result.now patches (map arc_value c.deref.result.now)
    (ap (λ (n : ℕ). n + 1) (c.frames-number.ensures.value s at))
    (c.cut.ensures.nodes ∙ ap cut_of (sym same))
    (c.tries.ensures.value ∙ ap (λ (r : Refining). r.tries) (sym same))
    shown
    (are ∙ ap (map (top_body m.chain.tiers)) shown))
    c.in_ok-frame_text.ensures.ok)
