use Rattle.std.proofs.Common.{◌≡◌, ℕ, List, Option, Some, sym, ap, subst, ◌∙◌}
use Rattle.std.proofs.lemmas.Option.{same_Some}
use Rattle.view_outside.specs.Files.{file_bytes}
use Rattle.round_model.specs.Refiners.{Refining, cut_of, cut_patches}
use Rattle.session_model.specs.Sessions.{SessionState}
use Rattle.session_model.specs.DoneRounds.{HasDone}
use Rattle.token_words.specs.PlainTokens.{words_seen}
use Rattle.run_model.specs.Lines.{frame_of}
use Rattle.session_seats.specs.Seats.{SeatsSeen, at_seat, IsDoneAt}
use Rattle.view_machine.specs.FrameSeats.{shown_at_top}
use Rattle.view_machine.specs.FrameSizes.{HasSize, round_size}
use Rattle.view_machine.specs.Machines.{MachineSeen}
use Rattle.view_machine.proofs.machines.Machine.size_of_round.Goals as goal

is_done : (m : SeatsSeen) (i : ℕ) (seen : SeatsSeen) → m ≡ seen → IsDoneAt seen.sessions i → IsDoneAt m.sessions i
is_done m i seen is done = subst (λ (seats : SeatsSeen). IsDoneAt seats.sessions i) (sym is) done

-- the round at a seat, where it is done
round_is : (sessions : List (Option SessionState)) (i : ℕ) (round : Refining) → ((s : SessionState) → at_seat sessions i ≡ Some s → s.round ≡ Some round) → (s : SessionState) → at_seat sessions i ≡ Some s → (done : HasDone s) → done.round ≡ round
round_is sessions i round rounds s at done = same_Some done.round round (sym done.there ∙ rounds s at)

pub round-round-requires : goal.round-round-requires
round-round-requires g c =
    let d = is_done c.self.inside.seats c.args.session c.args.self.now.seats (ap (λ (m : MachineSeen g.row.S.Denot). m.seats) c.self.view_is) c.requires in
    record { session = d.session; at = d.at; round = d.done.round; there = d.done.there }

pub top_edges-requires-clause-top : goal.top_edges-requires-clause-top
top_edges-requires-clause-top g c =
    let m = c.self.inside in
    let d = is_done m.seats c.args.session c.args.self.now.seats (ap (λ (seen : MachineSeen g.row.S.Denot). seen.seats) c.self.view_is) c.requires in
    shown_at_top m.chain.mesh.lists (file_bytes (g.S.Store.files m.chain.store) m.chain.file) m.chain.tiers (words_seen m.words) m.seats m.board c.self.invariant c.args.session c.round-round.result.now c.round-round.ensures d c.patches-patches.result.now c.patches-patches.ensures.patches

pub returns : goal.returns
returns g c =
    let m = c.self.inside in
    let i = c.args.session in
    subst (λ (seen : MachineSeen g.row.S.Denot). (s : SessionState) (done : HasDone s) → at_seat seen.seats.sessions i ≡ Some s → HasSize (frame_of seen.chain.tiers i s done.round) c.size_with.result) c.self.view_is
    (λ s done at.
    let same = round_is m.seats.sessions i c.round-round.result.now c.round-round.ensures s at done in
    round_size m.chain.tiers i s done.round c.cut.result.now c.patches-patches.result.now c.in_ok-edges.edges c.size_with.result
    (c.cut.ensures.nodes ∙ ap cut_of (sym same)) (c.patches-patches.ensures.patches ∙ ap cut_patches (sym same)) c.in_ok-edges.ensures c.size_with.ensures)
