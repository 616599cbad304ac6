use Rattle.std.proofs.Common.{◌≡◌, suc, ◌-◌, refl, subst, ◌∙◌, arith}
use Rattle.frame_writer.proofs.LineLemmas.{on_err}
use Rattle.run_model.specs.Worlds.{World}
use Rattle.view_machine.specs.FrameLines.{place_then}
use Rattle.view_machine.specs.Machines.{world_of, run_state}
use Rattle.view_machine.specs.Stops.{StopsAt}
use Rattle.view_machine.specs.TurnRounds.{AddsOnce, rounds_begin, rounds_more, rounds_idle, rounds_done, stops_later}
use Rattle.view_machine.proofs.machines.Machine.turn_rounds.Goals as goal

pub rounds-init : goal.rounds-init
rounds-init g c =
    let m = c.args.self.now in
    record {
      mid = rounds_begin (world_of m) c.args.rounds (run_state m) c.args.out.now.items;
      place = record { world = refl; mesh = refl; file = refl; bytes = refl; lender = refl };
      seats = refl;
      board = refl;
      files = refl;
      later = omega arith;
    }

pub returns-in_err-turn_once-clause-none : goal.returns-in_err-turn_once-clause-none
returns-in_err-turn_once-clause-none g c =
    let m = c.args.self.now in
    let mid = c.rounds.self in
    let new = c.turn_once.new.self in
    on_err c.from_residual.result
    (stops_later (world_of m) (run_state m) (run_state mid) (run_state new) c.rounds.invariant.mid.reaches
    (subst (λ (w : World). StopsAt w (run_state mid) (run_state new)) c.rounds.invariant.place.world c.in_err-turn_once.ensures.none))

pub returns-then-branch-clause-rounds : goal.returns-then-branch-clause-rounds
returns-then-branch-clause-rounds g c =
    let m = c.args.self.now in
    let mid = c.rounds.self in
    let new = c.turn_once.new.self in
    let above : c.rounds.left ≡ suc (c.rounds.left - 1) = omega (arith, c.rounds-test.true) in
    rounds_idle (world_of m) c.args.rounds c.rounds.left (c.rounds.left - 1) (run_state m) (run_state mid) (run_state new) c.args.out.now.items c.rounds.out.items c.turn_once.new.out.items c.in_ok-turn_once.field-0 above c.rounds.invariant.mid
    (subst (λ (w : World). AddsOnce w (run_state mid) (run_state new) c.rounds.out.items c.turn_once.new.out.items c.in_ok-turn_once.field-0) c.rounds.invariant.place.world c.in_ok-turn_once.ensures.once)
    c.if-branch.true

pub rounds-preserved : goal.rounds-preserved
rounds-preserved g c =
    let m = c.args.self.now in
    let mid = c.rounds.self in
    let new = c.turn_once.new.self in
    let i = c.rounds.invariant in
    let e = c.turn_once.ensures in
    let above : c.rounds.left ≡ suc (c.rounds.left - 1) = omega (arith, c.rounds-test.true) in
    record {
      mid = rounds_more (world_of m) c.args.rounds c.rounds.left (c.rounds.left - 1) (run_state m) (run_state mid) (run_state new) c.args.out.now.items c.rounds.out.items c.turn_once.new.out.items c.in_ok-turn_once.field-0 above i.mid
          (subst (λ (w : World). AddsOnce w (run_state mid) (run_state new) c.rounds.out.items c.turn_once.new.out.items c.in_ok-turn_once.field-0) i.place.world c.in_ok-turn_once.ensures.once)
          c.if-branch.false;
      place = place_then m mid new i.place e.place;
      seats = e.seats ∙ i.seats;
      board = e.board ∙ i.board;
      files = e.files ∙ i.files;
      later = omega (arith, i.later, e.later);
    }

pub returns-clause-rounds : goal.returns-clause-rounds
returns-clause-rounds g c =
    let m = c.args.self.now in
    rounds_done (world_of m) c.args.rounds c.rounds.left (run_state m) (run_state c.rounds.self) c.args.out.now.items c.rounds.out.items (omega (arith, c.rounds-test.false)) c.rounds.invariant.mid
