use Rattle.std.proofs.Common.{◌≡◌, ◌&&◌, suc, ◌-◌, Bool, length, refl, sym, ap, subst, ◌∙◌, arith}
use Rattle.std.proofs.lemmas.List.{length-map}
use Rattle.frame_writer.proofs.LineLemmas.{on_err}
use Rattle.script_model.specs.declared.orders.Order.TheVariants as orders
use Rattle.tier_model.specs.Tiers.{TierState}
use Rattle.run_model.specs.Turning.{TurnsTo}
use Rattle.run_model.specs.Worlds.{World}
use Rattle.live_model.specs.LiveTurns.{is_idle}
use Rattle.view_machine.specs.FrameLines.{place_then}
use Rattle.view_machine.specs.LineOutputs.{many_tiers}
use Rattle.view_machine.specs.Machines.{world_of, run_state}
use Rattle.view_machine.specs.OwnStops.{StopsIn}
use Rattle.view_machine.specs.TurnRounds.{once_starts, once_more, once_done, turn_stops_later, turn_unwritten}
use Rattle.view_machine.proofs.machines.Machine.turn_once.Goals as goal

pub tiers-init : goal.tiers-init
tiers-init g c =
    let m = c.args.self.now in
    let many = c.tier_count-left.ensures in
    record {
      few = omega (arith, many);
      mid = once_starts (world_of m) (length (world_of m).budgets) c.tier_count-left.result (run_state m) c.args.out.now.items (many ∙ sym (length-map m.chain.tiers (λ (t : TierState). t.budget)));
      place = record { world = refl; mesh = refl; file = refl; bytes = refl; lender = refl };
      seats = refl;
      board = refl;
      files = refl;
      later = omega arith;
    }

pub returns-in_err-turn-clause-none : goal.returns-in_err-turn-clause-none
returns-in_err-turn-clause-none g c =
    let m = c.args.self.now in
    let mid = c.tiers.self in
    let new = c.turn_tier.new.self in
    on_err c.from_residual.result
    (turn_stops_later (world_of m) (run_state m) (run_state mid) (run_state new) (c.tiers.left - 1) c.tiers.invariant.mid.reaches
    (subst (λ (w : World). StopsIn w (run_state mid) (orders.Turn (c.tiers.left - 1)) (run_state new)) c.tiers.invariant.place.world c.in_err-turn.ensures.none))

pub returns-in_err-add_turn-clause-none : goal.returns-in_err-add_turn-clause-none
returns-in_err-add_turn-clause-none g c =
    let m = c.args.self.now in
    let mid = c.tiers.self in
    let new = c.turn_tier.new.self in
    on_err c.from_residual-in_err-add_turn.result
    (turn_unwritten (world_of m) (run_state m) (run_state mid) (run_state new) (c.tiers.left - 1) c.in_ok-turn.turn c.tiers.invariant.mid.reaches
    (subst (λ (w : World). TurnsTo w (c.tiers.left - 1) (run_state mid) c.in_ok-turn.turn (run_state new)) c.tiers.invariant.place.world c.in_ok-turn.ensures.turns))

pub tiers-preserved-then-idle : goal.tiers-preserved-then-idle
tiers-preserved-then-idle g c =
    let m = c.args.self.now in
    let mid = c.tiers.self in
    let new = c.turn_tier.new.self in
    let i = c.tiers.invariant in
    let e = c.turn_tier.ensures in
    let above : c.tiers.left ≡ suc (c.tiers.left - 1) = omega (arith, c.tiers-test.true) in
    let turn = subst (λ (w : World). TurnsTo w (c.tiers.left - 1) (run_state mid) c.in_ok-turn.turn (run_state new)) i.place.world c.in_ok-turn.ensures.turns in
    record {
      few = omega (arith, i.few, many_tiers mid new e.place);
      mid = once_more (world_of m) (length (world_of m).budgets) c.tiers.left (c.tiers.left - 1) (run_state m) (run_state mid) (run_state new) c.args.out.now.items c.tiers.out.items c.add_turn.new.out.items c.tiers.idle c.is_idle-idle.result c.in_ok-turn.turn above
          i.mid turn c.in_ok-add_turn.ensures.ok (c.is_idle-idle.ensures ∙ ap (λ (b : Bool). b && is_idle c.in_ok-turn.turn) (sym c.if-idle.true));
      place = place_then m mid new i.place e.place;
      seats = e.seats ∙ i.seats;
      board = e.board ∙ i.board;
      files = e.files ∙ i.files;
      later = omega (arith, i.later, e.later);
    }

pub tiers-preserved : goal.tiers-preserved
tiers-preserved g c =
    let m = c.args.self.now in
    let mid = c.tiers.self in
    let new = c.turn_tier.new.self in
    let i = c.tiers.invariant in
    let e = c.turn_tier.ensures in
    let above : c.tiers.left ≡ suc (c.tiers.left - 1) = omega (arith, c.tiers-test.true) in
    let turn = subst (λ (w : World). TurnsTo w (c.tiers.left - 1) (run_state mid) c.in_ok-turn.turn (run_state new)) i.place.world c.in_ok-turn.ensures.turns in
    record {
      few = omega (arith, i.few, many_tiers mid new e.place);
      mid = once_more (world_of m) (length (world_of m).budgets) c.tiers.left (c.tiers.left - 1) (run_state m) (run_state mid) (run_state new) c.args.out.now.items c.tiers.out.items c.add_turn.new.out.items c.tiers.idle c.tiers.idle c.in_ok-turn.turn above
          i.mid turn c.in_ok-add_turn.ensures.ok (c.if-idle.false ∙ ap (λ (b : Bool). b && is_idle c.in_ok-turn.turn) (sym c.if-idle.false));
      place = place_then m mid new i.place e.place;
      seats = e.seats ∙ i.seats;
      board = e.board ∙ i.board;
      files = e.files ∙ i.files;
      later = omega (arith, i.later, e.later);
    }

pub returns-clause-once : goal.returns-clause-once
returns-clause-once g c =
    let m = c.args.self.now in
    once_done (world_of m) c.tiers.left (run_state m) (run_state c.tiers.self) c.args.out.now.items c.tiers.out.items c.tiers.idle (omega (arith, c.tiers-test.false)) c.tiers.invariant.mid
