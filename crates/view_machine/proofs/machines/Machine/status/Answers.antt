use Rattle.std.proofs.Common.{◌≡◌, ◌≤◌, length, ap, ◌∙◌, arith}
use Rattle.mesh_graph.specs.ListReads.{slice_get-there}
use Rattle.run_model.specs.LineTexts.{tier_lines}
use Rattle.view_machine.specs.Machines.{MachineSeen, world_of}
use Rattle.view_machine.specs.TextSteps.{tier_text_more, status_text}
use Rattle.view_machine.proofs.machines.Machine.status.Goals as goal

pub loop-tier-init : goal.loop-tier-init
unfolding tier_lines
loop-tier-init g c = c.new-text.ensures.items

pub loop-tier-preserved : goal.loop-tier-preserved
loop-tier-preserved g c =
    let tiers = c.args.self.now.chain.tiers in
    let many : c.tier_count-tier-end.result ≡ length tiers = c.tier_count-tier-end.ensures.value ∙ ap (λ (m : MachineSeen g.row.S.Denot). length m.chain.tiers) c.self.view_is in
    let before = c.loop-tier-test.true in
    let there = slice_get-there tiers c.loop-tier.tier (omega arith) in
    tier_text_more tiers c.loop-tier.tier there.0 c.loop-tier.text.items c.add_tier_of.new.out.items there.1 c.loop-tier.invariant (c.in_ok-add_tier_of.ensures there.0 there.1)

pub returns : goal.returns
returns g c =
    let m = c.args.self.now in
    let many : c.tier_count-tier-end.result ≡ length m.chain.tiers = c.tier_count-tier-end.ensures.value ∙ ap (λ (seen : MachineSeen g.row.S.Denot). length seen.chain.tiers) c.self.view_is in
    let past = c.loop-tier-test.false in
    let all : length m.chain.tiers ≤ c.loop-tier.tier = omega arith in
    record { line = status_text (world_of m) m.chain.tiers m.words m.seats m.board c.loop-tier.tier c.loop-tier.text.items all c.loop-tier.invariant }
