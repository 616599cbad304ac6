-- The settling's log has a line a turn.
use Rattle.std.proofs.Common.{◌≡◌, ℕ, length, subst, arith}
use Rattle.bench_run.specs.Ran.{HasSettled, has_settled}
use Rattle.bench_run.proofs.runs.settle.Goals as goal

pub returns : goal.returns
returns c =
    let e = c.in_ok-settle_tiers.ensures in
    let many : length c.settle_tiers.new.log.items ≡ c.len.result = omega arith in
    subst (λ (n : ℕ). HasSettled c.args.machine.now c.settle_tiers.new.self n) many
    (has_settled c.args.machine.now c.settle_tiers.new.self c.new-log.result.items c.settle_tiers.new.log.items _ _ c.new-log.ensures.items e.settles e.place e.seats)
