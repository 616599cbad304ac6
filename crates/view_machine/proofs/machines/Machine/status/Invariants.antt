-- The text has the lines of the tiers above this one.
use Rattle.std.proofs.Common.{◌≡◌, map, take}
use Rattle.run_model.specs.Lines.{tier_status}
use Rattle.run_model.specs.LineTexts.{tier_lines}
use Rattle.view_machine.proofs.machines.Machine.status.Given as goal

abbrev pub invariant-loop-tier : goal.invariant-loop-tier
invariant-loop-tier g l = l.text.items ≡ tier_lines 0 (map tier_status (take l.tier l.self.chain.tiers))
