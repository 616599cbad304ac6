use Rattle.std.proofs.Common.{map, take}
use Rattle.tier_model.specs.declared.turns.Coming.{Coming}
use Rattle.text_model.specs.Lines.{Adds, spaced, decimals}
use Rattle.run_texts.proofs.tiers.write_coming.Given as goal

abbrev pub invariant-loop-one : goal.invariant-loop-one
invariant-loop-one l = Adds l.fn.out.items l.out.items (spaced (decimals (map (λ (c : Coming). c.patch) (take l.one-index l.coming))))
