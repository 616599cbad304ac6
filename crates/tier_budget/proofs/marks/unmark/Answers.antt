-- One more patch isn't marked any more.
use Rattle.std.proofs.Common.{false, refl, ap, ◌∙◌, length, replicate, ◌<◌, arith}
use Rattle.std.specs.Prelude.{slice_index}
use Rattle.std.proofs.lemmas.List.{length-set}
use Rattle.tier_budget.proofs.MarkSteps.{last_of_all, last_fewer, none_left}
use Rattle.tier_budget.proofs.marks.unmark.Goals as goal

pub loop-patch-init : goal.loop-patch-init
loop-patch-init c = record { sized = refl; last = last_of_all _ _ c.requires }

pub loop-patch-preserved : goal.loop-patch-preserved
loop-patch-preserved c =
    let patch = slice_index c.args.listed.now c.loop-patch.patch-index in
    let within : patch < length c.loop-patch.marks = (let there = c.requires.patches c.loop-patch.patch-index c.loop-patch-test.true in let sized = c.loop-patch.invariant.sized in omega arith) in
    record {
      sized = length-set c.loop-patch.marks patch false ∙ c.loop-patch.invariant.sized;
      last = last_fewer c.loop-patch.marks c.args.listed.now c.loop-patch.patch-index patch refl within c.loop-patch.invariant.last;
    }

pub returns : goal.returns
returns c = none_left c.loop-patch.marks c.args.listed.now c.loop-patch.patch-index c.loop-patch-test.false c.loop-patch.invariant.last ∙ ap (λ n. replicate n false) c.loop-patch.invariant.sized
