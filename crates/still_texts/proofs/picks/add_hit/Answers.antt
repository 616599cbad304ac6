use Rattle.std.proofs.Common.{SFits, rules}
use Rattle.std.specs.Int.{w128}
use Rattle.std.proofs.lemmas.Int.{to_z-of_z}
use Rattle.still_texts.specs.Picks.{hit_line}
use Rattle.still_texts.proofs.picks.add_hit.Goals as goal

pub returns : goal.returns
unfolding hit_line
returns c =
    let above : SFits w128 c.args.hit.above = search rules in
    let below : SFits w128 c.args.hit.below = search rules in
    rw (to_z-of_z w128 c.args.hit.above above, to_z-of_z w128 c.args.hit.below below, c.from.ensures, c.from-2.ensures) at c.add_line.ensures.ok
