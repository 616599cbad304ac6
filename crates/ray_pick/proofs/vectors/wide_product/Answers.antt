use Rattle.std.proofs.Common.{◌∙◌, w64}
use Rattle.std.proofs.lemmas.Int.{to_z-of_z}
use Rattle.ray_pick.proofs.WideNumbers.{wide_bound}
use Rattle.ray_pick.proofs.vectors.wide_product.Goals as goal

pub returns-clause-bound : goal.returns-clause-bound
returns-clause-bound c =
    wide_bound c.from.result c.from-2.result c.args.minor c.args.coordinate (c.from.ensures ∙ to_z-of_z w64 c.args.minor c.ranges.minor) (c.from-2.ensures ∙ to_z-of_z w64 c.args.coordinate c.ranges.coordinate) c.requires.minor c.requires.coordinate
