use Rattle.ray_pick.proofs.WideNumbers.{product_is, product_bound}
use Rattle.ray_pick.proofs.vectors.product.Goals as goal

pub returns-clause-value : goal.returns-clause-value
returns-clause-value c = product_is c.args.a c.args.b c.ranges.a c.ranges.b c.requires.first c.requires.second

pub returns-clause-bound : goal.returns-clause-bound
returns-clause-bound c =
    rw (product_is c.args.a c.args.b c.ranges.a c.ranges.b c.requires.first c.requires.second) (product_bound c.args.a c.args.b c.requires.first c.requires.second)
