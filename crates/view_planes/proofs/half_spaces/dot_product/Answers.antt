use Rattle.std.proofs.Common.{◌&&◌, SFits, w32, rules}
use Rattle.std.proofs.lemmas.Int.{to_z-of_z}
use Rattle.std.proofs.lemmas.Bool.{and_parts, leb-true}
use Rattle.std.specs.Prelude.{unsigned_abs}
use Rattle.grid_vertex.specs.Points.{is_within}
use Rattle.view_planes.proofs.half_spaces.dot_product.Goals as goal

pub axis_product-requires-3-clause-normal : goal.axis_product-requires-3-clause-normal
axis_product-requires-3-clause-normal c =
    let n = c.args.normal in
    let fits : SFits w32 n.z = search rules in
    rw (to_z-of_z w32 n.z fits) (leb-true (unsigned_abs n.z) 1024 (and_parts (is_within 1024 n.x && is_within 1024 n.y) (is_within 1024 n.z) c.requires.normal).1)

pub axis_product-requires-3-clause-point : goal.axis_product-requires-3-clause-point
axis_product-requires-3-clause-point c =
    let p = c.args.point in
    let fits : SFits w32 p.z = search rules in
    rw (to_z-of_z w32 p.z fits) (leb-true (unsigned_abs p.z) 1048576 (and_parts (is_within 1048576 p.x && is_within 1048576 p.y) (is_within 1048576 p.z) c.requires.point).1)
